-- Lists read and written at an index, the output table, and tests of counts.
use mathlib.Core.Path.{◌≡◌, refl, sym, ap, ◌∙◌}
use mathlib.Core.Logic.{◌≢◌, ⊎_elim}
use Prim.Native.Nat.{ℕ, zero, suc, ◌+◌, ◌≤◌, ◌<◌}
use native.Mathlib.Nat.{not-suc-le-zero}
use native.Mathlib.Omega.{arith}
use mathlib.Core.Bool.{Bool, true, false}
use mathlib.Core.List.{List, [], ◌∷◌, ◌++◌, append_assoc}
use mathlib.Core.Option.{Option, none, some, none-ne-some, some-injective}
use lib.Dec.{T, ltb, leb, leb→le, le→leb, ltb→lt, lt→ltb, leb-zero, leb-suc-zero, leb-suc-suc}
use lib.IntN.{ℤ, pos}
use lib.ListN.{length, get_or, set, drop, replicate, length-append}
use lib.Seq.{drop-cons, set-append_seam}
use Rattle.language.specs.Rules.{Val, Cell, nth, behind, store}
use Rattle.nodes.proofs.Links.{below_or_not}

-- a form is asked for: by the rules as an option, by the machine as a test
pub data Asks {A : Type 0} (Q : A → Type 0) : Option A → Bool → Type 0 where
  asks_yes : {a : A} → Q a → Asks Q (some a) true
  asks_no : Asks Q none false

-- ---- cells

pub asks_entry : {A : Type 0} (l : List A) (a : ℕ) → Asks (λ c. nth l a ≡ some c) (nth l a) (ltb a (length l))
asks_entry [] a = rw (leb-suc-zero a) asks_no
asks_entry (x ∷ l) zero = rw (leb-suc-suc 0 (length l), leb-zero (length l)) (asks_yes refl)
asks_entry (x ∷ l) (suc a) = rw (leb-suc-suc (suc a) (length l)) (asks_entry l a)

pub asks_nth : {A : Type 0} (l : List A) (a n : ℕ) → length l ≡ n → Asks (λ c. nth l a ≡ some c) (nth l a) (ltb a n)
asks_nth l a n h = rw (← h) (asks_entry l a)

-- an entry of a list with n more at its end, all the same
pub data Filled {A : Type 0} (l : List A) (n : ℕ) (o : A) (a : ℕ) (c : A) : Type 0 where
  early : nth l a ≡ some c → a < length l → Filled l n o a c
  late : length l ≤ a → a < n + length l → o ≡ c → Filled l n o a c

filled_more : {A : Type 0} {l : List A} {n : ℕ} {o x : A} {a : ℕ} {c : A} → Filled l n o a c → Filled (x ∷ l) n o (suc a) c
filled_more (early h n) = early h (omega arith)
filled_more (late h k e) = late (omega arith) (omega arith) e

pub nth_filled : {A : Type 0} (l : List A) (n : ℕ) (o : A) (a : ℕ) (c : A) → nth (l ++ replicate n o) a ≡ some c → Filled l n o a c
nth_filled [] zero o a c h = absurd (none-ne-some _ h)
nth_filled [] (suc n) o zero c h = late (omega arith) (omega arith) (some-injective _ _ h)
nth_filled [] (suc n) o (suc a) c h = go (nth_filled [] n o a c h)
  where
    go : Filled [] n o a c → Filled [] (suc n) o (suc a) c
    go (early e k) = absurd (not-suc-le-zero k)
    go (late k i e) = late (omega arith) (omega arith) e
nth_filled (x ∷ l) n o zero c h = early h (omega arith)
nth_filled (x ∷ l) n o (suc a) c h = filled_more (nth_filled l n o a c h)

-- an entry of a list with one put in
pub data Put {A : Type 0} (l : List A) (a : ℕ) (x : A) (b : ℕ) (c : A) : Type 0 where
  here : b ≡ a → x ≡ c → Put l a x b c
  there : b ≢ a → nth l b ≡ some c → Put l a x b c

put_more : {A : Type 0} {l : List A} {x y : A} {a b : ℕ} {c : A} → Put l a x b c → Put (y ∷ l) (suc a) x (suc b) c
put_more (here e h) = here (ap suc e) h
put_more (there n h) = there (omega arith) h

-- the cell c with the value v in it
abbrev pub holding : Cell → Val → Cell
holding c v = record { made = c.made; holds = some v }

-- cells with the value v in the cell a
pub record Stored (l : List Cell) (a : ℕ) (v : Val) (r : List Cell) : Type 0 where
  pub was : Cell
  pub before : nth l a ≡ some was
  pub within : a < length l
  pub long : length r ≡ length l
  pub puts : (b : ℕ) (c : Cell) → nth r b ≡ some c → Put l a (holding was v) b c

stored_here : (x : Cell) (l : List Cell) (v : Val) (b : ℕ) (c : Cell) → nth (holding x v ∷ l) b ≡ some c → Put (x ∷ l) 0 (holding x v) b c
stored_here x l v zero c h = here refl (some-injective _ _ h)
stored_here x l v (suc b) c h = there (omega arith) h

stored_there : (x y : Cell) (l r : List Cell) (a : ℕ) → ((b : ℕ) (c : Cell) → nth r b ≡ some c → Put l a y b c) → (b : ℕ) (c : Cell) → nth (x ∷ r) b ≡ some c →
    Put (x ∷ l) (suc a) y b c
stored_there x y l r a f zero c h = there (omega arith) h
stored_there x y l r a f (suc b) c h = put_more (f b c h)

stored_behind : (x : Cell) {l : List Cell} {a : ℕ} {v : Val} {o : Option (List Cell)} {t : Bool} →
    Asks (Stored l a v) o t → Asks (Stored (x ∷ l) (suc a) v) (behind x o) t
stored_behind x (asks_yes s) = asks_yes (record {
  was = s.was;
  before = s.before;
  within = let h = s.within in omega (arith, h);
  long = ap suc s.long;
  puts = stored_there x _ _ _ _ s.puts;
})
stored_behind x asks_no = asks_no

asks_store : (l : List Cell) (a : ℕ) (v : Val) → Asks (Stored l a v) (store l a v) (ltb a (length l))
asks_store [] a v = rw (leb-suc-zero a) asks_no
asks_store (x ∷ l) zero v =
    rw (leb-suc-suc 0 (length l), leb-zero (length l))
    (asks_yes (record { was = x; before = refl; within = omega arith; long = refl; puts = stored_here x l v }))
asks_store (x ∷ l) (suc a) v = rw (leb-suc-suc (suc a) (length l)) (stored_behind x (asks_store l a v))

pub asks_stored : (l : List Cell) (a n : ℕ) (v : Val) → length l ≡ n → Asks (Stored l a v) (store l a v) (ltb a n)
asks_stored l a n v h = rw (← h) (asks_store l a v)

-- ---- the output: the numbers put out, and what was there behind them

length_snoc : (l : List ℤ) (z : ℤ) → length (l ++ z ∷ []) ≡ suc (length l)
length_snoc l z = let e = length-append l (z ∷ []) in omega (arith, e)

pub one_more : (l old : List ℤ) (z : ℤ) → length l < length old →
    set (l ++ drop (length l) old) (length l) z ≡ (l ++ z ∷ []) ++ drop (length (l ++ z ∷ [])) old
one_more l old z h =
    ap (λ (d : List ℤ). set (l ++ d) (length l) z) (drop-cons old (length l) (pos 0) h) ∙
    set-append_seam l (get_or old (length l) (pos 0)) (drop (suc (length l)) old) z ∙
    ap (λ (n : ℕ). l ++ z ∷ drop n old) (sym (length_snoc l z)) ∙
    sym (append_assoc l (z ∷ []) (drop (length (l ++ z ∷ [])) old))

pub length_put : (l : List ℤ) (z : ℤ) (n : ℕ) → length l ≡ n → length (l ++ z ∷ []) ≡ suc n
length_put l z n h = length_snoc l z ∙ ap suc h

-- ---- tests of counts: what is taken and what is left

pub at_least : (a b : ℕ) → (T (ltb a b) → ⊥) → b ≤ a
at_least a b h = ⊎_elim (λ l. absurd (h (lt→ltb a b l))) (λ l. l) (below_or_not a b)

pub unit_is : (u k f : ℕ) → u + k ≡ f → (T (ltb u f) → T (ltb 0 k)) × (T (ltb 0 k) → T (ltb u f))
unit_is u k f h = omega (arith, ltb→lt, lt→ltb)

pub room_is : (n a b f : ℕ) → a ≡ b → (T (leb (n + a) f) → T (leb (n + b) f)) × (T (leb (n + b) f) → T (leb (n + a) f))
room_is n a b f h = omega (arith, leb→le, le→leb)

pub room_one : (a b f : ℕ) → a ≡ b → (T (leb (1 + a) f) → T (leb (suc b) f)) × (T (leb (suc b) f) → T (leb (1 + a) f))
room_one a b f h = omega (arith, leb→le, le→leb)
