-- The program of a tree: its words and their codes in one array.
use mathlib.Core.Path.{◌≡◌, refl, sym, ◌∙◌, ap, subst}
use mathlib.Core.Bool.{Bool, true, false}
use mathlib.Core.List.{List, [], ◌∷◌}
use Prim.Native.Nat.{ℕ, zero, suc, ◌≤◌}
use native.Mathlib.Omega.{arith}
use lib.Dec.{ltb}
use lib.Seq.{take_at, drop_at, length-take-le}
use lib.ListN.{length, get_or, take, drop, replicate, get_or-eq_default}
use borrow.Author.Tests.{ltb-true, ltb-false}
use Rattle.language.specs.Limits.{Limits}
use Rattle.machine.specs.State.{Tables}
use Rattle.machine.specs.Codes.{codes_of}
use Rattle.machine.specs.Program.{tree_in, codes_in}
use Rattle.machine.specs.Shown.{program}
use Rattle.coding.specs.Coding.{Blank, CodesWritten}
use Rattle.gate.specs.Steps.{Came, cleared_after, copied, script_of, RightCodes, Programmed, RunCoded}

-- ---- copying

-- what stands in front, and what behind it
copied_front : (n : ℕ) (t p : List ℕ) → n ≤ length t → take n (copied n t p) ≡ take n t
copied_front n t p h = take_at (take n t) (drop n p) n (length-take-le n t h)

copied_behind : (n : ℕ) (t p : List ℕ) → n ≤ length t → drop n (copied n t p) ≡ drop n p
copied_behind n t p h = drop_at (take n t) (drop n p) n (length-take-le n t h)

-- ---- the program

module _ (text tree prog prog₁ binders prog' : List ℕ) (long : 4096 ≤ length tree) (copy : prog₁ ≡ copied 4096 tree prog) (wide : 4096 ≤ length binders)
    (written : CodesWritten text prog₁ binders prog') where
  front : tree_in prog₁ ≡ take 4096 tree
  unfolding tree_in
  front = ap (take 4096) copy ∙ copied_front 4096 tree prog long

  blank : Blank prog → Blank prog₁
  unfolding Blank codes_in
  blank b = λ i. ap (λ (l : List ℕ). get_or (take 4096 l) i 0) (ap (drop 4096) copy ∙ copied_behind 4096 tree prog long) ∙ b i

  pub programmed : Programmed text tree prog prog'
  programmed =
      record {
        tree_is = λ h k. written.tree_kept ∙ front;
        codes_are = λ h k b i l.
            subst (λ (t : List ℕ). get_or (codes_in prog') i 0 ≡ get_or (codes_of (script_of t text)) i 0) front (written.codes_are wide (blank b) i l);
      }

-- ---- an array of zeros

zero_drop : (n : ℕ) (l : List ℕ) → ((j : ℕ) → get_or l j 0 ≡ 0) → (j : ℕ) → get_or (drop n l) j 0 ≡ 0
zero_drop zero l h j = h j
zero_drop (suc n) [] h j = refl
zero_drop (suc n) (x ∷ l) h j = zero_drop n l (λ i. h (suc i)) j

zero_take : (n : ℕ) (l : List ℕ) → ((j : ℕ) → get_or l j 0 ≡ 0) → (j : ℕ) → get_or (take n l) j 0 ≡ 0
zero_take zero l h j = refl
zero_take (suc n) [] h j = refl
zero_take (suc n) (x ∷ l) h zero = h zero
zero_take (suc n) (x ∷ l) h (suc j) = zero_take n l (λ i. h (suc i)) j

zeros : (n j : ℕ) → ◌≡◌ {A = ℕ} (get_or (replicate n 0) j 0) 0
zeros zero j = refl
zeros (suc n) zero = refl
zeros (suc n) (suc j) = zeros n j

pub zeros_blank : (n : ℕ) → Blank (replicate n 0)
unfolding Blank codes_in
zeros_blank n = λ i. zero_take 4096 (drop 4096 (replicate n 0)) (zero_drop 4096 (replicate n 0) (zeros n)) i

-- ---- the run

low : (n : ℕ) → 0 ≤ n
low n = omega arith

up : (a b : ℕ) → a ≤ b → suc a ≤ suc b
up a b h = omega (arith, h)

take_short : (n : ℕ) (l : List ℕ) → length (take n l) ≤ n
take_short zero l = low 0
take_short (suc n) [] = low (suc n)
take_short (suc n) (x ∷ l) = up (length (take n l)) n (take_short n l)

pub coded_run : (n : ℕ) (L : Limits) (text tree prog prog' : List ℕ) (m : Tables) (x : Came) → Programmed text tree prog prog' → 4096 ≤ length tree →
    4096 ≤ length prog → Blank prog → x ≡ cleared_after n L (program (tree_in prog') (codes_in prog') L m) → RunCoded n L text (take 4096 tree) m x
unfolding codes_in
coded_run n L text tree prog prog' m x h long room b e =
    record {
      codes = codes_in prog';
      short = take_short 4096 (drop 4096 prog');
      right = h.codes_are long room b;
      came_is = subst (λ (t : List ℕ). x ≡ cleared_after n L (program t (codes_in prog') L m)) (h.tree_is long room) e;
    }

-- a program has room for its tree words
pub front_room : (l : List ℕ) → 8192 ≤ length l → 4096 ≤ length l
front_room l h = omega (arith, h)

-- codes that are right for all nodes there can be are right
pub right_all : (text t codes : List ℕ) → length codes ≤ 4096 → RightCodes text t codes → length (codes_of (script_of t text)) ≤ 4096 →
    (i : ℕ) → get_or codes i 0 ≡ get_or (codes_of (script_of t text)) i 0
right_all text t codes short right few i = by (ltb i 4096) refl
  where
    by : (b : Bool) → ltb i 4096 ≡ b → get_or codes i 0 ≡ get_or (codes_of (script_of t text)) i 0
    by true e = right i (ltb-true i 4096 e)
    by false e =
        let l = ltb-false i 4096 e in
        get_or-eq_default codes 0 (omega (arith, l, short)) ∙ sym (get_or-eq_default (codes_of (script_of t text)) 0 (omega (arith, l, few)))
