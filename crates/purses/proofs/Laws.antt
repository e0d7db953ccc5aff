-- What the functions' proofs use: entries made or not, the first record of some bytes, one store after the other.
use mathlib.Core.Path.{◌≡◌, refl, sym, ap, subst, ◌∙◌}
use mathlib.Core.Bool.{Bool, true, false, cond}
use mathlib.Core.List.{List, [], ◌∷◌}
use mathlib.Core.Option.{Option, none, some}
use Prim.Native.Nat.{ℕ, zero, suc, ◌+◌, ◌-◌, ◌*◌, ◌/◌, ◌%◌, ◌≤◌, ◌<◌, min}
use native.Mathlib.Nat.{not-suc-le-zero, le_of_suc-le-suc}
use native.Mathlib.Omega.{arith}
use native.Mathlib.Numerals.{add-one}
use lib.Dec.{eqb, leb}
use lib.ListN.{length, get_or, set, take, drop, length-set, length-drop}
use lib.Seq.{take_all, drop-drop}
use borrow.Author.Tests.{leb-true, leb-false, eq-eqb, ne_eqb}
use Rattle.purse_model.specs.Journal.{purse_count, Purses, Kind, entry, mark, record_bytes, kind_of, entry_of, entry_in, moved_by, back, read_record, read_on, read_back}
use Rattle.purse_model.specs.Purses.{World, world, Step, store, made, after, stores_from}
use Rattle.purse_model.proofs.Standing.{read_few}
use Rattle.purses.specs.Meant.{Entered, ReadsAs}
use Rattle.std.specs.Prelude.{Some, is_err, Result, Ok, Err}
use Rattle.std.specs.Prelude as rust
use Rattle.purses.specs.declared.entries.NoEntry.{NoEntry}

-- what an answer tells
pub differ : {A : Type 0} {t : Bool} → t ≡ true → t ≡ false → A
differ e f = let z : ◌≡◌ {A = ℕ} 0 1 = ap (elim [ true ↦ 0 | false ↦ 1 ]) (sym e ∙ f) in absurd (omega arith)

-- ---- the first record of some bytes

data Eight : List ℕ → Type 0 where
  eight : (b₀ b₁ b₂ b₃ b₄ b₅ b₆ b₇ : ℕ) (t : List ℕ) → Eight (b₀ ∷ b₁ ∷ b₂ ∷ b₃ ∷ b₄ ∷ b₅ ∷ b₆ ∷ b₇ ∷ t)

eight_of : (l : List ℕ) → record_bytes ≤ length l → Eight l
eight_of [] h = absurd (omega arith)
eight_of (b₀ ∷ []) h = absurd (omega arith)
eight_of (b₀ ∷ b₁ ∷ []) h = absurd (omega arith)
eight_of (b₀ ∷ b₁ ∷ b₂ ∷ []) h = absurd (omega arith)
eight_of (b₀ ∷ b₁ ∷ b₂ ∷ b₃ ∷ []) h = absurd (omega arith)
eight_of (b₀ ∷ b₁ ∷ b₂ ∷ b₃ ∷ b₄ ∷ []) h = absurd (omega arith)
eight_of (b₀ ∷ b₁ ∷ b₂ ∷ b₃ ∷ b₄ ∷ b₅ ∷ []) h = absurd (omega arith)
eight_of (b₀ ∷ b₁ ∷ b₂ ∷ b₃ ∷ b₄ ∷ b₅ ∷ b₆ ∷ []) h = absurd (omega arith)
eight_of (b₀ ∷ b₁ ∷ b₂ ∷ b₃ ∷ b₄ ∷ b₅ ∷ b₆ ∷ b₇ ∷ t) h = eight b₀ b₁ b₂ b₃ b₄ b₅ b₆ b₇ t

-- what the entry of a record's bytes moves
abbrev pub moved_in : Purses → List ℕ → Option Purses
moved_in P l = moved_by P (entry_in (get_or l 0 0) (get_or l 1 0) (get_or l 2 0) (get_or l 3 0) (get_or l 4 0) (get_or l 5 0) (get_or l 6 0))

read_first : (P : Purses) (n : ℕ) {l : List ℕ} → Eight l →
    read_on P n l ≡ read_record (eqb (get_or l 7 0) mark) (moved_in P l) (back P n true) (back P n false) (λ Q. read_on Q (suc n) (drop record_bytes l))
read_first P n (eight b₀ b₁ b₂ b₃ b₄ b₅ b₆ b₇ t) = refl

module _ (P : Purses) (l : List ℕ) (h : record_bytes ≤ length l) where
  pub no_mark : (get_or l 7 0 ≡ mark → ⊥) → (n : ℕ) → read_on P n l ≡ back P n true
  no_mark e n =
      read_first P n (eight_of l h) ∙
      ap (λ (t : Bool). read_record t (moved_in P l) (back P n true) (back P n false) (λ Q. read_on Q (suc n) (drop record_bytes l))) (ne_eqb (get_or l 7 0) mark e)

  with_mark : get_or l 7 0 ≡ mark → (n : ℕ) → read_on P n l ≡ read_record true (moved_in P l) (back P n true) (back P n false) (λ Q. read_on Q (suc n) (drop record_bytes l))
  with_mark e n =
      read_first P n (eight_of l h) ∙
      ap (λ (t : Bool). read_record t (moved_in P l) (back P n true) (back P n false) (λ Q. read_on Q (suc n) (drop record_bytes l))) (eq-eqb (get_or l 7 0) mark e)

  pub wrong_mark : get_or l 7 0 ≡ mark → moved_in P l ≡ none → (n : ℕ) → read_on P n l ≡ back P n false
  wrong_mark e f n =
      with_mark e n ∙ ap (λ (o : Option Purses). read_record true o (back P n true) (back P n false) (λ Q. read_on Q (suc n) (drop record_bytes l))) f

  pub good_mark : get_or l 7 0 ≡ mark → (Q : Purses) → moved_in P l ≡ some Q → (n : ℕ) → read_on P n l ≡ read_on Q (suc n) (drop record_bytes l)
  good_mark e Q f n =
      with_mark e n ∙ ap (λ (o : Option Purses). read_record true o (back P n true) (back P n false) (λ R. read_on R (suc n) (drop record_bytes l))) f

  -- a zero byte that is not zero
  zeros_none : (k : Option Kind) (p a z : ℕ) → (z ≡ 0 → ⊥) → moved_by P (entry_of k p a z) ≡ none
  zeros_none none p a z e = refl
  zeros_none (some k) p a z e = ap (λ (t : Bool). moved_by P (cond t (some (entry k p a)) none)) (ne_eqb z 0 e)

  pub wrong_zeros : get_or l 7 0 ≡ mark → (get_or l 6 0 ≡ 0 → ⊥) → (n : ℕ) → read_on P n l ≡ back P n false
  wrong_zeros e f =
      wrong_mark e
      (zeros_none (kind_of (get_or l 0 0 / 16)) (get_or l 0 0 % 16 * 256 + get_or l 1 0) (((get_or l 2 0 * 256 + get_or l 3 0) * 256 + get_or l 4 0) * 256 + get_or l 5 0)
      (get_or l 6 0) f)

-- the record that some bytes begin with, entered as the code reads its fields
module _ (P : Purses) (l : List ℕ) (h : record_bytes ≤ length l) (marked : get_or l 7 0 ≡ mark) where
  entered : (m : Option Purses) → moved_in P l ≡ m → (r : Result (Unit {0}) NoEntry) (Q : Purses) → Entered m P r Q → ReadsAs (Some r) P l Q
  entered none e r Q (f, g) =
      subst (λ (s : Result (Unit {0}) NoEntry). ReadsAs (Some s) P l Q) (sym f) λ n. wrong_mark P l h marked e n ∙ ap (λ (R : Purses). back R n false) (sym g)
  entered (some R) e r Q (f, g) =
      subst (λ (s : Result (Unit {0}) NoEntry). ReadsAs (Some s) P l Q) (sym f) λ n. good_mark P l h marked R e n ∙ ap (λ (S : Purses). read_on S (suc n) (drop record_bytes l)) (sym g)

  pub reads_entered : get_or l 6 0 ≡ 0 → get_or l 1 0 < 256 → (K p a : ℕ) → K ≡ (get_or l 0 0 * 256 + get_or l 1 0) / 4096 → p ≡ (get_or l 0 0 * 256 + get_or l 1 0) % 4096 →
      a ≡ ((get_or l 2 0 * 256 + get_or l 3 0) * 256 + get_or l 4 0) * 256 + get_or l 5 0 →
      (r : Result (Unit {0}) NoEntry) (Q : Purses) → Entered (moved_by P (entry_of (kind_of K) p a 0)) P r Q → ReadsAs (Some r) P l Q
  reads_entered z below K p a k₁ p₁ a₁ r Q =
      let k₂ : get_or l 0 0 / 16 ≡ K = omega (arith, k₁, below) in
      let p₂ : get_or l 0 0 % 16 * 256 + get_or l 1 0 ≡ p = omega (arith, p₁, below) in
      entered (moved_by P (entry_of (kind_of K) p a 0)) (same (get_or l 0 0 / 16) K (get_or l 0 0 % 16 * 256 + get_or l 1 0) p _ a (get_or l 6 0) 0 k₂ p₂ (sym a₁) z) r Q
    where
      same : (K K' p p' a a' z z' : ℕ) → K ≡ K' → p ≡ p' → a ≡ a' → z ≡ z' → moved_by P (entry_of (kind_of K) p a z) ≡ moved_by P (entry_of (kind_of K') p' a' z')
      same K K' p p' a a' z z' e₁ e₂ e₃ e₄ = cc

-- a record that was entered is read on behind
pub entered_on : (P : Purses) (l : List ℕ) (Q : Purses) (r : Result (Unit {0}) NoEntry) → is_err r ≡ false → ReadsAs (Some r) P l Q →
    (n : ℕ) → read_on P n l ≡ read_on Q (suc n) (drop record_bytes l)
entered_on P l Q (Ok _) e h = h
entered_on P l Q (Err _) e h = differ refl e

-- the part of a journal from a place on, and what its first record was met as
pub part_is : (J : List ℕ) (i : ℕ) → take (length J - i) (drop i J) ≡ drop i J
part_is J i = take_all (length J - i) (drop i J) (omega (arith, length-drop i J))

pub told : (r : rust.Option (Result (Unit {0}) NoEntry)) (P : Purses) (J : List ℕ) (i : ℕ) (Q : Purses) → ReadsAs r P (take (length J - i) (drop i J)) Q → ReadsAs r P (drop i J) Q
told r P J i Q h = subst (λ (l : List ℕ). ReadsAs r P l Q) (part_is J i) h

-- ---- the loop of reading back: after `place` records the purses are P, and the rest of the journal is still to be read

pub record Reading (J : List ℕ) (end : ℕ) (P : Purses) (place : ℕ) : Type 0 where
  pub stops : end ≡ length J / 8
  pub within : place ≤ end
  pub many : length P ≡ purse_count
  pub goes : read_back J ≡ read_on P place (drop (place * 8) J)

module _ (J : List ℕ) (end : ℕ) (P : Purses) (place : ℕ) (R : Reading J end P place) where
  pub record_here : place < end → record_bytes ≤ length (drop (place * 8) J)
  record_here h = omega (arith, length-drop (place * 8) J, R.stops)

  pub reading_more : (Q : Purses) → place < end → length Q ≡ length P →
      ((n : ℕ) → read_on P n (drop (place * 8) J) ≡ read_on Q (suc n) (drop record_bytes (drop (place * 8) J))) → Reading J end Q (place + 1)
  reading_more Q h e f =
      let i : place * 8 + 8 ≡ (place + 1) * 8 = omega arith in
      record {
        stops = R.stops;
        within = omega arith;
        many = e ∙ R.many;
        goes = R.goes ∙ f place ∙ ap (λ (l : List ℕ). read_on Q (suc place) l) (drop-drop 8 (place * 8) J ∙ ap (λ (k : ℕ). drop k J) i) ∙
            ap (λ (k : ℕ). read_on Q k (drop ((place + 1) * 8) J)) (sym (add-one place));
      }

  pub reading_done : end ≤ place → back P end true ≡ read_back J
  reading_done h =
      let e : end ≡ place = omega (arith, R.within) in
      ap (λ (k : ℕ). back P k true) e ∙ sym (R.goes ∙ read_few P place (drop (place * 8) J) (omega (arith, length-drop (place * 8) J, R.stops, R.within)))

-- ---- one store after the other

pub after_next : (k : ℕ) (bs : List ℕ) (i : ℕ) (w : World) → k < length bs →
    (after (suc k) (stores_from i bs) w).journal ≡ set (after k (stores_from i bs) w).journal (i + k) (get_or bs k 0)
after_next zero [] i w h = absurd (not-suc-le-zero h)
after_next zero (b ∷ bs) i w h = ap (λ (n : ℕ). set w.journal n b) (omega arith)
after_next (suc k) [] i w h = absurd (not-suc-le-zero h)
after_next (suc k) (b ∷ bs) i w h =
    after_next k bs (suc i) (made (store i b) w) (le_of_suc-le-suc h) ∙
    ap (λ (n : ℕ). set (after k (stores_from (suc i) bs) (made (store i b) w)).journal n (get_or bs k 0)) (omega arith)

pub after_all : (n m : ℕ) (ss : List Step) (w : World) → length ss ≤ n → length ss ≤ m → after n ss w ≡ after m ss w
after_all zero zero [] w h g = refl
after_all zero (suc m) [] w h g = refl
after_all (suc n) zero [] w h g = refl
after_all (suc n) (suc m) [] w h g = refl
after_all zero m (s ∷ ss) w h g = absurd (not-suc-le-zero h)
after_all (suc n) zero (s ∷ ss) w h g = absurd (not-suc-le-zero g)
after_all (suc n) (suc m) (s ∷ ss) w h g = after_all n m ss (made s w) (le_of_suc-le-suc h) (le_of_suc-le-suc g)

pub length_stores : (bs : List ℕ) (i : ℕ) → length (stores_from i bs) ≡ length bs
length_stores [] i = refl
length_stores (b ∷ bs) i = ap suc (length_stores bs (suc i))

-- the loop: of the journal j the first k stores are made, and its end is the lesser of n and the record's bytes
pub record Storing (j : List ℕ) (place : ℕ) (bs : List ℕ) (n end : ℕ) (t : List ℕ) (k : ℕ) : Type 0 where
  pub stops : end ≡ min n 8
  pub within : k ≤ end
  pub long : length t ≡ length j
  pub same : t ≡ (after k (stores_from (record_bytes * place) bs) (world j [])).journal

module _ (j : List ℕ) (place : ℕ) (bs : List ℕ) (n end : ℕ) where
  pub storing_first : end ≡ min n 8 → Storing j place bs n end j 0
  storing_first e = record { stops = e; within = omega arith; long = refl; same = refl }

  module _ (t : List ℕ) (k : ℕ) (S : Storing j place bs n end t k) (many : length bs ≡ 8) where
    pub storing_more : (u : List ℕ) → k < end → u ≡ set t (record_bytes * place + k) (get_or bs k 0) → Storing j place bs n end u (k + 1)
    storing_more u h e =
        record {
          stops = S.stops;
          within = omega arith;
          long = ap length e ∙ length-set t (record_bytes * place + k) (get_or bs k 0) ∙ S.long;
          same = e ∙ ap (λ (l : List ℕ). set l (record_bytes * place + k) (get_or bs k 0)) S.same ∙
              sym (after_next k bs (record_bytes * place) (world j []) (omega (arith, S.stops))) ∙
              ap (λ (i : ℕ). (after i (stores_from (record_bytes * place) bs) (world j [])).journal) (sym (add-one k));
        }

    pub storing_done : end ≤ k → t ≡ (after n (stores_from (record_bytes * place) bs) (world j [])).journal
    storing_done h = S.same ∙ by (leb n 8) refl
      where
        by : (b : Bool) → leb n 8 ≡ b →
            (after k (stores_from (record_bytes * place) bs) (world j [])).journal ≡ (after n (stores_from (record_bytes * place) bs) (world j [])).journal
        by true e =
            let f : k ≡ n = omega (arith, leb-true n 8 e, S.stops, S.within) in
            ap (λ (i : ℕ). (after i (stores_from (record_bytes * place) bs) (world j [])).journal) f
        by false e =
            ap (λ (w : World). w.journal)
            (after_all k n (stores_from (record_bytes * place) bs) (world j [])
            (omega (arith, leb-false n 8 e, S.stops, S.within, length_stores bs (record_bytes * place)))
            (omega (arith, leb-false n 8 e, length_stores bs (record_bytes * place))))
