-- One step alone: which it is, what it leaves, and that the steps made one by one are the call's.
use mathlib.Core.Path.{◌≡◌, refl, sym, ap, subst, ◌∙◌}
use mathlib.Core.Bool.{Bool, true, false}
use mathlib.Core.List.{List, [], ◌∷◌, ◌++◌, map}
use mathlib.Core.Option.{Option, none, some}
use Prim.Native.Nat.{ℕ, zero, suc, ◌+◌, ◌-◌, ◌*◌, ◌≤◌, ◌<◌, min}
use native.Mathlib.Nat.{not-suc-le-zero, le_of_suc-le-suc}
use native.Mathlib.Omega.{arith}
use lib.Dec.{ltb}
use lib.IntN.{ℤ, pos}
use lib.ListN.{length, get_or, set, take, drop}
use lib.Seq.{length-take-le}
use borrow.Author.Tests.{ltb-true, ltb-false}
use Rattle.purse_model.specs.Journal.{Entry, record_bytes, bytes_of}
use Rattle.purse_model.specs.Purses.{World, world, Step, store, hand, after, stores_from}
use Rattle.purses.specs.Meant.{onto, Stepped, nth, entry_steps, Makes}
use Rattle.std.proofs.lemmas.List.{get_or_default}
use Rattle.purses.proofs.Laws.{after_next, after_all, length_stores}
use Rattle.purses.proofs.Calls.{onto_suc, onto_is, stepped}

-- ---- which step

nth_nil : (k : ℕ) → nth k [] ≡ none
nth_nil zero = refl
nth_nil (suc k) = refl

nth_left : (k : ℕ) (ss ts : List Step) → k < length ss → nth k (ss ++ ts) ≡ nth k ss
nth_left k [] ts h = absurd (not-suc-le-zero h)
nth_left zero (s ∷ ss) ts h = refl
nth_left (suc k) (s ∷ ss) ts h = nth_left k ss ts (le_of_suc-le-suc h)

nth_right : (k : ℕ) (ss ts : List Step) → length ss ≤ k → nth k (ss ++ ts) ≡ nth (k - length ss) ts
nth_right k [] ts h = let e : k ≡ k - 0 = omega arith in ap (λ (i : ℕ). nth i ts) e
nth_right zero (s ∷ ss) ts h = absurd (not-suc-le-zero h)
nth_right (suc k) (s ∷ ss) ts h =
    let e : k - length ss ≡ suc k - suc (length ss) = omega arith in
    nth_right k ss ts (le_of_suc-le-suc h) ∙ ap (λ (i : ℕ). nth i ts) e

nth_stores : (k : ℕ) (bs : List ℕ) (i : ℕ) → k < length bs → nth k (stores_from i bs) ≡ some (store (i + k) (get_or bs k 0))
nth_stores k [] i h = absurd (not-suc-le-zero h)
nth_stores zero (b ∷ bs) i h = ap (λ (n : ℕ). some (store n b)) (omega arith)
nth_stores (suc k) (b ∷ bs) i h = nth_stores k bs (suc i) (le_of_suc-le-suc h) ∙ ap (λ (n : ℕ). some (store n (get_or bs k 0))) (omega arith)

nth_hands : (i : ℕ) (numbers : List ℤ) → i < length numbers → nth i (map hand numbers) ≡ some (hand (get_or numbers i (pos 0)))
nth_hands i [] h = absurd (not-suc-le-zero h)
nth_hands zero (z ∷ numbers) h = refl
nth_hands (suc i) (z ∷ numbers) h = nth_hands i numbers (le_of_suc-le-suc h)

nth_past : (i : ℕ) (numbers : List ℤ) → length numbers ≤ i → nth i (map hand numbers) ≡ none
nth_past i [] h = nth_nil i
nth_past zero (z ∷ numbers) h = absurd (not-suc-le-zero h)
nth_past (suc i) (z ∷ numbers) h = nth_past i numbers (le_of_suc-le-suc h)

module _ (e : Entry) (place : ℕ) (numbers : List ℤ) (k : ℕ) where
  abbrev Stores : List Step
  Stores = stores_from (record_bytes * place) (bytes_of e)

  eight : length Stores ≡ 8
  eight = length_stores (bytes_of e) (record_bytes * place)

  is_store : k < 8 → nth k (entry_steps e place numbers) ≡ some (store (record_bytes * place + k) (get_or (bytes_of e) k 0))
  is_store h = nth_left k Stores (map hand numbers) (omega (arith, eight)) ∙ nth_stores k (bytes_of e) (record_bytes * place) h

  behind : 8 ≤ k → nth k (entry_steps e place numbers) ≡ nth (k - 8) (map hand numbers)
  behind h =
      let f : k - length Stores ≡ k - 8 = omega (arith, eight) in
      nth_right k Stores (map hand numbers) (omega (arith, eight)) ∙ ap (λ (i : ℕ). nth i (map hand numbers)) f

  is_hand : 8 ≤ k → k - 8 < length numbers → nth k (entry_steps e place numbers) ≡ some (hand (get_or numbers (k - 8) (pos 0)))
  is_hand h g = behind h ∙ nth_hands (k - 8) numbers g

  is_none : 8 ≤ k → length numbers ≤ k - 8 → nth k (entry_steps e place numbers) ≡ none
  is_none h g = behind h ∙ nth_past (k - 8) numbers g

  module _ (J : List ℕ) (bank : List ℤ) where
    abbrev StepMakes : Bool → List ℕ → List ℤ → Type 0
    StepMakes r J' bank' = Makes (nth k (entry_steps e place numbers)) k J bank r J' bank'

    told_as : (s : Option Step) → nth k (entry_steps e place numbers) ≡ s → (r : Bool) (J' : List ℕ) (bank' : List ℤ) → Makes s k J bank r J' bank' → StepMakes r J' bank'
    told_as s f r J' bank' m = subst (λ (x : Option Step). Makes x k J bank r J' bank') (sym f) m

    pub makes_store : (J' : List ℕ) → k < 8 → J' ≡ set J (record_bytes * place + k) (get_or (bytes_of e) k 0) → StepMakes true J' bank
    makes_store J' h x = told_as _ (is_store h) true J' bank (refl, x, refl)

    pub makes_hand : (y z : ℤ) → 8 ≤ k → true ≡ ltb (k - 8) (length numbers) → y ≡ get_or numbers (k - 8) y → z ≡ y → StepMakes true J (set bank (k - 8) z)
    makes_hand y z h g x e =
        let l = ltb-true (k - 8) (length numbers) (sym g) in
        told_as _ (is_hand h l) true J _ (refl, refl, ap (λ (y : ℤ). set bank (k - 8) y) (e ∙ x ∙ get_or_default numbers (k - 8) y (pos 0) l))

    pub makes_none : 8 ≤ k → false ≡ ltb (k - 8) (length numbers) → StepMakes false J bank
    makes_none h g = told_as none (is_none h (ltb-false (k - 8) (length numbers) (sym g))) false J bank (refl, refl, refl)

-- ---- one by one

-- the journal and the bank's table after the first n of these steps, each made alone
pub data OneByOne (ss : List Step) (J : List ℕ) (bank : List ℤ) : ℕ → List ℕ → List ℤ → Type 0 where
  not_one : OneByOne ss J bank 0 J bank
  one_more : {k : ℕ} (r : Bool) {J₁ J₂ : List ℕ} {bank₁ bank₂ : List ℤ} → OneByOne ss J bank k J₁ bank₁ → Makes (nth k ss) k J₁ bank₁ r J₂ bank₂ → OneByOne ss J bank (suc k) J₂ bank₂

module _ (e : Entry) (place : ℕ) (numbers : List ℤ) (J : List ℕ) (bank : List ℤ) (g : length numbers ≤ length bank) where
  abbrev Journal_after : ℕ → List ℕ
  Journal_after n = (after n (stores_from (record_bytes * place) (bytes_of e)) (world J [])).journal

  record Far (n : ℕ) (J' : List ℕ) (bank' : List ℤ) : Type 0 where
    pub journal_so : J' ≡ Journal_after n
    pub bank_so : bank' ≡ onto (min (n - 8) (length numbers)) numbers bank

  all_stored : (k : ℕ) → 8 ≤ k → Journal_after k ≡ Journal_after (suc k)
  all_stored k l =
      ap (λ (w : World). w.journal)
      (after_all k (suc k) (stores_from (record_bytes * place) (bytes_of e)) (world J []) (omega (arith, length_stores (bytes_of e) (record_bytes * place)))
      (omega (arith, length_stores (bytes_of e) (record_bytes * place))))

  further : (k : ℕ) (r : Bool) (J₁ J₂ : List ℕ) (b₁ b₂ : List ℤ) → Far k J₁ b₁ → Makes (nth k (entry_steps e place numbers)) k J₁ b₁ r J₂ b₂ → Far (suc k) J₂ b₂
  further k r J₁ J₂ b₁ b₂ F m = by (ltb k 8) refl
    where
      same-bank : min (k - 8) (length numbers) ≡ min (suc k - 8) (length numbers) → b₂ ≡ b₁ → b₂ ≡ onto (min (suc k - 8) (length numbers)) numbers bank
      same-bank x y = y ∙ F.bank_so ∙ ap (λ (i : ℕ). onto i numbers bank) x

      told : (s : Option Step) → nth k (entry_steps e place numbers) ≡ s → Makes s k J₁ b₁ r J₂ b₂
      told s f = subst (λ (x : Option Step). Makes x k J₁ b₁ r J₂ b₂) f m

      late : 8 ≤ k → (t : Bool) → ltb (k - 8) (length numbers) ≡ t → Far (suc k) J₂ b₂
      late l true f =
          let i = ltb-true (k - 8) (length numbers) f in
          let t = told _ (is_hand e place numbers k l i) in
          let m₁ : min (k - 8) (length numbers) ≡ k - 8 = omega (arith, i) in
          let m₂ : suc (k - 8) ≡ min (suc k - 8) (length numbers) = omega (arith, i, l) in
          record {
            journal_so = t.1 ∙ F.journal_so ∙ all_stored k l;
            bank_so =
                t.2 ∙ ap (λ (y : List ℤ). set y (k - 8) (get_or numbers (k - 8) (pos 0))) (F.bank_so ∙ ap (λ (j : ℕ). onto j numbers bank) m₁) ∙
                onto_suc numbers bank (k - 8) i (omega (arith, i, g)) ∙ ap (λ (j : ℕ). onto j numbers bank) m₂;
          }
      late l false f =
          let i = ltb-false (k - 8) (length numbers) f in
          let t = told none (is_none e place numbers k l i) in
          record { journal_so = t.1 ∙ F.journal_so ∙ all_stored k l; bank_so = same-bank (omega (arith, i, l)) t.2 }

      by : (t : Bool) → ltb k 8 ≡ t → Far (suc k) J₂ b₂
      by true f =
          let i = ltb-true k 8 f in
          let t = told _ (is_store e place numbers k i) in
          record {
            journal_so =
                t.1 ∙ ap (λ (y : List ℕ). set y (record_bytes * place + k) (get_or (bytes_of e) k 0)) F.journal_so ∙
                sym (after_next k (bytes_of e) (record_bytes * place) (world J []) i);
            bank_so = same-bank (omega (arith, i)) t.2;
          }
      by false f = late (ltb-false k 8 f) (ltb (k - 8) (length numbers)) refl

  far : {n : ℕ} {J' : List ℕ} {bank' : List ℤ} → OneByOne (entry_steps e place numbers) J bank n J' bank' → Far n J' bank'
  far not_one = record { journal_so = refl; bank_so = let z : 0 ≡ min (0 - 8) (length numbers) = omega arith in ap (λ (j : ℕ). onto j numbers bank) z }
  far (one_more {k} r {J₁} {J₂} {bank₁} {bank₂} o m) = further k r J₁ J₂ bank₁ bank₂ (far o) m

  -- Steps made one by one, in their order, leave what the call's first steps leave.
  pub one_by_one : {n : ℕ} {J' : List ℕ} {bank' : List ℤ} → OneByOne (entry_steps e place numbers) J bank n J' bank' →
      Stepped n (record_bytes * place) (bytes_of e) numbers J bank J' bank'
  one_by_one {n} {J'} {bank'} o =
      let F = far o in
      let i : ℕ = min (n - 8) (length numbers) in
      let many : length (take i numbers) ≡ i = length-take-le i numbers (omega arith) in
      stepped n (record_bytes * place) (bytes_of e) refl numbers J bank (take i numbers) J' bank' F.journal_so refl
      (F.bank_so ∙ onto_is i numbers bank (omega arith) (omega (arith, g)) ∙ ap (λ (k : ℕ). take i numbers ++ drop k bank) (sym many))
