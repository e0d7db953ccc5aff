-- What the proofs of whole calls use: numbers handed on, steps one behind the other, and what a credit comes to.
use mathlib.Core.Path.{◌≡◌, refl, sym, ap, ◌∙◌}
use mathlib.Core.Bool.{Bool, true, false, cond}
use mathlib.Core.List.{List, [], ◌∷◌, ◌++◌, map, append_assoc, append-nil}
use mathlib.Core.Option.{Option, none, some}
use Prim.Native.Nat.{ℕ, zero, suc, ◌+◌, ◌-◌, ◌*◌, ◌/◌, ◌≤◌, ◌<◌, min}
use native.Mathlib.Nat.{not-suc-le-zero, le_of_suc-le-suc}
use native.Mathlib.Omega.{arith}
use native.Mathlib.Numerals.{add-one}
use lib.Dec.{ltb}
use lib.IntN.{ℤ, pos}
use lib.ListN.{length, get_or, set, take, drop, length-set}
use lib.Seq.{take_all}
use borrow.Author.Tests.{leb-true, le-leb, lt-leb, ltb-true, ltb-false}
use Rattle.purse_model.specs.Journal.{purse_count, Purses, credit, entry, changed, record_bytes, bytes_of, Back, back, read_back}
use Rattle.purse_model.specs.Purses.{credits, is_some, purse_admits, record_left, wrong_journal, wrong_purse, no_record, credit_made, World, world, Step, store, hand, made, after, stores_from}
use Rattle.purses.specs.Meant.{onto, Stepped, Holds, CreditBegins, CreditComes}
use Rattle.std.specs.Prelude.{Result, Ok, Err}
use Rattle.std.specs.Prelude as rust
use Rattle.purses.specs.declared.PurseRefusal.{PurseRefusal}
use Rattle.purses.specs.declared.PurseRefusal.TheVariants as refused
use Rattle.purses.proofs.Laws.{differ, length_stores}

-- ---- numbers handed on

pub onto_suc : (s d : List ℤ) (i : ℕ) → i < length s → i < length d → set (onto i s d) i (get_or s i (pos 0)) ≡ onto (suc i) s d
onto_suc [] d i h g = absurd (not-suc-le-zero h)
onto_suc (z ∷ s) [] i h g = absurd (not-suc-le-zero g)
onto_suc (z ∷ s) (x ∷ d) zero h g = refl
onto_suc (z ∷ s) (x ∷ d) (suc i) h g = ap (λ (l : List ℤ). z ∷ l) (onto_suc s d i (le_of_suc-le-suc h) (le_of_suc-le-suc g))

pub onto_is : (n : ℕ) (s d : List ℤ) → n ≤ length s → n ≤ length d → onto n s d ≡ take n s ++ drop n d
onto_is zero s d h g = refl
onto_is (suc n) [] d h g = absurd (not-suc-le-zero h)
onto_is (suc n) (z ∷ s) [] h g = absurd (not-suc-le-zero g)
onto_is (suc n) (z ∷ s) (x ∷ d) h g = ap (λ (l : List ℤ). z ∷ l) (onto_is n s d (le_of_suc-le-suc h) (le_of_suc-le-suc g))

-- the loop: the first i of the numbers stand in the bank's table, and behind them what it had
pub record Handing (numbers bank t : List ℤ) (i : ℕ) : Type 0 where
  pub within : i ≤ length numbers
  pub long : length t ≡ length bank
  pub same : t ≡ onto i numbers bank

module _ (numbers bank : List ℤ) where
  pub handing_first : Handing numbers bank bank 0
  handing_first = record { within = omega arith; long = refl; same = refl }

  module _ (t : List ℤ) (i : ℕ) (H : Handing numbers bank t i) (fits : length numbers ≤ length bank) where
    pub handing_more : (z : ℤ) → z ≡ get_or numbers i (pos 0) → i < length numbers → Handing numbers bank (set t i z) (i + 1)
    handing_more z e q =
        record {
          within = omega arith;
          long = length-set t i z ∙ H.long;
          same = ap (λ (y : ℤ). set t i y) e ∙ ap (λ (l : List ℤ). set l i (get_or numbers i (pos 0))) H.same ∙ onto_suc numbers bank i q (omega (arith, q, fits)) ∙
              ap (λ (k : ℕ). onto k numbers bank) (sym (add-one i));
        }

    pub handing_done : length numbers ≤ i → t ≡ numbers ++ drop (length numbers) bank
    handing_done q =
        let e : i ≡ length numbers = omega (arith, H.within) in
        H.same ∙ ap (λ (k : ℕ). onto k numbers bank) e ∙ onto_is (length numbers) numbers bank (omega arith) fits ∙
        ap (λ (l : List ℤ). l ++ drop (length numbers) bank) (take_all (length numbers) numbers (omega arith))

-- ---- steps one behind the other

pub after_nil : (n : ℕ) (w : World) → after n [] w ≡ w
after_nil zero w = refl
after_nil (suc n) w = refl

after_append : (ss ts : List Step) (n : ℕ) (w : World) → after n (ss ++ ts) w ≡ after (n - length ss) ts (after n ss w)
after_append [] ts n w = let e : n ≡ n - 0 = omega arith in ap (λ (k : ℕ). after k ts w) e ∙ ap (λ (v : World). after (n - 0) ts v) (sym (after_nil n w))
after_append (s ∷ ss) ts zero w = let e : 0 ≡ 0 - suc (length ss) = omega arith in ap (λ (k : ℕ). after k ts w) e
after_append (s ∷ ss) ts (suc n) w =
    let e : n - length ss ≡ suc n - suc (length ss) = omega arith in
    after_append ss ts n (made s w) ∙ ap (λ (k : ℕ). after k ts (after n ss (made s w))) e

hands_some : (n : ℕ) (gs : List ℤ) (w : World) → after n (map hand gs) w ≡ world w.journal (w.bank ++ take n gs)
hands_some zero gs w = ap (λ (l : List ℤ). world w.journal l) (sym (append-nil w.bank))
hands_some (suc n) [] w = ap (λ (l : List ℤ). world w.journal l) (sym (append-nil w.bank))
hands_some (suc n) (z ∷ gs) w = hands_some n gs (made (hand z) w) ∙ ap (λ (l : List ℤ). world w.journal l) (append_assoc w.bank (z ∷ []) (take n gs))

stores_bank : (n : ℕ) (bs : List ℕ) (i : ℕ) (w : World) → (after n (stores_from i bs) w).bank ≡ w.bank
stores_bank zero bs i w = refl
stores_bank (suc n) [] i w = refl
stores_bank (suc n) (b ∷ bs) i w = stores_bank n bs (suc i) (made (store i b) w)

take_least : (a : ℕ) (l : List ℤ) → take (min a (length l)) l ≡ take a l
take_least zero l = let e : min 0 (length l) ≡ 0 = omega arith in ap (λ (k : ℕ). take k l) e
take_least (suc a) [] = let e : min (suc a) 0 ≡ 0 = omega arith in ap (λ (k : ℕ). take k []) e
take_least (suc a) (x ∷ l) =
    let e : min (suc a) (suc (length l)) ≡ suc (min a (length l)) = omega arith in
    ap (λ (k : ℕ). take k (x ∷ l)) e ∙ ap (λ (t : List ℤ). x ∷ t) (take_least a l)

module _ (n from : ℕ) (bytes : List ℕ) (eight : length bytes ≡ 8) (numbers : List ℤ) (journal : List ℕ) (bank : List ℤ) where
  -- the world after n steps
  whole_world : after n (stores_from from bytes ++ map hand numbers) (world journal []) ≡
      world (after n (stores_from from bytes) (world journal [])).journal (take (n - 8) numbers)
  whole_world =
      let w : World = after n (stores_from from bytes) (world journal []) in
      let e : length (stores_from from bytes) ≡ 8 = length_stores bytes from ∙ eight in
      after_append (stores_from from bytes) (map hand numbers) n (world journal []) ∙
      ap (λ (k : ℕ). after (n - k) (map hand numbers) w) e ∙
      hands_some (n - 8) numbers w ∙
      ap (λ (l : List ℤ). world w.journal (l ++ take (n - 8) numbers)) (stores_bank n bytes from (world journal []))

  pub stepped : (gone : List ℤ) (journal' : List ℕ) (bank' : List ℤ) → journal' ≡ (after n (stores_from from bytes) (world journal [])).journal →
      gone ≡ take (min (n - 8) (length numbers)) numbers → bank' ≡ gone ++ drop (length gone) bank → Stepped n from bytes numbers journal bank journal' bank'
  stepped gone journal' bank' e f b =
      record {
        in_journal = e ∙ ap (λ (w : World). w.journal) (sym whole_world);
        in_bank = (gone, f ∙ take_least (n - 8) numbers ∙ ap (λ (w : World). w.bank) (sym whole_world), b);
      }

-- ---- a credit

pub admitted_below : (P : Purses) (p a : ℕ) → purse_admits P (credits p a) ≡ true → p < purse_count
admitted_below P p a e = by (ltb p purse_count) refl
  where
    by : (t : Bool) → ltb p purse_count ≡ t → p < purse_count
    by true f = ltb-true p purse_count f
    by false f = differ e (ap (λ (t : Bool). is_some (cond t (changed P credit p a) none)) f)

pub room_as : (place : ℕ) (J : List ℕ) → ltb place (length J / 8) ≡ record_left place J
room_as place J = by (ltb place (length J / 8)) refl
  where
    by : (t : Bool) → ltb place (length J / 8) ≡ t → ltb place (length J / 8) ≡ record_left place J
    by true e = e ∙ sym (le-leb (8 * suc place) (length J) (omega (arith, ltb-true place (length J / 8) e)))
    by false e = e ∙ sym (lt-leb (8 * suc place) (length J) (omega (arith, ltb-false place (length J / 8) e)))

module _ (J : List ℕ) (p a : ℕ) (Q : Purses) where
  abbrev Begins : Result ℕ PurseRefusal → Type 0
  Begins r = CreditBegins J p a r Q

  pub journal_refused : (place : ℕ) → back Q place false ≡ read_back J → Begins (Err (refused.Journal place))
  journal_refused place e =
      record { comes = wrong_journal (ap (λ (b : Back). b.sound) (sym e)); ready = ap (λ (b : Back). b.place) e; shown = ap (λ (b : Back). b.purses) e }

  module _ (place : ℕ) (e : back Q place true ≡ read_back J) where
    sound_as : (read_back J).sound ≡ true
    sound_as = ap (λ (b : Back). b.sound) (sym e)

    shown_as : Q ≡ (read_back J).purses
    shown_as = ap (λ (b : Back). b.purses) e

    place_as : place ≡ (read_back J).place
    place_as = ap (λ (b : Back). b.place) e

    admits_as : (t : Bool) → purse_admits Q (credits p a) ≡ t → purse_admits (read_back J).purses (credits p a) ≡ t
    admits_as t f = ap (λ (P : Purses). purse_admits P (credits p a)) (sym shown_as) ∙ f

    room_at : (t : Bool) → record_left place J ≡ t → record_left (read_back J).place J ≡ t
    room_at t f = ap (λ (k : ℕ). record_left k J) (sym place_as) ∙ f

    pub purse_refused : purse_admits Q (credits p a) ≡ false → Begins (Err (refused.Purse place))
    purse_refused g = record { comes = wrong_purse sound_as (admits_as false g); ready = place_as; shown = shown_as }

    pub full_refused : purse_admits Q (credits p a) ≡ true → record_left place J ≡ false → Begins (Err (refused.Full place))
    full_refused g h = record { comes = no_record sound_as (admits_as true g) (room_at false h); ready = place_as; shown = shown_as }

    pub credit_begun : purse_admits Q (credits p a) ≡ true → record_left place J ≡ true → Begins (Ok place)
    credit_begun g h =
        record {
          comes = credit_made sound_as (admits_as true g) (room_at true h);
          ready = (place_as, admitted_below Q p a g, leb-true (record_bytes * suc place) (length J) h);
          shown = shown_as;
        }

-- what a purse holds after an entry tells whether the purses admit it
pub tells : (P : Purses) (p : ℕ) (m : Option Purses) (r : rust.Option ℕ) (b : Bool) → Holds m P p r → rust.is_some r ≡ b → is_some m ≡ b
tells P p none r b h e = sym (ap rust.is_some h) ∙ e
tells P p (some Q) r b h e = sym (ap rust.is_some h.1) ∙ e

module _ (J : List ℕ) (p a n : ℕ) (Q : Purses) where
  pub credit_refused : (r : PurseRefusal) → CreditBegins J p a (Err r) Q → CreditComes J p a n (Err r) J Q
  credit_refused r B = record { comes = B.comes; stored = ap (λ (w : World). w.journal) (sym (after_nil n (world J []))); shown = B.shown }

  pub credit_done : (place : ℕ) → CreditBegins J p a (Ok place) Q → (J' : List ℕ) →
      J' ≡ (after n (stores_from (record_bytes * place) (bytes_of (entry credit p a))) (world J [])).journal → CreditComes J p a n (Ok tt) J' Q
  credit_done place B J' x =
      record {
        comes = B.comes;
        stored = x ∙ ap (λ (k : ℕ). (after n (stores_from (record_bytes * k) (bytes_of (entry credit p a))) (world J [])).journal) B.ready.0 ∙
            ap (λ (ss : List Step). (after n ss (world J [])).journal) (sym (append-nil (stores_from (record_bytes * (read_back J).place) (bytes_of (entry credit p a)))));
        shown = B.shown;
      }
