-- What holds of a scan after each word.
use mathlib.Core.Path.{◌≡◌, refl, sym, subst, ◌∙◌, ap}
use mathlib.Core.Bool.{Bool, true, false, cond}
use mathlib.Core.List.{List}
use Prim.Native.Nat.{ℕ, ◌+◌, ◌<◌, ◌≤◌}
use native.Mathlib.Omega.{arith}
use lib.Dec.{ltb}
use lib.ListN.{length, length-set, set}
use borrow.Author.Tests.{ltb-true, ltb-false, le-leb, lt-leb, eq-eqb, ne_eqb}
use Rattle.std.specs.Prelude as code
use Rattle.std.specs.Prelude.{Option, None, Some, Ok, Err, IsErrAnd}
use Rattle.std.specs.Option.{option_or}
use Rattle.language.specs.Words.{words_of}
use Rattle.words.specs.declared.Word.{Word}
use Rattle.words.specs.Next.{Found, found_from}
use Rattle.words.specs.declared.WordError.{WordError}
use Rattle.scanning.specs.declared.ScanError.{ScanError}
use Rattle.scanning.specs.declared.ScanError.TheVariants as error
use Rattle.scanning.specs.Entries.{entry_of}
use Rattle.scanning.specs.Scanning.{first_over, counted, scanned, scan_ending}
use Rattle.scanning.specs.Scans.{over_after, counted_scan}
use Rattle.scanning.proofs.Entries.{left, Took, Tells, told}

-- the place of the first word for which there is no room, as the language's loop has it
abbrev pub place_over : Option ℕ → ℕ
place_over None = 0
place_over (Some p) = p

-- a place is over where more words are read than the table has entries
abbrev pub Fits : (n size : ℕ) → Option ℕ → Type 0
Fits n size None = n ≤ size
Fits n size (Some p) = size < n

module _ (n size p : ℕ) where
  over_by : (t : Bool) → ltb n size ≡ t → (over : Option ℕ) → Fits n size over
      → (place_over (cond t over (option_or over (Some p))) ≡ first_over n size p (place_over over)) × Fits (n + 1) size (cond t over (option_or over (Some p)))
  over_by true e None h =
      let l = ltb-true n size e in
      (rw (ne_eqb n size (λ q. omega (arith, q, l))) refl, omega (arith, l))
  over_by false e None h =
      let l = ltb-false n size e in
      (rw (eq-eqb n size (omega (arith, l, h))) refl, omega (arith, l))
  over_by true e (Some q) h = absurd (omega (arith, ltb-true n size e, h))
  over_by false e (Some q) h = (rw (ne_eqb n size (λ x. omega (arith, x, h))) refl, omega (arith, h))

  over_more : (over : Option ℕ) → Fits n size over
      → (place_over (over_after n size p over) ≡ first_over n size p (place_over over)) × Fits (n + 1) size (over_after n size p over)
  over_more = over_by (ltb n size) refl

-- both say whether the table holds the words
counts : (l : List ℕ) (n : ℕ) (over : Option ℕ) → Fits n (length l) over → counted l n (place_over over) ≡ scan_ending (counted_scan n over) l
counts l n None h = rw (le-leb n (length l) h) refl
counts l n (Some p) h = rw (lt-leb n (length l) h) refl

-- the scan of a text, with the table first, has come to place i with n words
pub record Holds (text first : List ℕ) (i : ℕ) (l : List ℕ) (n : ℕ) (over : Option ℕ) : Type 0 where
  pub few : n ≤ i
  pub inside : i ≤ length text
  pub fits : Fits n (length l) over
  pub answer : scanned (words_of text) first 0 0 ≡ left text i l n (place_over over)

pub starts : (text l : List ℕ) → Holds text l 0 l 0 None
starts text l = record { few = omega arith; inside = omega arith; fits = omega arith; answer = refl }

module _ (text first : List ℕ) (i : ℕ) (l : List ℕ) (n : ℕ) (over : Option ℕ) (h : Holds text first i l n over) where
  -- one word more
  pub goes_on : (word : Word) → Took text i word → Holds text first word.end (set l n (entry_of word)) (n + 1) (over_after n (length l) word.start over)
  goes_on word k =
      let m = over_more n (length l) word.start over h.fits in
      let z : length (set l n (entry_of word)) ≡ length l = length-set l n (entry_of word) in
      record {
        few = omega (arith, h.few, k.further);
        inside = k.inside;
        fits = subst (λ (s : ℕ). Fits (n + 1) s (over_after n (length l) word.start over)) (sym z) m.1;
        answer = h.answer ∙ k.turn l n (place_over over) ∙ ap (left text word.end (set l n (entry_of word)) (n + 1)) (sym m.0);
      }

  pub ends : ((l : List ℕ) (n over : ℕ) → left text i l n over ≡ counted l n over) → scanned (words_of text) first 0 0 ≡ scan_ending (counted_scan n over) l
  ends k = h.answer ∙ k l n (place_over over) ∙ counts l n over h.fits

-- what a reader of the text found there
pub told_as : (text : List ℕ) (i : ℕ) (f g : Found) (s : List ℕ) → f ≡ found_from s i → s ≡ text → f ≡ g → Tells text i g
told_as text i f g s e q r = subst (Tells text i) r (told text i f (e ∙ ap (λ (t : List ℕ). found_from t i) q))

-- the error that the reader's becomes
pub failed : {P : ScanError → Type 0} (r : code.Result ℕ ScanError) (e : WordError) → IsErrAnd r P → ((x : ScanError) → P x → x ≡ error.Word e) → r ≡ Err (error.Word e)
failed {P = P} (Ok n) e h f = elim h [ ]
failed (Err x) e h f = ap Err (f x h)
