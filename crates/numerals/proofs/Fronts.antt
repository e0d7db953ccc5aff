-- A number at the front of some bytes, against what the language says begins there.
use mathlib.Core.Path.{◌≡◌, refl, sym, ap, subst, ◌∙◌}
use mathlib.Core.Bool.{Bool, true, false, cond}
use mathlib.Core.List.{List, [], ◌∷◌}
use Prim.Native.Nat.{ℕ, suc, ◌+◌, ◌-◌}
use native.Mathlib.Omega.{arith}
use lib.Dec.{T, eqb}
use lib.IntN.{ℤ, pos, neg_ℤ}
use lib.ListN.{length, drop, get_or}
use borrow.Author.Tests.{ne_eqb, lt-leb}
use Rattle.language.specs.Answers.{BYTE, NUMBER}
use Rattle.language.specs.Numbers.{in_range}
use Rattle.language.specs.Words.{number, is_sep, is_letter, is_digit, stretch, decimal, Front, word, bad, numeral, minus, front}
use Rattle.numerals.specs.Written.{written, numeral_to, number_front, read_number}
use Rattle.std.specs.Prelude.{Option, Some, None, Ok, Err}
use Rattle.amounts.specs.declared.AmountError.TheVariants.{Range}
use Rattle.numerals.specs.declared.Numeral.{Numeral}
use Rattle.numerals.proofs.Reading.{digit_bounds}

pub at_front : (text : List ℕ) (i : ℕ) {s : List ℕ} → drop i text ≡ s → read_number text i ≡ number_front i s
at_front text i e = ap (number_front i) e

-- ---- what a digit is not
module _ (b : ℕ) (d : is_digit b ≡ true) where
  pub digit_not : (n : ℕ) → is_digit n ≡ false → eqb b n ≡ false
  digit_not n e = ne_eqb b n (λ q. absurd (subst T (sym d ∙ ap is_digit q ∙ e) tt))

  pub digit_no_gap : is_sep b ≡ false
  digit_no_gap = simp (digit_not 32 refl, digit_not 9 refl, digit_not 10 refl, digit_not 13 refl)

  pub digit_no_letter : is_letter b ≡ false
  digit_no_letter = simp (lt-leb 65 b (omega (arith, digit_bounds b d)), lt-leb 97 b (omega (arith, digit_bounds b d)))

-- ---- a number that is read
end_is : (i n : ℕ) → i + suc n ≡ i + 1 + n
end_is i n = omega arith

pub number_digit :
    (i b : ℕ) (s : List ℕ) → is_digit b ≡ true
    → number_front i (b ∷ s) ≡ numeral_to (i + 1 + length (stretch is_digit s)) (written (pos (decimal 0 (stretch is_digit (b ∷ s)))))
number_digit i b s d =
    simp (digit_not b d 45 refl, d)
    (ap (λ n. numeral_to n (written (pos (decimal 0 (b ∷ stretch is_digit s))))) (end_is i (length (stretch is_digit s))))

pub number_minus :
    (i b : ℕ) (s : List ℕ) → is_digit b ≡ true
    → number_front i (45 ∷ b ∷ s) ≡ numeral_to (i + 1 + length (stretch is_digit (b ∷ s))) (written (neg_ℤ (pos (decimal 0 (stretch is_digit (b ∷ s))))))
number_minus i b s d = simp d

pub number_none : (i b : ℕ) (s : List ℕ) → is_digit b ≡ false → eqb b 45 ≡ false → number_front i (b ∷ s) ≡ None
number_none i b s d m = simp (m, d)

pub minus_none : (i b : ℕ) (s : List ℕ) → is_digit b ≡ false → number_front i (45 ∷ b ∷ s) ≡ None
minus_none i b s d = simp d

-- ---- what it says that begins at place `i`
abbrev pub front_of : ℕ → Option Numeral → Front
front_of i None = bad BYTE
front_of i (Some n) = elim n.value [ Ok z ↦ word (number i z) (n.end - (i + 1)) | Err e ↦ bad NUMBER ]

pub front_numeral : (i more : ℕ) (z : ℤ) → front_of i (numeral_to (i + 1 + more) (written z)) ≡ numeral i z more
front_numeral i more z = by (in_range z)
  where
    left : i + 1 + more - (i + 1) ≡ more
    left = omega arith

    by : (t : Bool) → front_of i (numeral_to (i + 1 + more) (cond t (Ok z) (Err Range))) ≡ cond t (word (number i z) more) (bad NUMBER)
    by true = ap (word (number i z)) left
    by false = refl

pub front_digit : (i b : ℕ) (s : List ℕ) → is_digit b ≡ true → front_of i (number_front i (b ∷ s)) ≡ front i b s
front_digit i b s d =
    ap (front_of i) (number_digit i b s d) ∙ front_numeral i (length (stretch is_digit s)) (pos (decimal 0 (stretch is_digit (b ∷ s)))) ∙ sym (here)
  where
    here : front i b s ≡ numeral i (pos (decimal 0 (stretch is_digit (b ∷ s)))) (length (stretch is_digit s))
    here = rw (digit_no_gap b d, digit_no_letter b d, d) refl

-- after a `-`, where no arrow stands
pub front_minus : (i : ℕ) (s : List ℕ) → eqb (get_or s 0 0) 62 ≡ false → front_of i (number_front i (45 ∷ s)) ≡ front i 45 s
front_minus i [] a = refl
front_minus i (b ∷ s) a = by (is_digit b) refl
  where
    by : (t : Bool) → is_digit b ≡ t → front_of i (number_front i (45 ∷ b ∷ s)) ≡ minus i (b ∷ s)
    by true d =
        ap (front_of i) (number_minus i b s d)
        ∙ front_numeral i (length (stretch is_digit (b ∷ s))) (neg_ℤ (pos (decimal 0 (stretch is_digit (b ∷ s)))))
        ∙ sym (rw (a, d) refl)
    by false d = ap (front_of i) (minus_none i b s d) ∙ sym (rw (a, d) refl)
