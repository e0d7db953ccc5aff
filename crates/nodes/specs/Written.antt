-- The number that a text writes at a place: `-` or none, then digits.
use Rattle.std.specs.Prelude.{ℕ, ◌≡◌, true, cond, List, [], ◌∷◌, eqb, ℤ, pos, neg_ℤ, drop}
use Rattle.language.specs.Numbers.{in_range}
use Rattle.language.specs.Words.{is_digit, stretch, decimal}

-- the digits at the front of some bytes, behind a `-` if there is one
abbrev pub digits_from : List ℕ → List ℕ
digits_from [] = []
digits_from (b ∷ s) = cond (eqb b 45) (stretch is_digit s) (stretch is_digit (b ∷ s))

abbrev pub number_from : List ℕ → ℤ
number_from [] = pos 0
number_from (b ∷ s) = cond (eqb b 45) (neg_ℤ (pos (decimal 0 (stretch is_digit s)))) (pos (decimal 0 (stretch is_digit (b ∷ s))))

unfoldable pub number_at : List ℕ → ℕ → ℤ
number_at text place = number_from (drop place text)

-- a number in the range is written at the place
pub record Numeral (text : List ℕ) (place : ℕ) : Type 0 where
  pub digits : digits_from (drop place text) ≡ [] → ⊥
  pub ranged : in_range (number_at text place) ≡ true
