-- A number as a text writes it, `-?[0-9]+`: the longest match from a place on.
use Rattle.std.specs.Prelude.{ℕ, ◌+◌, Bool, true, false, cond, List, [], ◌∷◌, eqb, ℤ, length, drop, Option, Some, None, Ok, Err}
use Rattle.language.specs.Numbers.{top, in_range}
use Rattle.language.specs.Words.{is_digit, stretch, decimal}
use Rattle.amounts.specs.Signs.{signed}
use Rattle.amounts.specs.Amounts.{Amount}
use Rattle.amounts.specs.declared.AmountError.TheVariants.{Range}
use Rattle.numerals.specs.declared.Numeral.{Numeral}

-- a written number must be in the range
abbrev pub written : ℤ → Amount
written z = cond (in_range z) (Ok z) (Err Range)

-- a number that ends at a place
abbrev pub numeral_to : (end : ℕ) → Amount → Option Numeral
numeral_to end a = Some (record { end = end; value = a })

-- what digits write that stand from a place on, after a `-` or none: where they end, and the amount
abbrev pub written_from : ℕ → (negative : Bool) → (digits : List ℕ) → Option Numeral
written_from from negative [] = None
written_from from negative (d ∷ ds) = numeral_to (from + length (d ∷ ds)) (written (signed negative (decimal 0 (d ∷ ds))))

-- the number at the front of some bytes that stand at place `i`
abbrev pub number_front : ℕ → List ℕ → Option Numeral
number_front i [] = None
number_front i (b ∷ s) = cond (eqb b 45) (written_from (i + 1) true (stretch is_digit s)) (written_from i false (stretch is_digit (b ∷ s)))

abbrev pub read_number : (text : List ℕ) → (place : ℕ) → Option Numeral
read_number text i = number_front i (drop i text)

-- no number of the range has this magnitude
abbrev pub cap : ℕ
cap = top + 2
