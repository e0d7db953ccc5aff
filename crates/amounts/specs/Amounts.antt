-- What an answer in code says, in the language's terms.
use Rattle.std.specs.Prelude.{cond, ℤ, pos, Result, Ok, Err}
use Rattle.language.specs.Answers.{RANGE, ZERO}
use Rattle.language.specs.Numbers.{Computed, amount, fails, ranged, quotient, same_number}
use Rattle.amounts.specs.declared.AmountError.{AmountError}
use Rattle.amounts.specs.declared.AmountError.TheVariants.{Range, Zero}

-- a number in the range, or why there is none
abbrev pub Amount : Type 0
Amount = Result ℤ AmountError

abbrev pub computed : Amount → Computed
computed (Ok z) = amount z
computed (Err Range) = fails RANGE
computed (Err Zero) = fails ZERO

-- op2's division: by 0 it is ZERO
abbrev pub divided : ℤ → ℤ → Computed
divided a b = cond (same_number b (pos 0)) (fails ZERO) (ranged (quotient a b))
