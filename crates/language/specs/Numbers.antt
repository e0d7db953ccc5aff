-- Numbers: their range, and what the operators compute (000's π₁ and π₂).
use Rattle.std.specs.Prelude.{◌+ℤ◌, ◌-ℤ◌, ◌*ℤ◌, ◌∷◌}
use Rattle.language.specs.Library.{ℕ, zero, suc, ℤ, pos, negsuc, neg_ℤ, lt_z, le_z, shr_z, Bool, true, false, cond, List, [], Option, none, some}
use Rattle.language.specs.Answers.{ErrorStop, RANGE, ZERO}
use Rattle.language.specs.Names.{Op, not, eq, lt, add, sub, mul, div}

abbrev pub top : ℕ  -- the range, said once: that of signed 64-bit numbers (request 6), from -(top + 1) to top
top = 9223372036854775807

abbrev pub least : ℤ  -- the least number
least = negsuc top

abbrev pub greatest : ℤ  -- the greatest number
greatest = pos top

abbrev pub in_range : ℤ → Bool
in_range z = cond (le_z least z) (le_z z greatest) false

abbrev pub quotient : ℤ → ℤ → ℤ  -- div rounds down (request 4), as the library's shr_z does: a by -b is -a by b
quotient a (pos b) = shr_z a b
quotient a (negsuc b) = shr_z (neg_ℤ a) (suc b)

pub data Computed : Type 0 where  -- a number, or why there is none
  amount : ℤ → Computed
  fails : ErrorStop → Computed

abbrev pub ranged : ℤ → Computed  -- a result outside the range is RANGE
ranged z = cond (in_range z) (amount z) (fails RANGE)

abbrev pub same_number : ℤ → ℤ → Bool
same_number a b = cond (le_z a b) (le_z b a) false

abbrev pub bit : Bool → ℤ  -- true is 1, false is 0
bit = elim [ true ↦ pos 1 | false ↦ pos 0 ]

abbrev pub as_bit : ℤ → Option Bool
as_bit = elim [ pos zero ↦ some false | pos (suc zero) ↦ some true | pos (suc (suc n)) ↦ none | negsuc n ↦ none ]

abbrev pub negated : Option Bool → Option Computed
negated = elim [ none ↦ none | some true ↦ some (amount (bit false)) | some false ↦ some (amount (bit true)) ]

abbrev pub op1 : Op → ℤ → Option Computed  -- π₁: not, of 0 or 1
op1 not a = negated (as_bit a)
op1 eq a = none
op1 lt a = none
op1 add a = none
op1 sub a = none
op1 mul a = none
op1 div a = none

abbrev pub op2 : Op → ℤ → ℤ → Option Computed  -- π₂: div by 0 is ZERO
op2 not a b = none
op2 eq a b = some (amount (bit (same_number a b)))
op2 lt a b = some (amount (bit (lt_z a b)))
op2 add a b = some (ranged (a +ℤ b))
op2 sub a b = some (ranged (a -ℤ b))
op2 mul a b = some (ranged (a *ℤ b))
op2 div a b = some (cond (same_number b (pos 0)) (fails ZERO) (ranged (quotient a b)))

abbrev pub compute : Op → List ℤ → Option Computed  -- an operator applied to numbers: nothing where no rule fits
compute o [] = none
compute o (a ∷ []) = op1 o a
compute o (a ∷ b ∷ []) = op2 o a b
compute o (a ∷ b ∷ c ∷ l) = none
