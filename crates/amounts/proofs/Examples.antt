-- Worked examples of document 01 and of requests 4 and 6, by computation.
use mathlib.Core.Path.{◌≡◌, refl}
use mathlib.Core.Option.{some}
use lib.IntN.{pos, negsuc}
use Rattle.language.specs.Answers.{RANGE, ZERO}
use Rattle.language.specs.Names.{mul, div, add, sub}
use Rattle.language.specs.Numbers.{least, greatest, amount, fails, op2}

-- negsuc n is -(n + 1)
mul_inside : op2 mul (pos 3037000499) (pos 3037000499) ≡ some (amount (pos 9223372030926249001))
mul_inside = refl

mul_outside : op2 mul (pos 3037000500) (pos 3037000500) ≡ some (fails RANGE)
mul_outside = refl

mul_least : op2 mul (pos 4294967296) (negsuc 2147483647) ≡ some (amount least)
mul_least = refl

mul_past_greatest : op2 mul least (negsuc 0) ≡ some (fails RANGE)
mul_past_greatest = refl

div_outside : op2 div least (negsuc 0) ≡ some (fails RANGE)
div_outside = refl

div_zero_first : op2 div least (pos 0) ≡ some (fails ZERO)
div_zero_first = refl

div_down : op2 div (negsuc 6) (pos 2) ≡ some (amount (negsuc 3))
div_down = refl

div_down_negative : op2 div (pos 7) (negsuc 1) ≡ some (amount (negsuc 3))
div_down_negative = refl

div_like_signs : op2 div (negsuc 6) (negsuc 1) ≡ some (amount (pos 3))
div_like_signs = refl

div_by_zero : op2 div (pos 1) (pos 0) ≡ some (fails ZERO)
div_by_zero = refl

add_small : op2 add (pos 1) (pos 2) ≡ some (amount (pos 3))
add_small = refl

add_outside : op2 add greatest (pos 1) ≡ some (fails RANGE)
add_outside = refl

sub_least : op2 sub (negsuc 9223372036854775806) (pos 1) ≡ some (amount least)
sub_least = refl

sub_outside : op2 sub least (pos 1) ≡ some (fails RANGE)
sub_outside = refl
