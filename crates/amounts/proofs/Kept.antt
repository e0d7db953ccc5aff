-- What an answer tells its caller, and numbers kept as two's complement words.
use mathlib.Core.Path.{◌≡◌, refl}
use mathlib.Core.Bool.{Bool, true, false, cond}
use Prim.Native.Nat.{ℕ, ◌^◌, ◌<◌}
use native.Mathlib.Omega.{arith}
use lib.Dec.{leb}
use lib.IntN.{ℤ, pos, negsuc}
use lib.Signed.{mag}
use borrow.Author.Tests.{leb-true}
use mir.Syntax.{w64}
use mir.Val.{to_z, of_z, SFits}
use mir.Facts.{to_z-of_z, of_z-to_z}
use Rattle.language.specs.Answers.{RANGE}
use Rattle.language.specs.Numbers.{least, greatest, in_range, amount, fails, ranged}

-- ---- a number that was computed, and RANGE
pub amount_is : (x z : ℤ) → amount x ≡ ranged z → (x ≡ z) × (in_range z ≡ true)
amount_is x z = by (in_range z)
  where
    by : (t : Bool) → amount x ≡ cond t (amount z) (fails RANGE) → (x ≡ z) × (t ≡ true)
    by true e = (cc, refl)
    by false e = (cc, cc)

pub range_is : (z : ℤ) → fails RANGE ≡ ranged z → in_range z ≡ false
range_is z = by (in_range z)
  where
    by : (t : Bool) → fails RANGE ≡ cond t (amount z) (fails RANGE) → t ≡ false
    by true e = cc
    by false e = refl

-- ---- words: each way undoes the other
pub fits_word : (z : ℤ) → in_range z ≡ true → SFits w64 z
fits_word (pos n) e = let h = leb-true n (mag greatest) e in record { sfits = omega arith }
fits_word (negsuc n) e = let h = leb-true n (mag least) (by (leb n (mag least)) e) in record { sfits = omega arith }
  where
    by : (t : Bool) → cond t true false ≡ true → t ≡ true
    by true e = refl
    by false e = e

pub number_word : (z : ℤ) → SFits w64 z → to_z w64 (of_z w64 z) ≡ z
number_word z f = to_z-of_z f

pub ranged_word : (z : ℤ) → in_range z ≡ true → to_z w64 (of_z w64 z) ≡ z
ranged_word z e = to_z-of_z (fits_word z e)

pub word_number : (n : ℕ) → n < 2 ^ 64 → of_z w64 (to_z w64 n) ≡ n
word_number n h = of_z-to_z {w = w64} {n = n} (record { fits = h })
