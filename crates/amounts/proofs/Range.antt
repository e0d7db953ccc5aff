-- The range in code, that of the signed words, is the language's, and what lies outside is RANGE.
use mathlib.Core.Path.{◌≡◌}
use mathlib.Core.Bool.{Bool, true, false}
use Prim.Native.Nat.{ℕ, zero, suc, ◌^◌, ◌<◌}
use native.Mathlib.Omega.{arith}
use lib.IntN.{ℤ, pos, negsuc}
use borrow.Author.Tests.{lt-leb, le-leb}
use mir.Syntax.{w64}
use mir.Val.{SFits}
use Rattle.language.specs.Answers.{RANGE}
use Rattle.language.specs.Numbers.{top, amount, fails, ranged}
use Rattle.amounts.specs.Signs.{signed}

-- every number that fits a word is in the range
pub whole : (z : ℤ) → SFits w64 z → amount z ≡ ranged z
whole (pos n) f = simp (le-leb n top (omega (arith, f.sfits)))
whole (negsuc n) f = simp (le-leb n top (omega (arith, f.sfits)))

-- beyond each end
pub above : (n : ℕ) → top < n → fails RANGE ≡ ranged (pos n)
above n h = simp (lt-leb n top h)

pub below : (n : ℕ) → top < n → fails RANGE ≡ ranged (negsuc n)
below n h = simp (lt-leb n top h)

pub far : (negative : Bool) (n : ℕ) → 2 ^ 63 < n → fails RANGE ≡ ranged (signed negative n)
far false n h = above n (omega arith)
far true zero h = absurd (omega arith)
far true (suc n) h = below n (omega arith)
