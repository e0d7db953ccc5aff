-- An amount is known by what it says: so a number that was computed is the one that is written.
use mathlib.Core.Path.{◌≡◌, refl, sym, ap, ◌∙◌}
use mathlib.Core.Bool.{Bool, true, false, cond}
use lib.IntN.{ℤ}
use Rattle.language.specs.Answers.{RANGE}
use Rattle.language.specs.Numbers.{in_range, amount, fails, ranged}
use Rattle.std.specs.Prelude.{Ok, Err}
use Rattle.amounts.specs.Amounts.{Amount, computed}
use Rattle.amounts.specs.declared.AmountError.TheVariants.{Range, Zero}
use Rattle.numerals.specs.Written.{written}

pub computed_written : (z : ℤ) → computed (written z) ≡ ranged z
computed_written z = by (in_range z)
  where
    by : (t : Bool) → computed (cond t (Ok z) (Err Range)) ≡ cond t (amount z) (fails RANGE)
    by true = refl
    by false = refl

pub computed_one : (a b : Amount) → computed a ≡ computed b → a ≡ b
computed_one (Ok x) (Ok y) e = let q : x ≡ y = cc in ap Ok q
computed_one (Ok x) (Err Range) e = cc
computed_one (Ok x) (Err Zero) e = cc
computed_one (Err Range) (Ok y) e = cc
computed_one (Err Range) (Err Range) e = refl
computed_one (Err Range) (Err Zero) e = cc
computed_one (Err Zero) (Ok y) e = cc
computed_one (Err Zero) (Err Range) e = cc
computed_one (Err Zero) (Err Zero) e = refl

pub is_written : (a : Amount) (z : ℤ) → computed a ≡ ranged z → a ≡ written z
is_written a z e = computed_one a (written z) (e ∙ sym (computed_written z))
