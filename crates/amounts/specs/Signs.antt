-- Integers by sign and magnitude: what a text writes, and what the code's quotients compute with.
use Rattle.std.specs.Prelude.{ℕ, Bool, true, false, ℤ, pos, neg_ℤ}

abbrev pub signed : (negative : Bool) → (magnitude : ℕ) → ℤ
signed true n = neg_ℤ (pos n)
signed false n = pos n
