-- What making a limit answers.
use Rattle.std.specs.Prelude.{ℕ, cond, leb, Option, Some, None}
use Rattle.limits.specs.declared.Limit.{Limit}

-- a number up to the greatest, and nothing beyond it
abbrev pub admitted : (most n : ℕ) → Option ℕ
admitted most n = cond (leb n most) (Some n) None

-- the number of the limit that was made
abbrev pub made : {most : ℕ} → Option (Limit most) → Option ℕ
made (Some l) = Some l.number
made None = None
