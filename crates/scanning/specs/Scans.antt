-- The loop over the words of a text: the first word for which the table has no room, and how the loop ends.
use Rattle.std.specs.Prelude.{ℕ, cond, ltb, Option, None, Some, Result, Ok, Err}
use Rattle.std.specs.Option.{option_or}
use Rattle.scanning.specs.declared.ScanError.{ScanError}
use Rattle.scanning.specs.declared.ScanError.TheVariants.{Tokens}

-- with a word at place p as the n-th for a table of so many entries
abbrev pub over_after : (n size p : ℕ) → (over : Option ℕ) → Option ℕ
over_after n size p over = cond (ltb n size) over (option_or over (Some p))

-- after n words: the table has them all, or has no room for one
abbrev pub counted_scan : (n : ℕ) → (over : Option ℕ) → Result ℕ ScanError
counted_scan n None = Ok n
counted_scan n (Some p) = Err (Tokens p)
