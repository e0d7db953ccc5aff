-- What `parse` answers, with the tree that it leaves.
use Rattle.std.specs.Prelude.{List, ℕ, Result, Ok, Err}
use Rattle.language.specs.Answers.{SYNTAX, LEVEL, refusal_number}
use Rattle.scanning.specs.Scanning.{Ended, whole, halted}
use Rattle.parsing.specs.declared.ParseError.{ParseError}
use Rattle.parsing.specs.declared.ParseError.TheVariants.{Syntax, Level}

-- document 01's number and place of a refusal
abbrev pub parse_halted : ParseError → Ended
parse_halted (Syntax place) = halted (refusal_number SYNTAX) place
parse_halted (Level place) = halted (refusal_number LEVEL) place

-- the grammar's loop: the tree, or a refusal, after which the table says nothing
abbrev pub ending : Result ℕ ParseError → List ℕ → Ended
ending (Ok n) tree = whole tree n
ending (Err e) tree = parse_halted e
