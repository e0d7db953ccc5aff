-- What the inner functions answer, with the tables that they leave.
use Rattle.std.specs.Prelude.{List, ◌++◌, ℕ, ◌-◌, length, drop, replicate, Ok, Err}
use Rattle.std.specs.Prelude.{Result as Outcome}
use Rattle.language.specs.Syntax.{Block}
use Rattle.language.specs.Answers.{Refusal, LENGTH, TABLE, TOKENS, SYNTAX, LEVEL, Result, fine, refuse, refusal_number}
use Rattle.language.specs.Table.{table}
use Rattle.limits.specs.Cleared.{zeroed}
use Rattle.words.specs.Next as words
use Rattle.scanning.specs.declared.ScanError.TheVariants.{Word, Tokens}
use Rattle.scanning.specs.Scanning.{Ended, whole, halted}
use Rattle.parsing.specs.declared.ParseError.TheVariants.{Syntax, Level}
use Rattle.reading.specs.declared.ReadError.{ReadError}
use Rattle.reading.specs.declared.ReadError.TheVariants.{Length, Table, Scan, Parse}

-- document 01's refusal that an error stands for, and its place
abbrev pub refusal_of : ReadError → Refusal
refusal_of Length = LENGTH
refusal_of Table = TABLE
refusal_of (Scan (Word e)) = words.refusal_of e
refusal_of (Scan (Tokens place)) = TOKENS
refusal_of (Parse (Syntax place)) = SYNTAX
refusal_of (Parse (Level place)) = LEVEL

abbrev pub place_of : ReadError → ℕ
place_of Length = 0
place_of Table = 0
place_of (Scan (Word e)) = words.place_of e
place_of (Scan (Tokens place)) = place
place_of (Parse (Syntax place)) = place
place_of (Parse (Level place)) = place

-- an answer in the language's words: the number of the tree's words, or a refusal and its place
abbrev pub said : Outcome ℕ ReadError → Result ℕ
said (Ok n) = fine n
said (Err e) = refuse (refusal_of e) (place_of e)

-- how the loops end: with the tree, or with a refusal's number and place
abbrev pub ending : Outcome ℕ ReadError → List ℕ → Ended
ending (Ok n) tree = whole tree n
ending (Err e) tree = halted (refusal_number (refusal_of e)) (place_of e)

-- the answer to a text, with the tree in the table l
abbrev pub told : List ℕ → Result Block → Ended
told l (fine b) = whole (table b ++ drop (length (table b)) l) (length (table b))
told l (refuse r p) = halted (refusal_number r) p

-- a table that is cleared
abbrev pub zeros : List ℕ → List ℕ
zeros l = replicate (length l) 0

-- a tree table with the answer to a text: the tree and zeros behind it, or zeros
abbrev pub filled : List ℕ → Result Block → List ℕ
filled l (fine b) = table b ++ replicate (length l - length (table b)) 0
filled l (refuse r p) = zeros l

-- the tree table, cleared after a refusal
abbrev pub kept : Outcome ℕ ReadError → List ℕ → List ℕ
kept (Ok n) tree = tree
kept (Err e) tree = zeroed 0 4096 tree
