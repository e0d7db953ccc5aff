-- The nine names as code tells them apart: each has the number that `meaning_no` gives it, and 0 stands for none of them.
use Rattle.std.specs.Prelude.{ℕ, ◌≢◌, List, Option, Some, None, slice_index}
use Rattle.language.specs.Bytes.{bytes_of}
use Rattle.nodes.specs.declared.Meaning.{Meaning}
use Rattle.nodes.specs.declared.Meaning.TheVariants.{True, False, Not, Eq, Lt, Add, Sub, Mul, Div}

abbrev pub number : Meaning → ℕ
number True = 1
number False = 2
number Not = 3
number Eq = 4
number Lt = 5
number Add = 6
number Sub = 7
number Mul = 8
number Div = 9

abbrev pub number_or_zero : Option Meaning → ℕ
number_or_zero None = 0
number_or_zero (Some m) = number m

-- how a text writes it
abbrev pub written : Meaning → List ℕ
written True = bytes_of "true"
written False = bytes_of "false"
written Not = bytes_of "not"
written Eq = bytes_of "eq"
written Lt = bytes_of "lt"
written Add = bytes_of "add"
written Sub = bytes_of "sub"
written Mul = bytes_of "mul"
written Div = bytes_of "div"

-- none of the nine begins with the byte
abbrev pub BeginsNone : ℕ → Type 0
BeginsNone byte = (m : Meaning) → slice_index (written m) 0 ≢ byte
