-- The number by which code knows what a name is by itself: 0 where it is free to be bound, and the nine names from 1 on.
use Rattle.std.specs.Prelude.{ℕ, true, false}
use Rattle.language.specs.Names.{not, eq, lt, add, sub, mul, div, Meaning, literal, operator, free}

abbrev pub meaning_no : Meaning → ℕ
meaning_no free = 0
meaning_no (literal true) = 1
meaning_no (literal false) = 2
meaning_no (operator not) = 3
meaning_no (operator eq) = 4
meaning_no (operator lt) = 5
meaning_no (operator add) = 6
meaning_no (operator sub) = 7
meaning_no (operator mul) = 8
meaning_no (operator div) = 9
