-- The promise of reading, made to run: `read s` is the one answer to the text `s`. Nothing here is believed: the laws show that it is an answer, and the only one.
use mathlib.Core.Bool.{cond}
use mathlib.Core.List.{List, [], ◌∷◌}
use mathlib.Core.Option.{Option, none, some}
use Prim.Native.Nat.{ℕ, zero, suc}
use lib.Dec.{ltb}
use Rattle.language.specs.Syntax.{Block}
use Rattle.language.specs.Answers.{TOKENS, SYNTAX, LEVEL, Result, fine, refuse}
use Rattle.language.specs.Words.{Word, place_word, words_of, most}
use Rattle.language.specs.Levels.{deepest}
use Rattle.language.specs.Reading.{place_in}
use Rattle.language.proofs.Reading.Machine.{Parsed, through, stuck, whole}
use Rattle.language.proofs.Reading.Descent.{Got, miss, got, tree_of}

-- the word after the first n
unfoldable pub past : ℕ → List Word → Option Word
past n [] = none
past zero (x ∷ ts) = some x
past (suc n) (x ∷ ts) = past n ts

-- the first word that opens a level past the deepest
unfoldable pub deep : List ℕ → List Word → Option Word
deep [] ts = none
deep (l ∷ ls) [] = none
deep (l ∷ ls) (x ∷ ts) = cond (ltb deepest l) (some x) (deep ls ts)

abbrev pub levels_in : Parsed → List ℕ
levels_in (through t o) = o
levels_in (stuck rest o) = o

abbrev pub accept : Got Block → (Result Block)
accept miss = refuse SYNTAX 0
accept (got b r) = fine b

abbrev pub ended : List ℕ → List Word → Parsed → (Result Block)
ended s ts (through t o) = accept (tree_of ts)
ended s ts (stuck rest o) = refuse SYNTAX (place_in s rest)

abbrev pub levelled : List ℕ → List Word → Parsed → Option Word → (Result Block)
levelled s ts r none = ended s ts r
levelled s ts r (some x) = refuse LEVEL (place_word x)

abbrev pub counted : List ℕ → List Word → Option Word → (Result Block)
counted s ts none = levelled s ts (whole ts) (deep (levels_in (whole ts)) ts)
counted s ts (some x) = refuse TOKENS (place_word x)

abbrev pub scanned : List ℕ → (Result (List Word)) → (Result Block)
scanned s (refuse n p) = refuse n p
scanned s (fine ts) = counted s ts (past most ts)

unfoldable pub read : List ℕ → (Result Block)
read s = scanned s (words_of s)
