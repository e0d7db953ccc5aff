-- Worked examples at the limits: 64 and 65 levels, 4,096 and 4,097 words.
use mathlib.Core.Path.{◌≡◌, refl}
use mathlib.Core.Bool.{Bool, true, false}
use mathlib.Core.List.{List, [], ◌++◌}
use Prim.Native.Nat.{ℕ, zero, suc}
use Rattle.language.specs.Syntax.{Block}
use Rattle.language.specs.Bytes.{bytes_of}
use Rattle.language.specs.Answers.{BYTE, NUMBER, TOKENS, SYNTAX, LEVEL, Result, fine, refuse}
use Rattle.language.specs.Words.{words_from}
use Rattle.language.proofs.Reading.Machine.{set_sib, link, add_leaf, add_fork, retype, parse}
use Rattle.language.proofs.Reading.Descent.{descent}
use Rattle.language.proofs.Reading.Reader.{past, deep, read}

abbrev times : ℕ → List ℕ → List ℕ → List ℕ
times zero s r = r
times (suc n) s r = s ++ times n s r

abbrev is_program : (Result Block) → Bool
is_program (fine b) = true
is_program (refuse n p) = false

-- a block and n parentheses around a name
abbrev nested : ℕ → List ℕ
nested n = bytes_of "[ECHO " ++ times n (bytes_of "(not ") (bytes_of "x" ++ times n (bytes_of ")") (bytes_of "]"))

levels_64 : is_program (read (nested 63)) ≡ true
unfolding read words_from parse add_leaf add_fork link set_sib retype descent past deep
levels_64 = refl

levels_65 : read (nested 64) ≡ refuse LEVEL 321
unfolding read words_from parse add_leaf add_fork link set_sib retype descent past deep
levels_65 = refl

-- n blocks, and what follows the last condition
abbrev rounds : ℕ → List ℕ → List ℕ
rounds n s = times n (bytes_of "[WHILE x ") s

-- the 65th level opens only where a block begins
rounds_65 : read (rounds 64 (bytes_of "[ECHO 1]")) ≡ refuse LEVEL 576
unfolding read words_from parse add_leaf add_fork link set_sib retype descent past deep
rounds_65 = refl

-- SYNTAX first at the same word
rounds_syntax : read (rounds 64 (bytes_of "(")) ≡ refuse SYNTAX 576
unfolding read words_from parse add_leaf add_fork link set_sib retype descent past deep
rounds_syntax = refl

-- and LEVEL where it stands earlier
level_earlier : read (rounds 65 (bytes_of "(")) ≡ refuse LEVEL 576
unfolding read words_from parse add_leaf add_fork link set_sib retype descent past deep
level_earlier = refl

-- 3 n + 4 words, and what follows
abbrev echoes : ℕ → List ℕ → List ℕ
echoes n s = bytes_of "[" ++ times n (bytes_of "ECHO 1;") (bytes_of "ECHO 1]" ++ s)

words_4097 : read (echoes 1364 (bytes_of "]")) ≡ refuse TOKENS 9556
unfolding read words_from parse add_leaf add_fork link set_sib retype descent past deep
words_4097 = refl

-- with 4,096 words the first wrong one counts, with 4,097 the last
brackets_4096 : read (times 4096 (bytes_of "] ") []) ≡ refuse SYNTAX 0
unfolding read words_from parse add_leaf add_fork link set_sib retype descent past deep
brackets_4096 = refl

brackets_4097 : read (times 4097 (bytes_of "] ") []) ≡ refuse TOKENS 8192
unfolding read words_from parse add_leaf add_fork link set_sib retype descent past deep
brackets_4097 = refl

-- BYTE and NUMBER come before them, the first in the whole text
byte_first : read (times 4097 (bytes_of "] ") (bytes_of "# 9223372036854775808")) ≡ refuse BYTE 8194
unfolding read words_from parse add_leaf add_fork link set_sib retype descent past deep
byte_first = refl

number_first : read (times 4097 (bytes_of "] ") (bytes_of "-9223372036854775809 #")) ≡ refuse NUMBER 8194
unfolding read words_from parse add_leaf add_fork link set_sib retype descent past deep
number_first = refl

-- the desk's longer scripts are programs
loop : is_program (read (bytes_of "[VAR x int; SET x 0; WHILE (lt x 3) [ECHO x; SET x (add x 1)]]")) ≡ true
unfolding read words_from parse add_leaf add_fork link set_sib retype descent past deep
loop = refl

procedure : is_program (read (bytes_of "[PROC p [var x:int] [SET x (add x 1)]; VAR v int; SET v 41; CALL p (adr v); ECHO v]")) ≡ true
unfolding read words_from parse add_leaf add_fork link set_sib retype descent past deep
procedure = refl

function : is_program (read (bytes_of "[FUN REC f int [n:int] (if (lt n 1) 0 (add n (f (sub n 1)))); ECHO (f 3)]")) ≡ true
unfolding read words_from parse add_leaf add_fork link set_sib retype descent past deep
function = refl

type : is_program (read (bytes_of "[CONST f (int * int -> int) add; ECHO ([x:int, y:bool] x 1 true)]")) ≡ true
unfolding read words_from parse add_leaf add_fork link set_sib retype descent past deep
type = refl
