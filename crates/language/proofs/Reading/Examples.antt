-- Worked examples: document 01's texts, through `read`, which `only` shows to be the one answer.
use mathlib.Core.Path.{◌≡◌, refl}
use mathlib.Core.List.{List, [], ◌∷◌}
use lib.IntN.{pos, negsuc}
use Rattle.language.specs.Syntax.{at, num, name, app, one_expr, more_exprs, last, def_then, const, echo, set, Block, block}
use Rattle.language.specs.Bytes.{bytes_of}
use Rattle.language.specs.Answers.{BYTE, NUMBER, SYNTAX, Result, fine, refuse}
use Rattle.language.specs.Words.{k_lbr, k_rbr, k_arrow, k_echo, Word, mark, number, named, words_from, words_of}
use Rattle.language.specs.Table.{shape_type, shape_expr, shape_cmds, node, size, first, enc, table}
use Rattle.language.proofs.Reading.Machine.{set_sib, link, add_leaf, add_fork, retype, set_block, blocked, through, parse, whole}
use Rattle.language.proofs.Reading.Descent.{descent}
use Rattle.language.proofs.Reading.Reader.{past, deep, read}
use Rattle.language.specs.Syntax
use Rattle.language.specs.Words

words_in : Result (List Word) → List Word
words_in (fine ts) = ts
words_in (refuse r p) = []

w1 : words_of (bytes_of "[ECHO 1]") ≡ fine (mark k_lbr 0 ∷ mark k_echo 1 ∷ number 6 (pos 1) ∷ mark k_rbr 7 ∷ [])
unfolding words_from
w1 = refl

w2 : words_of (bytes_of "12ab") ≡ fine (number 0 (pos 12) ∷ named (at 2 (bytes_of "ab")) ∷ [])
unfolding words_from
w2 = refl

w3 : words_of (bytes_of "1-2") ≡ fine (number 0 (pos 1) ∷ number 1 (negsuc 1) ∷ [])
unfolding words_from
w3 = refl

w4 : words_of (bytes_of "->") ≡ fine (mark k_arrow 0 ∷ [])
unfolding words_from
w4 = refl

w5 : words_of (bytes_of " - 1") ≡ refuse BYTE 1
unfolding words_from
w5 = refl

w6 : words_of (bytes_of "9223372036854775807 -9223372036854775808") ≡ fine (number 0 (pos 9223372036854775807) ∷ number 20 (negsuc 9223372036854775807) ∷ [])
unfolding words_from
w6 = refl

w7 : words_of (bytes_of "x 9223372036854775808 ?") ≡ refuse NUMBER 2
unfolding words_from
w7 = refl

r1 : read (bytes_of "[ECHO 1]") ≡ fine (block 0 (last (echo 1 (num 6 (pos 1)))))
unfolding read words_from parse add_leaf add_fork link set_sib retype descent past deep
r1 = refl

r2 : read (bytes_of "[]") ≡ refuse SYNTAX 1
unfolding read words_from parse add_leaf add_fork link set_sib retype descent past deep
r2 = refl

t1 : table (block 0 (last (echo 1 (num 6 (pos 1))))) ≡ 0x0001000000010000 ∷ 0x0008000100020000 ∷ 0x0012000600000000 ∷ []
unfolding table enc size first shape_expr shape_cmds
t1 = refl

-- a function with a block: its tree, and its table with the kinds 32 FUN, 1 block and 31 RETURN
r_returns : read (bytes_of "[FUN f int [x:int] [RETURN x]; ECHO (f 3)]")
    ≡ fine
    (block 0
    (def_then
    (Syntax.fun_block 1 (at 5 (bytes_of "f")) (Syntax.int 7) (Syntax.arg (at 12 (bytes_of "x")) (Syntax.int 14) ∷ [])
    (block 19 (last (Syntax.return 20 (name (at 27 (bytes_of "x")))))))
    (last (echo 31 (app 36 (name (at 37 (bytes_of "f"))) (one_expr (num 39 (pos 3))))))))
unfolding read words_from parse add_leaf add_fork link set_sib retype descent past deep
r_returns = refl

t_returns : whole (words_in (words_of (bytes_of "[FUN f int [x:int] [RETURN x]; ECHO (f 3)]")))
    ≡ through
    (node 1 0 1 0 ∷ node 32 1 2 9 ∷ node 19 5 0 3 ∷ node 16 7 0 4 ∷ node 13 12 5 6 ∷ node 16 14 0 0 ∷ node 1 19 7 0 ∷ node 31 20 8 0 ∷ node 19 27 0 0
    ∷ node 8 31 10 0 ∷ node 23 36 11 0 ∷ node 19 37 0 12 ∷ node 18 39 0 0 ∷ [])
    (1 ∷ 0 ∷ 0 ∷ 0 ∷ 0 ∷ 0 ∷ 0 ∷ 0 ∷ 0 ∷ 2 ∷ 0 ∷ 0 ∷ 0 ∷ 0 ∷ 0 ∷ 2 ∷ 0 ∷ 0 ∷ 0 ∷ 0 ∷ [])
unfolding words_in words_from parse add_leaf add_fork link set_sib retype set_block blocked
t_returns = refl

-- a tree in full: `[CONST x int 0; SET x 42]`
r3 : read (bytes_of "[CONST x int 0; SET x 42]")
    ≡ fine (block 0 (def_then (const 1 (at 7 (bytes_of "x")) (Syntax.int 9) (num 13 (pos 0))) (last (set 16 (at 20 (bytes_of "x")) (num 22 (pos 42))))))
unfolding read words_from parse add_leaf add_fork link set_sib retype descent past deep
r3 = refl

r4 : read (bytes_of "[CALL p (adr v) (add x1 -7)]")
    ≡ fine
    (block 0
    (last
    (Syntax.call 1 (at 6 (bytes_of "p"))
    (Syntax.adr 8 (at 13 (bytes_of "v"))
    ∷ Syntax.val (app 16 (name (at 17 (bytes_of "add"))) (more_exprs (name (at 21 (bytes_of "x1"))) (one_expr (num 24 (negsuc 6)))))
    ∷ []))))
unfolding read words_from parse add_leaf add_fork link set_sib retype descent past deep
r4 = refl

-- `(adr` where an expression must stand is SYNTAX at `adr`; a CALL has at least one argument; after a definition only `;` goes on
r5 : read (bytes_of "[ECHO (adr x)]") ≡ refuse SYNTAX 7
unfolding read words_from parse add_leaf add_fork link set_sib retype descent past deep
r5 = refl

r6 : read (bytes_of "[CALL p]") ≡ refuse SYNTAX 7
unfolding read words_from parse add_leaf add_fork link set_sib retype descent past deep
r6 = refl

r7 : read (bytes_of "[VAR x int]") ≡ refuse SYNTAX 10
unfolding read words_from parse add_leaf add_fork link set_sib retype descent past deep
r7 = refl

-- words after the program; a text that ends too soon; no text
r8 : read (bytes_of "[ECHO 1] ]") ≡ refuse SYNTAX 9
unfolding read words_from parse add_leaf add_fork link set_sib retype descent past deep
r8 = refl

r9 : read (bytes_of "[ECHO 1 ") ≡ refuse SYNTAX 8
unfolding read words_from parse add_leaf add_fork link set_sib retype descent past deep
r9 = refl

r10 : read [] ≡ refuse SYNTAX 0
unfolding read words_from parse add_leaf add_fork link set_sib retype descent past deep
r10 = refl

-- BYTE or NUMBER, whichever stands first, before SYNTAX
r11 : read (bytes_of "] 9223372036854775808 #") ≡ refuse NUMBER 2
unfolding read words_from parse add_leaf add_fork link set_sib retype descent past deep
r11 = refl

-- all symbols and key words, and words that only begin like them
w8 : words_of (bytes_of "[]();:,*->CONST FUN REC VAR PROC ECHO SET IF WHILE CALL if and or bool int var adr")
    ≡ fine
    (mark Words.k_lbr 0 ∷ mark Words.k_rbr 1 ∷ mark Words.k_lpar 2 ∷ mark Words.k_rpar 3 ∷ mark Words.k_semi 4 ∷ mark Words.k_colon 5 ∷ mark Words.k_comma 6 ∷ mark Words.k_star 7 ∷ mark Words.k_arrow 8
    ∷ mark Words.k_const 10 ∷ mark Words.k_fun 16 ∷ mark Words.k_rec 20 ∷ mark Words.k_var 24 ∷ mark Words.k_proc 28 ∷ mark Words.k_echo 33 ∷ mark Words.k_set 38 ∷ mark Words.k_if 42
    ∷ mark Words.k_while 45 ∷ mark Words.k_call 51 ∷ mark Words.kif 56 ∷ mark Words.kand 59 ∷ mark Words.kor 63 ∷ mark Words.kbool 66 ∷ mark Words.kint 71 ∷ mark Words.kvar 75 ∷ mark Words.kadr 79
    ∷ [])
unfolding words_from
w8 = refl

w9 : words_of (bytes_of "ECHO1\tiff\r\nIf") ≡ fine (named (at 0 (bytes_of "ECHO1")) ∷ named (at 6 (bytes_of "iff")) ∷ named (at 11 (bytes_of "If")) ∷ [])
unfolding words_from
w9 = refl

-- a byte that is in no word, and one past ASCII
w10 : words_of (91 ∷ 195 ∷ 169 ∷ []) ≡ refuse BYTE 1
unfolding words_from
w10 = refl

-- blocks of cells: the five key words, a tree in full and its table
w11 : words_of (bytes_of "vec alloc nth len vset vecs")
    ≡ fine (mark Words.kvec 0 ∷ mark Words.kalloc 4 ∷ mark Words.knth 10 ∷ mark Words.klen 14 ∷ mark Words.kvset 18 ∷ named (at 23 (bytes_of "vecs")) ∷ [])
unfolding words_from
w11 = refl

abbrev blocks_tree : Block
blocks_tree =
    block 0
    (last
    (echo 1
    (Syntax.nth_expr 6 (Syntax.vset 11 (Syntax.alloc 17 (Syntax.vec 24 (Syntax.int 29)) (num 34 (pos 2))) (num 37 (pos 0)) (name (at 39 (bytes_of "x"))))
    (Syntax.len 42 (name (at 47 (bytes_of "y")))))))

r12 : read (bytes_of "[ECHO (nth (vset (alloc (vec int) 2) 0 x) (len y))]") ≡ fine blocks_tree
unfolding read words_from parse add_leaf add_fork link set_sib retype descent past deep
r12 = refl

t2 : table blocks_tree ≡
    0x0001000000010000 ∷ 0x0008000100020000 ∷ 0x001C000600030000 ∷ 0x001E000B0004000A ∷ 0x001B001100050008 ∷ 0x001A001800060007 ∷ 0x0010001D00000000 ∷ 0x0012002200000000 ∷ 0x0012002500000009 ∷ 0x0013002700000000 ∷ 0x001D002A000B0000 ∷ 0x0013002F00000000 ∷ []
unfolding table enc size first shape_expr shape_cmds shape_type
t2 = refl
