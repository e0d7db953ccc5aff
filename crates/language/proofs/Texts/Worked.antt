-- Worked examples: the rest of the desk's scripts, the errors seen in other gateways, and the order of judging, from their texts, by computation.
use mathlib.Core.Path.{refl}
use mathlib.Core.List.{List, [], ◌∷◌}
use lib.IntN.{pos, negsuc}
use Rattle.language.specs.Answers.{TYPE, DOUBLE, FUEL, DEPTH, CELLS, BINDINGS, OUTPUT, RANGE, UNSET, limit, error, done, stopped, NUMBER}
use Rattle.language.specs.Names.{meaning}
use Rattle.language.specs.Words.{words_from}
use Rattle.language.specs.Limits.{greatest_limits}
use Rattle.language.specs.Rules.{bind, need, otherwise, unless_returned, within, branch, give, give_cell, level}
use Rattle.language.specs.Outcome.{refusal_report}
use Rattle.language.specs.Desk.{Case, AllHold, case, ends, limited}
use Rattle.language.proofs.Reading.Machine.{set_sib, link, add_leaf, add_fork, retype, parse}
use Rattle.language.proofs.Reading.Descent.{descent}
use Rattle.language.proofs.Reading.Reader.{past, deep, read}
use Rattle.language.proofs.Typing.Judge.{and_then, judged, only, passes, single, same_type, judge_type, judge_after, judge_expr, judge_arg, judge_args, judge_cmds}
use Rattle.language.proofs.Texts.Verdicts.{judged_tree, judged_text, verdict, outcome}
use Rattle.language.proofs.Texts.Tables.{AllComputed, computed_holds}

abbrev worked : List Case
worked =
    -- ---- the other scripts of the desk
    case "[PROC p [var x:int] [SET x (add x 1)]; VAR v int; SET v 41; CALL p (adr v); ECHO v]" greatest_limits
    (ends done 12 3 1 (pos 42 ∷ [])) ∷
    case "[PROC p [var x:int] [SET x (add x 1)]; VAR v int; SET v 41; CALL p v; ECHO v]" greatest_limits
    (refusal_report TYPE 60) ∷
    case "[FUN REC f int [n:int] (if (lt n 1) 0 (add n (f (sub n 1)))); ECHO (f 3)]" greatest_limits
    (ends done 43 9 0 (pos 6 ∷ [])) ∷
    -- ---- the range's edges, as computed
    case "[ECHO (mul 4294967295 2147483648)]" greatest_limits
    (ends done 4 0 0 (pos 9223372034707292160 ∷ [])) ∷
    case "[ECHO (mul 4294967296 2147483648)]" greatest_limits
    (ends (stopped (error RANGE) 6) 4 0 0 []) ∷
    case "[ECHO (div -9223372036854775808 -1)]" greatest_limits
    (ends (stopped (error RANGE) 6) 4 0 0 []) ∷
    case "[ECHO (mul 4294967296 -2147483648); ECHO (mul 3037000499 3037000499); ECHO (mul 3037000500 3037000500)]" greatest_limits
    (ends (stopped (error RANGE) 75) 12 0 0 (negsuc 9223372036854775807 ∷ pos 9223372030926249001 ∷ [])) ∷
    case "[ECHO (add 9223372036854775806 1); ECHO (sub -9223372036854775807 1); ECHO (add 9223372036854775807 1)]" greatest_limits
    (ends (stopped (error RANGE) 75) 12 0 0 (pos 9223372036854775807 ∷ negsuc 9223372036854775807 ∷ [])) ∷
    case "[ECHO (sub -9223372036854775808 1)]" greatest_limits
    (ends (stopped (error RANGE) 6) 4 0 0 []) ∷
    case "[ECHO 9223372036854775808]" greatest_limits
    (refusal_report NUMBER 6) ∷
    case "[ECHO 1; ECHO -9223372036854775809]" greatest_limits
    (refusal_report NUMBER 14) ∷
    -- ---- div rounds down
    case "[ECHO (div 7 2); ECHO (div -7 -2); ECHO (div 7 -2); ECHO (div -8 2); ECHO (div 8 -2); ECHO (div -1 3); ECHO (div 1 -3); ECHO (div 0 -3)]" greatest_limits
    (ends done 32 0 0 (pos 3 ∷ pos 3 ∷ negsuc 3 ∷ negsuc 3 ∷ negsuc 3 ∷ negsuc 0 ∷ negsuc 0 ∷ pos 0 ∷ [])) ∷
    case "[VAR x int; SET x 0; WHILE (lt x 3) [ECHO x; SET x (add x 1)]]" (limited 100000 200 4096 4096 4096)
    (ends done 37 1 1 (pos 0 ∷ pos 1 ∷ pos 2 ∷ [])) ∷
    -- ---- a body has the names of its definition, not its caller's
    case "[CONST x int 1; FUN f int [y:int] x; CONST x int 2; ECHO (f 0)]" greatest_limits
    (ends done 10 4 0 (pos 1 ∷ [])) ∷
    case "[VAR x int; SET x 1; PROC p [y:int] [ECHO x]; VAR x int; SET x 2; CALL p 0]" greatest_limits
    (ends done 11 4 2 (pos 1 ∷ [])) ∷
    case "[FUN inc int [n:int] (add n 1); ECHO ([g:(int -> int)] (g 5) inc)]" greatest_limits
    (ends done 11 3 0 (pos 6 ∷ [])) ∷
    case "[FUN inc int [n:int] (add n 1); FUN twice int [g:(int -> int), n:int] (g (g n)); ECHO (twice inc 5)]" greatest_limits
    (ends done 18 6 0 (pos 7 ∷ [])) ∷
    -- ---- (adr x) is the address and does not read the cell; a value parameter is nothing that SET may store to
    case "[PROC p [var x:int] [SET x 7]; VAR v int; CALL p (adr v); ECHO v]" greatest_limits
    (ends done 8 3 1 (pos 7 ∷ [])) ∷
    case "[PROC p [x:int] [SET x 1]; CALL p 2]" greatest_limits
    (refusal_report TYPE 17) ∷
    -- ---- and, or stop early
    case "[VAR x bool; ECHO (if (and false x) 1 0)]" greatest_limits
    (ends done 6 1 1 (pos 0 ∷ [])) ∷
    case "[VAR x bool; ECHO (if (and true x) 1 0)]" greatest_limits
    (ends (stopped (error (UNSET 1)) 32) 6 1 1 []) ∷
    case "[ECHO (if (or true (lt (div 1 0) 1)) 1 0)]" greatest_limits
    (ends done 5 0 0 (pos 1 ∷ [])) ∷
    -- ---- nothing is given back at a call's end
    case "[PROC p [n:int] [VAR a int; SET a n; ECHO a]; CALL p 1; CALL p 2; VAR b int; SET b 3; ECHO b]" greatest_limits
    (ends done 20 6 3 (pos 1 ∷ pos 2 ∷ pos 3 ∷ [])) ∷
    -- ---- limits
    case "[ECHO 1]" (limited 0 200 4096 4096 4096)
    (ends (stopped (limit FUEL) 1) 0 0 0 []) ∷
    case "[ECHO 1]" (limited 1000000 0 4096 4096 4096)
    (ends (stopped (limit DEPTH) 1) 1 0 0 []) ∷
    case "[ECHO 1; ECHO 2]" (limited 1000000 200 4096 4096 1)
    (ends (stopped (limit OUTPUT) 9) 4 0 0 (pos 1 ∷ [])) ∷
    case "[VAR x int; ECHO 1]" (limited 1000000 200 4096 0 4096)
    (ends (stopped (limit CELLS) 1) 1 0 0 []) ∷
    case "[VAR x int; ECHO 1]" (limited 1000000 200 0 4096 4096)
    (ends (stopped (limit BINDINGS) 1) 1 0 1 []) ∷
    case "[FUN f int [x:int, y:int] x; ECHO (f 1 2)]" (limited 1000000 200 2 4096 4096)
    (ends (stopped (limit BINDINGS) 34) 6 1 0 []) ∷
    -- ---- no name twice in one parameter list, judged as its parameters end, TYPE first; a list inside is a list of its own; a recursive name hides a parameter
    case "[FUN f int [x:bool, x:int] x; ECHO (f true 3)]" greatest_limits
    (refusal_report DOUBLE 20) ∷
    case "[PROC p [fare:int, var fare:bool] [ECHO y]; ECHO 1]" greatest_limits
    (refusal_report DOUBLE 23) ∷
    case "[ECHO ([x:int, y:int, x:int, y:int] x 1 2 3 4)]" greatest_limits
    (refusal_report DOUBLE 22) ∷
    case "[PROC REC p [x:int, var x:(int -> int)] [ECHO 1]; ECHO 1]" greatest_limits
    (refusal_report TYPE 24) ∷
    case "[FUN f int [x:int, x:int, not:int] 1; ECHO 1]" greatest_limits
    (refusal_report DOUBLE 19) ∷
    case "[FUN f int [not:int, x:int, x:int] 1; ECHO 1]" greatest_limits
    (refusal_report TYPE 12) ∷
    case "[ECHO y; FUN f int [x:int, x:int] 1; ECHO 1]" greatest_limits
    (refusal_report TYPE 6) ∷
    case "[FUN f int [x:int] ([x:int, y:int] (add x y) x 2); ECHO (f 3)]" greatest_limits
    (ends done 12 4 0 (pos 5 ∷ [])) ∷
    case "[FUN REC f int [f:int] (if true 4 (f 0)); ECHO (f 1)]" greatest_limits
    (ends done 8 3 0 (pos 4 ∷ [])) ∷
    -- ---- the nine names mean themselves, also where they are bound; parameters come before the body
    case "[FUN REC add int [n:int] (add n 1); ECHO 1]" greatest_limits
    (refusal_report TYPE 1) ∷
    case "[FUN f int [not:int] (true 1); ECHO 1]" greatest_limits
    (refusal_report TYPE 12) ∷
    case "[PROC REC add [n:int] [CALL add n]; ECHO 1]" greatest_limits
    (refusal_report TYPE 23) ∷
    case "[PROC p [add:int] [SET add 1]; ECHO 1]" greatest_limits
    (refusal_report TYPE 9) ∷
    case "[CONST x int true; ECHO y]" greatest_limits
    (refusal_report TYPE 1) ∷
    -- ---- VAR and var parameters are bool or int
    case "[VAR f (int -> int); ECHO 1]" greatest_limits
    (refusal_report TYPE 1) ∷
    case "[PROC p [x:int, var f:(int -> int)] [ECHO y]; ECHO 1]" greatest_limits
    (refusal_report TYPE 20) ∷
    -- ---- children before parents, left to right
    case "[ECHO (true 1)]" greatest_limits
    (refusal_report TYPE 6) ∷
    case "[ECHO (true y)]" greatest_limits
    (refusal_report TYPE 12) ∷
    case "[ECHO (add 1)]" greatest_limits
    (refusal_report TYPE 6) ∷
    case "[ECHO (if 1 y z)]" greatest_limits
    (refusal_report TYPE 12) ∷
    case "[IF 1 [ECHO y] [ECHO z]]" greatest_limits
    (refusal_report TYPE 12) ∷
    case "[PROC p [x:int] [ECHO x]; ECHO p]" greatest_limits
    (refusal_report TYPE 31) ∷
    case "[CALL p y]" greatest_limits
    (refusal_report TYPE 8) ∷
    case "[CALL p 1]" greatest_limits
    (refusal_report TYPE 1) ∷
    -- ---- UNSET also says where the cell was made: at its VAR, behind var parameters too, or at its alloc
    case "[PROC p [var x:int] [ECHO x]; VAR u int; VAR v int; SET u 1; CALL p (adr u); CALL p (adr v)]" greatest_limits
    (ends (stopped (error (UNSET 41)) 26) 13 5 2 (pos 1 ∷ [])) ∷
    case "[PROC q [var y:int] [ECHO y]; PROC p [var x:int] [CALL q (adr x)]; VAR v int; CALL p (adr v)]" greatest_limits
    (ends (stopped (error (UNSET 67)) 26) 9 5 1 []) ∷
    case "[PROC p [n:int] [VAR a int; IF (lt n 1) [SET a 5; ECHO a] [ECHO a]]; CALL p 0; CALL p 1]" greatest_limits
    (ends (stopped (error (UNSET 17)) 64) 21 5 2 (pos 5 ∷ [])) ∷
    case "[VAR x int; CONST b (vec int) (alloc int 2); CONST c (vec int) (vset b 0 1); ECHO (nth c 0); ECHO (nth b 1)]" greatest_limits
    (ends (stopped (error (UNSET 30)) 98) 17 3 3 (pos 1 ∷ [])) ∷
    case "[FUN make (vec int) [n:int] (alloc int n); CONST b (vec int) (make 1); ECHO (nth b 0)]" greatest_limits
    (ends (stopped (error (UNSET 28)) 76) 11 3 1 []) ∷
    []

worked_computed : AllComputed worked
unfolding outcome verdict judged_text judged_tree read words_from parse add_leaf add_fork link set_sib retype descent past deep level bind need otherwise unless_returned within branch give give_cell meaning and_then judged only passes single same_type judge_type judge_after judge_expr judge_arg judge_args judge_cmds
worked_computed =
    (refl, (refl, (refl, (refl, (refl, (refl, (refl, (refl, (refl, (refl, (refl, (refl, (refl, (refl, (refl, (refl, (refl, (refl, (refl, (refl, (refl, (refl, (refl, (refl, (refl, (refl, (refl, (refl, (refl, (refl, (refl, (refl, (refl, (refl, (refl, (refl, (refl, (refl, (refl, (refl, (refl, (refl, (refl, (refl, (refl, (refl, (refl, (refl, (refl, (refl, (refl, (refl, (refl, (refl, (refl, (refl, (refl, (refl, tt))))))))))))))))))))))))))))))))))))))))))))))))))))))))))

pub worked_hold : AllHold worked
worked_hold = computed_holds worked worked_computed
