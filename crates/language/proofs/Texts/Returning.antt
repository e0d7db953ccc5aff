-- Worked examples of RETURN and of functions whose body is a block, from their texts, by computation.
use mathlib.Core.Path.{refl}
use mathlib.Core.List.{List, [], ◌∷◌}
use lib.IntN.{pos, negsuc}
use Rattle.language.specs.Answers.{SYNTAX, TYPE, DOUBLE, FUEL, DEPTH, BINDINGS, UNSET, limit, error, done, stopped}
use Rattle.language.specs.Names.{meaning}
use Rattle.language.specs.Words.{words_from}
use Rattle.language.specs.Limits.{greatest_limits}
use Rattle.language.specs.Rules.{bind, need, otherwise, unless_returned, within, branch, give, give_cell, level}
use Rattle.language.specs.Outcome.{refusal_report}
use Rattle.language.specs.Desk.{Case, AllHold, case, ends, limited}
use Rattle.language.proofs.Reading.Machine.{set_sib, link, add_leaf, add_fork, retype, set_block, blocked, parse}
use Rattle.language.proofs.Reading.Descent.{descent}
use Rattle.language.proofs.Reading.Reader.{past, deep, read}
use Rattle.language.proofs.Typing.Judge.{and_then, judged, only, passes, single, same_type, judge_type, judge_after, judge_expr, judge_arg, judge_args, judge_cmds}
use Rattle.language.proofs.Texts.Verdicts.{judged_tree, judged_text, verdict, outcome}
use Rattle.language.proofs.Texts.Tables.{AllComputed, computed_holds}

abbrev returning : List Case
returning =
    -- ---- a RETURN costs a unit and ends its function
    case "[FUN f int [x:int] [RETURN x]; ECHO (f 3)]" greatest_limits
    (ends done 7 2 0 (pos 3 ∷ [])) ∷
    case "[FUN f int [x:int] [IF (lt x 0) [RETURN (sub 0 x)] [RETURN x]]; ECHO (f -5); ECHO (f 7)]" greatest_limits
    (ends done 23 3 0 (pos 5 ∷ pos 7 ∷ [])) ∷
    -- ---- what follows a RETURN is passed over: in an IF, in a WHILE, in an IF in a WHILE (004's example)
    case "[FUN f int [x:int] [IF (lt x 0) [RETURN 0] [ECHO x]; RETURN x]; ECHO (f 4); ECHO (f -4)]" greatest_limits
    (ends done 23 3 0 (pos 4 ∷ pos 4 ∷ pos 0 ∷ [])) ∷
    case "[FUN f int [x:int] [WHILE (lt x 9) [RETURN 1]; RETURN 2]; ECHO (f 4); ECHO (f 9)]" greatest_limits
    (ends done 21 3 0 (pos 1 ∷ pos 2 ∷ [])) ∷
    case "[FUN f bool [a:int, b:int] [VAR x int; SET x a; WHILE (lt x b) [IF (eq (mul x x) 9) [RETURN true] [SET x (add x 1)]]; RETURN false]; ECHO (if (f 2 5) 1 0); ECHO (if (f 4 6) 1 0)]" greatest_limits
    (ends done 81 7 2 (pos 1 ∷ pos 0 ∷ [])) ∷
    -- ---- a may before a may before an always
    case "[FUN f int [x:int] [IF (lt x 0) [RETURN 0] [ECHO x]; IF (lt x 5) [ECHO 5] [RETURN 1]; RETURN 2]; ECHO (f -1); ECHO (f 7); ECHO (f 3)]" greatest_limits
    (ends done 45 4 0 (pos 0 ∷ pos 7 ∷ pos 1 ∷ pos 3 ∷ pos 5 ∷ pos 2 ∷ [])) ∷
    -- ---- recursion
    case "[FUN REC f int [n:int] [IF (lt n 1) [RETURN 0] [RETURN (add n (f (sub n 1)))]]; ECHO (f 3)]" greatest_limits
    (ends done 47 9 0 (pos 6 ∷ [])) ∷
    case "[FUN REC f int [f:int] [IF true [RETURN 4] [RETURN (f 0)]]; ECHO (f 1)]" greatest_limits
    (ends done 9 3 0 (pos 4 ∷ [])) ∷
    -- ---- functions of either kind are values of one type
    case "[FUN inc int [n:int] [RETURN (add n 1)]; FUN twice int [g:(int -> int), n:int] (g (g n)); ECHO (twice inc 5)]" greatest_limits
    (ends done 20 6 0 (pos 7 ∷ [])) ∷
    case "[FUN inc int [n:int] (add n 1); FUN twice int [g:(int -> int), n:int] [RETURN (g (g n))]; ECHO (twice inc 5)]" greatest_limits
    (ends done 19 6 0 (pos 7 ∷ [])) ∷
    case "[FUN f (int -> int) [a:int] [RETURN [b:int] (sub a b)]; ECHO ((f 3) 4)]" greatest_limits
    (ends done 12 3 0 (negsuc 0 ∷ [])) ∷
    -- ---- an abstraction may still be a function's body
    case "[FUN f (int -> int) [a:int] [b:int] (sub a b); ECHO ((f 3) 4)]" greatest_limits
    (ends done 11 3 0 (negsuc 0 ∷ [])) ∷
    -- ---- effects in the order of evaluation; the names of the definition
    case "[VAR c int; SET c 0; FUN next int [d:int] [SET c (add c d); RETURN c]; VAR c int; ECHO (sub (next 1) (next 10))]" greatest_limits
    (ends done 25 5 2 (negsuc 9 ∷ [])) ∷
    -- ---- a procedure's end is not its caller's
    case "[PROC p [x:int] [ECHO x]; FUN f int [x:int] [CALL p x; RETURN (add x 1)]; ECHO (f 1)]" greatest_limits
    (ends done 14 4 0 (pos 1 ∷ pos 2 ∷ [])) ∷
    -- ---- a function in a function
    case "[FUN f int [x:int] [FUN g int [y:int] [RETURN (add x y)]; RETURN (g 2)]; ECHO (f 1)]" greatest_limits
    (ends done 14 4 0 (pos 3 ∷ [])) ∷
    -- ---- limits
    case "[FUN f int [x:int] [RETURN x]; ECHO (f 3)]" (limited 5 200 4096 4096 4096)
    (ends (stopped (limit FUEL) 20) 5 2 0 []) ∷
    case "[FUN f int [x:int] [RETURN x]; ECHO (f 3)]" (limited 1000000 3 4096 4096 4096)
    (ends (stopped (limit DEPTH) 27) 7 2 0 []) ∷
    case "[FUN f int [x:int] [RETURN x]; ECHO (f 3)]" (limited 1000000 200 1 4096 4096)
    (ends (stopped (limit BINDINGS) 36) 5 1 0 []) ∷
    case "[FUN f int [x:int] [VAR v int; RETURN v]; ECHO (f 3)]" greatest_limits
    (ends (stopped (error (UNSET 20)) 38) 8 3 1 []) ∷
    -- ---- a program and a procedure never return: at the program's block, at the PROC
    case " [RETURN 1]" greatest_limits
    (refusal_report TYPE 1) ∷
    case "[WHILE true [RETURN 1]]" greatest_limits
    (refusal_report TYPE 0) ∷
    case "[ECHO 1; PROC p [x:int] [RETURN x]; CALL p 1]" greatest_limits
    (refusal_report TYPE 9) ∷
    case "[PROC REC p [x:int] [WHILE (lt x 0) [RETURN x]]; CALL p 1]" greatest_limits
    (refusal_report TYPE 1) ∷
    -- ---- a function's body always returns its type: at the FUN
    case "[FUN f int [x:int] [ECHO x]; ECHO 1]" greatest_limits
    (refusal_report TYPE 1) ∷
    case "[FUN f int [x:int] [RETURN true]; ECHO 1]" greatest_limits
    (refusal_report TYPE 1) ∷
    case "[FUN f int [x:int] [IF (lt x 0) [RETURN 0] [ECHO x]]; ECHO 1]" greatest_limits
    (refusal_report TYPE 1) ∷
    case "[FUN f int [x:int] [WHILE true [RETURN 0]]; ECHO 1]" greatest_limits
    (refusal_report TYPE 1) ∷
    case "[FUN REC f int [x:int] [RETURN f]; ECHO 1]" greatest_limits
    (refusal_report TYPE 1) ∷
    case "[FUN add int [x:int] [RETURN x]; ECHO 1]" greatest_limits
    (refusal_report TYPE 1) ∷
    -- ---- branches that return two types: at the IF
    case "[FUN f int [x:int] [IF (lt x 0) [RETURN 0] [RETURN true]]; ECHO 1]" greatest_limits
    (refusal_report TYPE 20) ∷
    case "[FUN f int [x:int] [IF (lt x 0) [RETURN 0] [WHILE true [RETURN true]]]; ECHO 1]" greatest_limits
    (refusal_report TYPE 20) ∷
    -- ---- what always returns stands last: at the statement, which ends before what follows it
    case "[FUN f int [x:int] [IF (lt x 0) [RETURN 0] [RETURN 1]; ECHO y]; ECHO 1]" greatest_limits
    (refusal_report TYPE 20) ∷
    -- ---- what follows a may: at the enclosing block, which ends after what follows
    case "[FUN f int [x:int] [WHILE (lt x 0) [RETURN 0]; ECHO x]; ECHO 1]" greatest_limits
    (refusal_report TYPE 19) ∷
    case "[FUN f int [x:int] [WHILE (lt x 0) [RETURN 0]; RETURN true]; ECHO 1]" greatest_limits
    (refusal_report TYPE 19) ∷
    case "[FUN f int [x:int] [WHILE (lt x 0) [RETURN 0]; WHILE true [RETURN true]; RETURN 1]; ECHO 1]" greatest_limits
    (refusal_report TYPE 19) ∷
    case "[FUN f int [x:int] [WHILE (lt x 0) [RETURN 0]; ECHO y]; ECHO 1]" greatest_limits
    (refusal_report TYPE 52) ∷
    case "[FUN f int [x:int] [IF true [WHILE (lt x 0) [RETURN 0]; ECHO x] [ECHO y]; RETURN 1]; ECHO 1]" greatest_limits
    (refusal_report TYPE 28) ∷
    -- ---- a function is not called
    case "[FUN f int [x:int] [RETURN x]; CALL f 1]" greatest_limits
    (refusal_report TYPE 31) ∷
    -- ---- the expression is judged at itself
    case "[FUN f int [x:int] [RETURN y]; ECHO 1]" greatest_limits
    (refusal_report TYPE 27) ∷
    -- ---- nothing may follow a RETURN; one word behind the bracket tells a block from an abstraction
    case "[FUN f int [x:int] [RETURN x; ECHO x]; ECHO 1]" greatest_limits
    (refusal_report SYNTAX 28) ∷
    case "[FUN f int [x:int] []; ECHO 1]" greatest_limits
    (refusal_report SYNTAX 20) ∷
    case "[FUN f int [x:int] [x]; ECHO 1]" greatest_limits
    (refusal_report SYNTAX 21) ∷
    case "[FUN f int [x:int] [ECHO x] x; ECHO 1]" greatest_limits
    (refusal_report SYNTAX 28) ∷
    case "[FUN f int [var x:int] [RETURN x]; ECHO 1]" greatest_limits
    (refusal_report SYNTAX 12) ∷
    case "[ECHO RETURN]" greatest_limits
    (refusal_report SYNTAX 6) ∷
    -- ---- with a written vec, blocks of cells and doubled parameters
    case "[FUN f int [x:int, x:int] [RETURN x]; ECHO (f 1 2)]" greatest_limits
    (refusal_report DOUBLE 19) ∷
    case "[FUN REC f (vec (int -> int)) [x:int, x:int] [RETURN y]; ECHO 1]" greatest_limits
    (refusal_report TYPE 11) ∷
    case "[FUN make (vec int) [n:int] [CONST b (vec int) (alloc int n); IF (lt 0 n) [RETURN (vset b 0 7)] [RETURN b]]; ECHO (nth (make 2) 0); ECHO (len (make 0))]" greatest_limits
    (ends done 33 5 2 (pos 7 ∷ pos 0 ∷ [])) ∷
    case "[FUN get int [b:(vec int)] [RETURN (nth b 0)]; ECHO (get (alloc int 1))]" greatest_limits
    (ends (stopped (error (UNSET 57)) 35) 10 2 1 []) ∷
    []

returning_computed : AllComputed returning
unfolding outcome verdict judged_text judged_tree read words_from parse add_leaf add_fork link set_sib retype set_block blocked descent past deep level bind need otherwise unless_returned within branch give give_cell meaning and_then judged only passes single same_type judge_type judge_after judge_expr judge_arg judge_args judge_cmds
returning_computed =
    (refl, (refl, (refl, (refl, (refl, (refl, (refl, (refl, (refl, (refl, (refl, (refl, (refl, (refl, (refl, (refl, (refl, (refl, (refl, (refl, (refl, (refl, (refl, (refl, (refl, (refl, (refl, (refl, (refl, (refl, (refl, (refl, (refl, (refl, (refl, (refl, (refl, (refl, (refl, (refl, (refl, (refl, (refl, (refl, (refl, (refl, (refl, (refl, (refl, tt)))))))))))))))))))))))))))))))))))))))))))))))))

pub returning_hold : AllHold returning
returning_hold = computed_holds returning returning_computed
