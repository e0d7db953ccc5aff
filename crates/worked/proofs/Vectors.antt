-- Scripts and what document 01 says of them, made by an independent implementation: they hold of the definitions, by computation.
use mathlib.Core.Path.{refl}
use mathlib.Core.List.{List, [], ◌∷◌}
use lib.IntN.{pos, negsuc}
use Rattle.language.specs.Answers.{BYTE, NUMBER, SYNTAX, LEVEL, TYPE, FUEL, DEPTH, BINDINGS, OUTPUT, RANGE, ZERO, UNSET, limit, error, done, stopped}
use Rattle.language.specs.Names.{meaning}
use Rattle.language.specs.Words.{words_from}
use Rattle.language.specs.Limits.{greatest_limits}
use Rattle.language.specs.Rules.{bind, need, unless_returned, within, branch, give, give_cell, level}
use Rattle.language.specs.Outcome.{refusal_report}
use Rattle.language.specs.Desk.{Case, AllHold, case, ends, limited}
use Rattle.language.proofs.Reading.Machine.{set_sib, link, add_leaf, add_fork, retype, parse}
use Rattle.language.proofs.Reading.Descent.{descent}
use Rattle.language.proofs.Reading.Reader.{past, deep, read}
use Rattle.language.proofs.Typing.Judge.{and_then, judged, only, passes, single, same_type, judge_type, judge_after, judge_expr, judge_arg, judge_args, judge_cmds}
use Rattle.language.proofs.Texts.Verdicts.{judged_tree, judged_text, verdict, outcome}
use Rattle.language.proofs.Texts.Tables.{AllComputed, computed_holds}

abbrev scripts : List Case
scripts =
    case "[ECHO 9223372036854775807]" (limited 100000 200 4096 4096 4096)
    (ends done 2 0 0 (pos 9223372036854775807 ∷ [])) ∷
    case "[ECHO 9223372036854775807]" (limited 40 200 4096 4096 4096)
    (ends done 2 0 0 (pos 9223372036854775807 ∷ [])) ∷
    case "[ECHO 9223372036854775807]" (limited 1000 7 4096 4096 4096)
    (ends done 2 0 0 (pos 9223372036854775807 ∷ [])) ∷
    case "[ECHO 9223372036854775807]" (limited 100000 200 3 4096 4096)
    (ends done 2 0 0 (pos 9223372036854775807 ∷ [])) ∷
    case "[ECHO 9223372036854775807]" (limited 100000 200 4096 1 4096)
    (ends done 2 0 0 (pos 9223372036854775807 ∷ [])) ∷
    case "[ECHO 9223372036854775807]" (limited 100000 200 4096 4096 2)
    (ends done 2 0 0 (pos 9223372036854775807 ∷ [])) ∷
    case "[ECHO (sub 1-2)]" (limited 100000 200 4096 4096 4096)
    (ends done 4 0 0 (pos 3 ∷ [])) ∷
    case "[ECHO ([x:int] (add x 1) 2)]" (limited 100000 200 4096 4096 4096)
    (ends done 7 1 0 (pos 3 ∷ [])) ∷
    case "[CONST f (int->int) [x:int] x; ECHO (f 3)]" (limited 100000 200 4096 4096 4096)
    (ends done 7 2 0 (pos 3 ∷ [])) ∷
    case "[ECHO (([x:int] [y:int] (add x y) 2) 3)]" (limited 100000 200 4096 4096 4096)
    (ends done 10 2 0 (pos 5 ∷ [])) ∷
    case "[VAR d1 int; SET d1 (div -7 -1); SET d1 d1]" (limited 100000 200 4096 4096 4096)
    (ends done 7 1 1 []) ∷
    case "[VAR x bool; SET x true; IF x [ECHO 1] [ECHO 0]]" (limited 100000 200 4096 4096 4096)
    (ends done 7 1 1 (pos 1 ∷ [])) ∷
    case "[VAR x int; IF (or true (eq x 1)) [ECHO 1] [ECHO 2]]" (limited 100000 200 4096 4096 4096)
    (ends done 6 1 1 (pos 1 ∷ [])) ∷
    case "[VAR x int; IF (and false (eq x 1)) [ECHO 1] [ECHO 2]]" (limited 100000 200 4096 4096 4096)
    (ends done 6 1 1 (pos 2 ∷ [])) ∷
    case "[_*" (limited 100000 200 4096 4096 4096)
    (refusal_report BYTE 1) ∷
    case "[ECHO -]" (limited 100000 200 4096 4096 4096)
    (refusal_report BYTE 6) ∷
    case "[ECHO 9223372036854775808]" (limited 100000 200 4096 4096 4096)
    (refusal_report NUMBER 6) ∷
    case "[ECHO -9223372036854775809]" (limited 100000 200 4096 4096 4096)
    (refusal_report NUMBER 6) ∷
    case "" (limited 100000 200 4096 4096 4096)
    (refusal_report SYNTAX 0) ∷
    case " " (limited 100000 200 4096 4096 4096)
    (refusal_report SYNTAX 1) ∷
    case "[ECHO (add 1)]" (limited 100000 200 4096 4096 4096)
    (refusal_report TYPE 6) ∷
    case "[ECHO (not true)]" (limited 100000 200 4096 4096 4096)
    (refusal_report TYPE 1) ∷
    case "[VAR lt int; ECHO 1]" (limited 100000 200 4096 4096 4096)
    (refusal_report TYPE 1) ∷
    case "[ECHO (if true 1 false)]" (limited 100000 200 4096 4096 4096)
    (refusal_report TYPE 6) ∷
    case "[FUN f int [true:int] 1; ECHO 1]" (limited 100000 200 4096 4096 4096)
    (refusal_report TYPE 12) ∷
    case "[PROC p [x:int] [ECHO x]; ECHO p]" (limited 100000 200 4096 4096 4096)
    (refusal_report TYPE 31) ∷
    case "[PROC p [x:int] [ECHO x]; CALL p p]" (limited 100000 200 4096 4096 4096)
    (refusal_report TYPE 33) ∷
    case "[FUN REC add int [x:int] (add x 1); ECHO 1]" (limited 100000 200 4096 4096 4096)
    (refusal_report TYPE 1) ∷
    case "[PROC p [var x:(int->int)] [ECHO 1]; ECHO 2]" (limited 100000 200 4096 4096 4096)
    (refusal_report TYPE 13) ∷
    case "[PROC REC p [var p:int] [CALL p (adr p)]; ECHO 1]" (limited 100000 200 4096 4096 4096)
    (refusal_report TYPE 32) ∷
    case "[ IF ([a:int, e2:int] false 3 65 mul 535) [ ECHO 65535; ECHO -1;\nECHO 0] [\nECHO -0;ECHO -1;\nCONST b (int * int -> int) [c4:int, g:int] 2; ECHO -0]; ECHO ([h6:(int -> int)] -7 [h:int] h)]" (limited 100000 200 4096 4096 4096)
    (refusal_report TYPE 33) ∷
    case "[ECHO 9223372036854775807]" (limited 0 0 0 0 0)
    (ends (stopped (limit FUEL) 1) 0 0 0 []) ∷
    case "[FUN REC f int [f:int] (f 1); ECHO (f 2)]" (limited 0 0 0 0 0)
    (ends (stopped (limit FUEL) 1) 0 0 0 []) ∷
    case "[FUN REC f int [f:int] (f 1); ECHO (f 2)]" (limited 1000 7 4096 4096 4096)
    (ends (stopped (limit DEPTH) 24) 19 11 0 []) ∷
    case "[FUN REC f int [n:int] (f (add n 1)); ECHO (f 0)]" (limited 1000 7 4096 4096 4096)
    (ends (stopped (limit DEPTH) 31) 24 9 0 []) ∷
    case "[FUN REC f int [f:int] (f 1); ECHO (f 2)]" (limited 100000 200 3 4096 4096)
    (ends (stopped (limit BINDINGS) 23) 8 3 0 []) ∷
    case "[FUN REC f int [n:int] (f (add n 1)); ECHO (f 0)]" (limited 100000 200 3 4096 4096)
    (ends (stopped (limit BINDINGS) 23) 10 3 0 []) ∷
    case "[ECHO ([f1:int] 0 0);\nECHO ([a2:int] a2 -2147483648); ECHO (if true 0 100)]" (limited 100000 200 4096 4096 2)
    (ends (stopped (limit OUTPUT) 54) 14 2 0 (pos 0 ∷ negsuc 2147483647 ∷ [])) ∷
    case "[IF (if true true true) [ ECHO 32768; ECHO 32768;\nECHO 32768;\nECHO 2] [ ECHO 24;ECHO -2147483648; ECHO -7];\nECHO ([c:int] c -2147483648)]" (limited 100000 200 4096 4096 2)
    (ends (stopped (limit OUTPUT) 50) 10 0 0 (pos 32768 ∷ pos 32768 ∷ [])) ∷
    case "[\nECHO (add 9223372036854775807 1);ECHO ([b1:bool, g:int] g false 100)]" (limited 100000 200 4096 4096 4096)
    (ends (stopped (error RANGE) 7) 4 0 0 []) ∷
    case "[ ECHO (if (lt 65535 2147483647) (sub 2 -9223372036854775808) ([b1:(int -> bool)] -2147483648 [f:int] true));\nECHO (([f3:int] [d4:bool] f3 -0) (if false false false))]" (limited 100000 200 4096 4096 4096)
    (ends (stopped (error RANGE) 33) 8 0 0 []) ∷
    case "[ ECHO (div (sub 10 2) (mul 0 2));ECHO (add (mul 2147483647 100) ([a1:bool] 2 true))]" (limited 100000 200 4096 4096 4096)
    (ends (stopped (error ZERO) 7) 8 0 0 []) ∷
    case "[ECHO (div 0 -0);PROC REC h1 [f2:bool] [\nCALL h1 f2];\nPROC e3 [var f4:int, var a5:bool] [ ECHO 007]; ECHO ([a6:(bool -> bool)] -0 [g7:bool] false);CONST d8 bool (not true); ECHO (sub -1 65536); ECHO (add 32768 10)]" (limited 100000 200 4096 4096 4096)
    (ends (stopped (error ZERO) 6) 4 0 0 []) ∷
    case "[ VAR e1 bool;CONST b2 bool (eq -0 3);IF ([f3:bool, b:(int -> bool)] e1 e1 [d5:int] e1) [VAR f int; SET f 0;ECHO f] [\nSET e1 b2]]" (limited 100000 200 4096 4096 4096)
    (ends (stopped (error (UNSET 2)) 72) 9 2 1 []) ∷
    case "[ VAR e1 bool;CONST b2 bool (eq -0 3);IF ([f3:bool, b:(int -> bool)] e1 e1 [d5:int] e1) [VAR f int; SET f 0;ECHO f] [\nSET e1 b2]]" (limited 40 200 4096 4096 4096)
    (ends (stopped (error (UNSET 2)) 72) 9 2 1 []) ∷
    case "[ PROC h1 [c2:int, var g:int, var h4:bool] [ ECHO g]; VAR e5 int; FUN REC e (int * int -> bool) [b:(int * bool -> int), e8:int] (if (lt e8 1) [b11:int, c12:int] true (e [a9:int, g:bool] a9 (sub e8 1)));ECHO e5; WHILE (lt e5 3) [\nSET e5 e5; VAR h int; SET h e5;\nECHO h; SET e5 (add e5 1)]]" (limited 100000 200 4096 4096 4096)
    (ends (stopped (error (UNSET 54)) 207) 5 3 1 []) ∷
    case "[ECHO (add 1 (add 1 (add 1 (add 1 (add 1 (add 1 (add 1 (add 1 (add 1 (add 1 (add 1 (add 1 (add 1 (add 1 (add 1 (add 1 (add 1 (add 1 (add 1 (add 1 (add 1 (add 1 (add 1 (add 1 (add 1 (add 1 (add 1 (add 1 (add 1 (add 1 (add 1 (add 1 (add 1 (add 1 (add 1 (add 1 (add 1 (add 1 (add 1 (add 1 (add 1 (add 1 (add 1 (add 1 (add 1 (add 1 (add 1 (add 1 (add 1 (add 1 (add 1 (add 1 (add 1 (add 1 (add 1 (add 1 (add 1 (add 1 (add 1 (add 1 (add 1 (add 1 (add 1 (add 1 1))))))))))))))))))))))))))))))))))))))))))))))))))))))))))))))))]" greatest_limits
    (refusal_report LEVEL 447) ∷
    case "[CONST f (int -> (int -> (int -> (int -> (int -> (int -> (int -> (int -> (int -> (int -> (int -> (int -> (int -> (int -> (int -> (int -> (int -> (int -> (int -> (int -> (int -> (int -> (int -> (int -> (int -> (int -> (int -> (int -> (int -> (int -> (int -> (int -> (int -> (int -> (int -> (int -> (int -> (int -> (int -> (int -> (int -> (int -> (int -> (int -> (int -> (int -> (int -> (int -> (int -> (int -> (int -> (int -> (int -> (int -> (int -> (int -> (int -> (int -> (int -> (int -> (int -> (int -> (int -> (int -> int)))))))))))))))))))))))))))))))))))))))))))))))))))))))))))))))) 1; ECHO 1]" greatest_limits
    (refusal_report LEVEL 513) ∷
    case "[ECHO [x:int] [x:int] [x:int] [x:int] [x:int] [x:int] [x:int] [x:int] [x:int] [x:int] [x:int] [x:int] [x:int] [x:int] [x:int] [x:int] [x:int] [x:int] [x:int] [x:int] [x:int] [x:int] [x:int] [x:int] [x:int] [x:int] [x:int] [x:int] [x:int] [x:int] [x:int] [x:int] [x:int] [x:int] [x:int] [x:int] [x:int] [x:int] [x:int] [x:int] [x:int] [x:int] [x:int] [x:int] [x:int] [x:int] [x:int] [x:int] [x:int] [x:int] [x:int] [x:int] [x:int] [x:int] [x:int] [x:int] [x:int] [x:int] [x:int] [x:int] [x:int] [x:int] [x:int] [x:int] 1]" greatest_limits
    (refusal_report LEVEL 510) ∷
    case "[ECHO (add 1 (add 1 (add 1 (add 1 (add 1 (add 1 (add 1 (add 1 (add 1 (add 1 (add 1 (add 1 (add 1 (add 1 (add 1 (add 1 (add 1 (add 1 (add 1 (add 1 (add 1 (add 1 (add 1 (add 1 (add 1 (add 1 (add 1 (add 1 (add 1 (add 1 (add 1 (add 1 (add 1 (add 1 (add 1 (add 1 (add 1 (add 1 (add 1 (add 1 (add 1 (add 1 (add 1 (add 1 (add 1 (add 1 (add 1 (add 1 (add 1 (add 1 (add 1 (add 1 (add 1 (add 1 (add 1 (add 1 (add 1 (add 1 (add 1 (add 1 (add 1 (add 1 (add 1 (add 1 (add 1 1)))))))))))))))))))))))))))))))))))))))))))))))))))))))))))))))))]" greatest_limits
    (refusal_report LEVEL 447) ∷
    []

scripts_computed : AllComputed scripts
unfolding outcome verdict judged_text judged_tree read words_from parse add_leaf add_fork link set_sib retype descent past deep level bind need unless_returned within branch give give_cell meaning and_then judged only passes single same_type judge_type judge_after judge_expr judge_arg judge_args judge_cmds
scripts_computed =
    (refl, (refl, (refl, (refl, (refl, (refl, (refl, (refl, (refl, (refl, (refl, (refl, (refl, (refl, (refl, (refl, (refl, (refl, (refl, (refl, (refl, (refl, (refl, (refl, (refl, (refl, (refl, (refl, (refl, (refl, (refl, (refl, (refl, (refl, (refl, (refl, (refl, (refl, (refl, (refl, (refl, (refl, (refl, (refl, (refl, (refl, (refl, (refl, (refl, (refl, tt))))))))))))))))))))))))))))))))))))))))))))))))))

pub scripts_hold : AllHold scripts
scripts_hold = computed_holds scripts scripts_computed
