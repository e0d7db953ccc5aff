-- Worked examples of blocks of cells (request 5), from their texts, by computation.
use mathlib.Core.Path.{refl}
use mathlib.Core.List.{List, [], ◌∷◌}
use lib.IntN.{pos}
use Rattle.language.specs.Answers.{SYNTAX, LEVEL, TYPE, DOUBLE, FUEL, DEPTH, CELLS, ZERO, UNSET, SIZE, INDEX, limit, error, done, stopped}
use Rattle.language.specs.Names.{meaning}
use Rattle.language.specs.Words.{words_from}
use Rattle.language.specs.Limits.{greatest_limits}
use Rattle.language.specs.Rules.{bind, need, otherwise, unless_returned, within, branch, give, give_cell, level}
use Rattle.language.specs.Outcome.{refusal_report}
use Rattle.language.specs.Desk.{Case, AllHold, case, ends, limited}
use Rattle.language.proofs.Reading.Machine.{set_sib, link, add_leaf, add_fork, retype, parse}
use Rattle.language.proofs.Reading.Descent.{descent}
use Rattle.language.proofs.Reading.Reader.{past, deep, read}
use Rattle.language.proofs.Typing.Judge.{and_then, judged, only, passes, single, same_type, judge_type, judge_after, judge_expr, judge_arg, judge_args, judge_cmds}
use Rattle.language.proofs.Texts.Verdicts.{judged_tree, judged_text, verdict, outcome}
use Rattle.language.proofs.Texts.Tables.{AllComputed, computed_holds}

abbrev blocks : List Case
blocks =
    -- ---- a block is made, stored to, read and measured
    case "[CONST b (vec int) (alloc int 3); ECHO (len b); CONST c (vec int) (vset b 1 7); ECHO (nth c 1); ECHO (nth b 1)]" greatest_limits
    (ends done 19 2 3 (pos 3 ∷ pos 7 ∷ pos 7 ∷ [])) ∷
    case "[ECHO (nth (vset (vset (alloc int 2) 0 5) 1 6) 0)]" greatest_limits
    (ends done 11 0 2 (pos 5 ∷ [])) ∷
    case "[ECHO (if (nth (vset (alloc bool 1) 0 true) 0) 1 0)]" greatest_limits
    (ends done 10 0 1 (pos 1 ∷ [])) ∷
    case "[ECHO (len (alloc int 0))]" greatest_limits
    (ends done 4 0 0 (pos 0 ∷ [])) ∷
    -- ---- blocks are shared: through CONST, through parameters of functions and procedures, through a function's result
    case "[CONST a (vec int) (alloc int 1); CONST b (vec int) a; CONST c (vec int) (vset a 0 4); ECHO (nth b 0)]" greatest_limits
    (ends done 14 3 1 (pos 4 ∷ [])) ∷
    case "[FUN put (vec int) [b:(vec int), n:int] (vset b 0 n); CONST a (vec int) (alloc int 1); CONST c (vec int) (put a 9); ECHO (nth a 0)]" greatest_limits
    (ends done 17 5 1 (pos 9 ∷ [])) ∷
    case "[PROC p [b:(vec int)] [CONST c (vec int) (vset b 0 3); ECHO 1]; CONST a (vec int) (alloc int 1); CALL p a; ECHO (nth a 0)]" greatest_limits
    (ends done 17 4 1 (pos 1 ∷ pos 3 ∷ [])) ∷
    case "[FUN make (vec int) [n:int] (alloc int n); CONST a (vec int) (make 2); CONST b (vec int) (make 2); CONST c (vec int) (vset a 0 1); CONST d (vec int) (vset b 0 2); ECHO (nth a 0); ECHO (nth b 0)]" greatest_limits
    (ends done 31 7 4 (pos 1 ∷ pos 2 ∷ [])) ∷
    case "[FUN REC sum int [b:(vec int), i:int] (if (lt i 0) 0 (add (nth b i) (sum b (sub i 1)))); CONST a (vec int) (vset (vset (alloc int 2) 0 30) 1 12); ECHO (sum a 1)]" greatest_limits
    (ends done 48 11 2 (pos 42 ∷ [])) ∷
    -- ---- blocks of blocks
    case "[CONST m (vec (vec int)) (alloc (vec int) 2); CONST r (vec (vec int)) (vset m 1 (vset (alloc int 3) 2 8)); ECHO (nth (nth m 1) 2); ECHO (len (nth m 1))]" greatest_limits
    (ends done 23 2 5 (pos 8 ∷ pos 3 ∷ [])) ∷
    case "[CONST m (vec (vec int)) (alloc (vec int) 2); ECHO (len (nth m 0))]" greatest_limits
    (ends (stopped (error (UNSET 25)) 56) 8 1 2 []) ∷
    -- ---- SIZE, INDEX, UNSET and CELLS, at the alloc, nth or vset; a refused alloc takes no cell; SIZE comes before CELLS
    case "[ECHO (len (alloc int -1))]" greatest_limits
    (ends (stopped (error SIZE) 11) 4 0 0 []) ∷
    case "[ECHO (nth (alloc int 2) -1)]" greatest_limits
    (ends (stopped (error INDEX) 6) 5 0 2 []) ∷
    case "[ECHO (nth (alloc int 2) 2)]" greatest_limits
    (ends (stopped (error INDEX) 6) 5 0 2 []) ∷
    case "[ECHO (len (vset (alloc int 2) 2 0))]" greatest_limits
    (ends (stopped (error INDEX) 11) 7 0 2 []) ∷
    case "[ECHO (nth (alloc int 0) 0)]" greatest_limits
    (ends (stopped (error INDEX) 6) 5 0 0 []) ∷
    case "[ECHO (nth (alloc int 2) 1)]" greatest_limits
    (ends (stopped (error (UNSET 11)) 6) 5 0 2 []) ∷
    case "[VAR x int; ECHO (len (alloc int 4)); ECHO (len (alloc int 2))]" (limited 1000000 200 4096 6 4096)
    (ends (stopped (limit CELLS) 48) 9 1 5 (pos 4 ∷ [])) ∷
    case "[VAR x int; ECHO (len (alloc int 5)); ECHO (len (alloc int 0))]" (limited 1000000 200 4096 6 4096)
    (ends done 9 1 6 (pos 5 ∷ pos 0 ∷ [])) ∷
    case "[VAR x int; ECHO (len (alloc int 5)); VAR y int; ECHO 1]" (limited 1000000 200 4096 6 4096)
    (ends (stopped (limit CELLS) 38) 6 1 6 (pos 5 ∷ [])) ∷
    case "[ECHO (len (alloc int -1))]" (limited 1000000 200 4096 0 4096)
    (ends (stopped (error SIZE) 11) 4 0 0 []) ∷
    case "[ECHO (len (alloc int 2147483647))]" greatest_limits
    (ends (stopped (limit CELLS) 11) 4 0 0 []) ∷
    case "[ECHO (len (alloc int 4096))]" greatest_limits
    (ends done 4 0 4096 (pos 4096 ∷ [])) ∷
    -- ---- the parts left to right, their effects kept; the stops after them
    case "[FUN say int [b:(vec int), n:int] (nth (vset b 0 n) 0); CONST l (vec int) (alloc int 1); ECHO (nth (vset (alloc int 2) (say l 1) (add (nth l 0) 5)) (nth l 0))]" greatest_limits
    (ends done 27 4 3 (pos 6 ∷ [])) ∷
    case "[ECHO (nth (alloc int 1) (div 1 0))]" greatest_limits
    (ends (stopped (error ZERO) 25) 7 0 1 []) ∷
    case "[ECHO (len (vset (alloc int 1) 5 (div 1 0)))]" greatest_limits
    (ends (stopped (error ZERO) 33) 9 0 1 []) ∷
    case "[VAR x int; ECHO (len (vset (alloc int -1) x 1))]" greatest_limits
    (ends (stopped (error SIZE) 28) 6 1 1 []) ∷
    case "[VAR x int; ECHO (len (vset (alloc int 1) x 1))]" greatest_limits
    (ends (stopped (error (UNSET 1)) 42) 7 1 2 []) ∷
    case "[VAR x int; SET x (len (vset (alloc int 2) 0 1)); ECHO x]" greatest_limits
    (ends done 10 1 3 (pos 2 ∷ [])) ∷
    -- ---- FUEL and DEPTH: each of the four is an expression, its type is not entered
    case "[ECHO (len (alloc (vec int) 1))]" (limited 3 200 4096 4096 4096)
    (ends (stopped (limit FUEL) 28) 3 0 0 []) ∷
    case "[ECHO (len (alloc (vec int) 1))]" (limited 1000000 3 4096 4096 4096)
    (ends (stopped (limit DEPTH) 28) 4 0 0 []) ∷
    -- ---- types: each form's own rule
    case "[ECHO (alloc int 1)]" greatest_limits
    (refusal_report TYPE 1) ∷
    case "[ECHO (len 1)]" greatest_limits
    (refusal_report TYPE 6) ∷
    case "[ECHO (nth 1 1)]" greatest_limits
    (refusal_report TYPE 6) ∷
    case "[ECHO (nth (alloc int 1) true)]" greatest_limits
    (refusal_report TYPE 6) ∷
    case "[ECHO (len (vset (alloc int 1) 0 true))]" greatest_limits
    (refusal_report TYPE 11) ∷
    case "[ECHO (len (vset (alloc int 1) true 0))]" greatest_limits
    (refusal_report TYPE 11) ∷
    case "[ECHO (len (alloc int true))]" greatest_limits
    (refusal_report TYPE 11) ∷
    case "[ECHO ((alloc int 1) 0)]" greatest_limits
    (refusal_report TYPE 6) ∷
    case "[CONST b (vec bool) (alloc int 1); ECHO 1]" greatest_limits
    (refusal_report TYPE 1) ∷
    case "[ECHO (if true (alloc int 1) (alloc bool 1))]" greatest_limits
    (refusal_report TYPE 6) ∷
    case "[CONST b (vec int) (if true (alloc int 1) (alloc int 2)); ECHO (len b)]" greatest_limits
    (ends done 8 1 1 (pos 1 ∷ [])) ∷
    -- ---- VAR and var parameters stay bool or int
    case "[VAR b (vec int); ECHO 1]" greatest_limits
    (refusal_report TYPE 1) ∷
    case "[PROC p [var b:(vec int)] [ECHO y]; ECHO 1]" greatest_limits
    (refusal_report TYPE 13) ∷
    case "[CONST b (vec int) (alloc int 1); SET b (alloc int 2); ECHO 1]" greatest_limits
    (refusal_report TYPE 34) ∷
    -- ---- a vec is of bool, int or a vec: TYPE at the vec, or at the alloc, when they end
    case "[CONST b (vec (int -> int)) y; ECHO 1]" greatest_limits
    (refusal_report TYPE 9) ∷
    case "[CONST b (vec (vec (int -> int))) y; ECHO 1]" greatest_limits
    (refusal_report TYPE 14) ∷
    case "[CONST f ((vec (int -> int)) -> (vec (bool -> bool))) y; ECHO 1]" greatest_limits
    (refusal_report TYPE 10) ∷
    case "[CONST f (int -> (vec (bool -> bool))) y; ECHO 1]" greatest_limits
    (refusal_report TYPE 17) ∷
    case "[FUN f (vec (int -> int)) [not:int] y; ECHO 1]" greatest_limits
    (refusal_report TYPE 7) ∷
    case "[FUN f int [x:int, not:(vec (int -> int))] y; ECHO 1]" greatest_limits
    (refusal_report TYPE 23) ∷
    case "[FUN f int [not:int, x:(vec (int -> int))] y; ECHO 1]" greatest_limits
    (refusal_report TYPE 12) ∷
    case "[FUN f int [x:int, x:(vec (int -> int))] 1; ECHO 1]" greatest_limits
    (refusal_report TYPE 21) ∷
    case "[FUN f int [x:int, x:(vec int), y:(vec (int -> int))] 1; ECHO 1]" greatest_limits
    (refusal_report DOUBLE 19) ∷
    case "[PROC p [var x:(vec (int -> int))] [ECHO y]; ECHO 1]" greatest_limits
    (refusal_report TYPE 15) ∷
    case "[VAR add (vec (int -> int)); ECHO 1]" greatest_limits
    (refusal_report TYPE 9) ∷
    case "[ECHO (len (alloc (int -> int) 1))]" greatest_limits
    (refusal_report TYPE 11) ∷
    case "[ECHO (len (alloc (int -> int) y))]" greatest_limits
    (refusal_report TYPE 31) ∷
    case "[ECHO (len (alloc (vec (int -> int)) y))]" greatest_limits
    (refusal_report TYPE 18) ∷
    case "[CONST f ((vec int) -> int) [b:(vec int)] (len b); ECHO (f (alloc int 2))]" greatest_limits
    (ends done 9 2 2 (pos 2 ∷ [])) ∷
    -- ---- the five are key words; where a type or an expression must stand, each begins only its own form
    case "[CONST len int 1; ECHO len]" greatest_limits
    (refusal_report SYNTAX 7) ∷
    case "[ECHO (vec int)]" greatest_limits
    (refusal_report SYNTAX 7) ∷
    case "[VAR x (alloc int); ECHO 1]" greatest_limits
    (refusal_report SYNTAX 8) ∷
    case "[ECHO (alloc 1)]" greatest_limits
    (refusal_report SYNTAX 13) ∷
    case "[ECHO (nth (alloc int 1))]" greatest_limits
    (refusal_report SYNTAX 24) ∷
    case "[ECHO (len (alloc int 1) 1)]" greatest_limits
    (refusal_report SYNTAX 25) ∷
    case "[CONST b (vec int bool) 1; ECHO 1]" greatest_limits
    (refusal_report SYNTAX 18) ∷
    case "[ECHO nth]" greatest_limits
    (refusal_report SYNTAX 6) ∷
    -- ---- a vec opens a level
    case "[CONST b (vec (vec (vec (vec (vec (vec (vec (vec (vec (vec (vec (vec (vec (vec (vec (vec (vec (vec (vec (vec (vec (vec (vec (vec (vec (vec (vec (vec (vec (vec (vec (vec (vec (vec (vec (vec (vec (vec (vec (vec (vec (vec (vec (vec (vec (vec (vec (vec (vec (vec (vec (vec (vec (vec (vec (vec (vec (vec (vec (vec (vec (vec (vec int))))))))))))))))))))))))))))))))))))))))))))))))))))))))))))))) y; ECHO 1]" greatest_limits
    (refusal_report TYPE 391) ∷
    case "[CONST b (vec (vec (vec (vec (vec (vec (vec (vec (vec (vec (vec (vec (vec (vec (vec (vec (vec (vec (vec (vec (vec (vec (vec (vec (vec (vec (vec (vec (vec (vec (vec (vec (vec (vec (vec (vec (vec (vec (vec (vec (vec (vec (vec (vec (vec (vec (vec (vec (vec (vec (vec (vec (vec (vec (vec (vec (vec (vec (vec (vec (vec (vec (vec (vec int)))))))))))))))))))))))))))))))))))))))))))))))))))))))))))))))) y; ECHO 1]" greatest_limits
    (refusal_report LEVEL 324) ∷
    []

blocks_computed : AllComputed blocks
unfolding outcome verdict judged_text judged_tree read words_from parse add_leaf add_fork link set_sib retype descent past deep level bind need otherwise unless_returned within branch give give_cell meaning and_then judged only passes single same_type judge_type judge_after judge_expr judge_arg judge_args judge_cmds
blocks_computed =
    (refl, (refl, (refl, (refl, (refl, (refl, (refl, (refl, (refl, (refl, (refl, (refl, (refl, (refl, (refl, (refl, (refl, (refl, (refl, (refl, (refl, (refl, (refl, (refl, (refl, (refl, (refl, (refl, (refl, (refl, (refl, (refl, (refl, (refl, (refl, (refl, (refl, (refl, (refl, (refl, (refl, (refl, (refl, (refl, (refl, (refl, (refl, (refl, (refl, (refl, (refl, (refl, (refl, (refl, (refl, (refl, (refl, (refl, (refl, (refl, (refl, (refl, (refl, (refl, (refl, (refl, (refl, (refl, (refl, (refl, tt))))))))))))))))))))))))))))))))))))))))))))))))))))))))))))))))))))))

pub blocks_hold : AllHold blocks
blocks_hold = computed_holds blocks blocks_computed
