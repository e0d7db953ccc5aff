-- Scripts run by the evaluator over tables, by computation: what document 01's desk expects.
use Prim.Native.Nat.{ℕ, ◌*◌}
use Prim.Native.String.{String}
use mathlib.Core.Path.{◌≡◌, refl}
use mathlib.Core.List.{List, [], ◌∷◌}
use mathlib.Core.Option.{none}
use lib.IntN.{pos, negsuc}
use lib.ListN.{replicate}
use Rattle.language.specs.Bytes.{bytes_of}
use Rattle.language.specs.Syntax.{Block}
use Rattle.language.specs.Answers.{DEPTH, CELLS, BINDINGS, RANGE, UNSET, SIZE, INDEX, limit, error, done, stopped, Result, fine, refuse}
use Rattle.language.specs.Names.{meaning}
use Rattle.language.specs.Limits.{Limits}
use Rattle.language.specs.Outcome.{Report}
use Rattle.language.specs.Desk.{Case, case, ends, limited}
use Rattle.language.specs.Words.{words_from}
use Rattle.language.specs.Table.{table, enc, size, first, shape_type, shape_types, shape_arg, shape_args, shape_arg_p, shape_args_p, shape_expr, shape_exprs, shape_expr_p, shape_exprs_p, shape_cmds, shape_def, shape_stat, shape_block}
use Rattle.language.proofs.Reading.Machine.{set_sib, link, add_leaf, add_fork, retype, set_block, blocked, parse}
use Rattle.language.proofs.Reading.Descent.{descent}
use Rattle.language.proofs.Reading.Reader.{past, deep, read}
use Rattle.nodes.specs.Nodes.{node_at}
use Rattle.nodes.specs.Written.{number_at}
use Rattle.machine.specs.Entries.{pick, row_after, row_at, put_row, cell_at, put_cell, put_cells, binding_at, put_binding, closure_word, node_of, env_of}
use Rattle.machine.specs.State.{and_then, guard}
use Rattle.machine.specs.Codes.{code_over, level_among, operator_at, code_for, after, own_of, entry, row_codes, codes_of}
use Rattle.machine.specs.Leaves.{code_in, jump_at, jump_from, binding_behind, walk, bound_to, address_of, cell_value, read_through, name_value, computed_by, negated, combined, element_of, element_value, length_value, set_element, is_param, is_type, behind_type, body_after, bind_all_at, enter, enter_again, open_function_at, open_procedure_at, define, define_cell, allocate}
use Rattle.machine.specs.Machine.{on_bit, args, all_args, if_e, and_e, or_e, operator_e, body_e, call_e, apply_e, alloc_e, nth_e, len_e, vset_e, expr_by, const_c, echo_c, set_c, return_c, block_c, if_c, call_c, round, rounds, cmd_by, cmd_in, cmds, step, bottom, evaluators, block_at}
use Rattle.machine.specs.Shown.{fresh, program, shown}

abbrev tree_of : Result Block → List ℕ
tree_of (fine b) = table b
tree_of (refuse r p) = []

abbrev codes_of_script : (tree text : List ℕ) → List ℕ
codes_of_script tree text = codes_of (record { tree = tree; text = text })

abbrev run_text : String → Limits → Report
run_text s L =
    shown L.fuel (program (tree_of (read (bytes_of s))) (codes_of_script (tree_of (read (bytes_of s))) (bytes_of s)) L
    (fresh L.fuel (replicate (2 * L.bindings) 7) (replicate (2 * L.cells) 7) (replicate L.output (pos 7)) (replicate 40 7)))

-- each case's run is what is expected of it
abbrev AllShown : List Case → Type 0
AllShown [] = Unit {0}
AllShown (c ∷ cs) = (run_text c.script c.limits ≡ c.says) × AllShown cs

abbrev scripts : List Case
scripts =
    case "[PROC p [var x:int] [SET x (add x 1)]; VAR v int; SET v 41; CALL p (adr v); ECHO v]" (limited 100 20 4 4 4) (ends done 12 3 1 (pos 42 ∷ [])) ∷
    case "[FUN REC f int [n:int] (if (lt n 1) 0 (add n (f (sub n 1)))); ECHO (f 3)]" (limited 100 20 9 0 1) (ends done 43 9 0 (pos 6 ∷ [])) ∷
    case "[FUN REC f int [n:int] (if (lt n 1) 0 (add n (f (sub n 1)))); ECHO (f 3)]" (limited 100 20 8 0 1) (ends (stopped (limit BINDINGS) 45) 38 7 0 []) ∷
    case "[FUN REC f int [n:int] (if (lt n 1) 0 (add n (f (sub n 1)))); ECHO (f 3)]" (limited 100 9 9 0 1) (ends (stopped (limit DEPTH) 53) 26 5 0 []) ∷
    case "[VAR x int; SET x 0; WHILE (lt x 3) [ECHO x; SET x (add x 1)]]" (limited 100 20 4 4 4) (ends done 37 1 1 (pos 0 ∷ pos 1 ∷ pos 2 ∷ [])) ∷
    case "[CONST x int 1; FUN f int [y:int] x; CONST x int 2; ECHO (f 0)]" (limited 100 20 4 0 1) (ends done 10 4 0 (pos 1 ∷ [])) ∷
    case "[CONST a int 1; CONST b int 2; FUN REC f int [x:int, a:int] (if (lt x 1) (add a b) (f (sub x 1) (add a x))); CONST a int 7; ECHO (f 2 a); ECHO a]" (limited 100 20 20 0 2) (ends done 45 13 0 (pos 12 ∷ pos 7 ∷ [])) ∷
    case "[VAR x bool; ECHO (if (and false x) 1 (div -7 2))]" (limited 100 20 4 1 1) (ends done 8 1 1 (negsuc 3 ∷ [])) ∷
    case "[ECHO (mul 3037000499 3037000499); ECHO (sub -9223372036854775807 1); ECHO (div (sub -9223372036854775807 1) -1)]" (limited 100 20 4 1 4)
    (ends (stopped (error RANGE) 75) 14 0 0 (pos 9223372030926249001 ∷ negsuc 9223372036854775807 ∷ [])) ∷
    case "[CONST m (vec (vec int)) (alloc (vec int) 2); CONST r (vec (vec int)) (vset m 1 (vset (alloc int 3) 2 8)); ECHO (nth (nth m 1) 2); ECHO (len (nth m 1))]"
    (limited 100 20 4 5 4) (ends done 23 2 5 (pos 8 ∷ pos 3 ∷ [])) ∷
    case "[FUN REC sum int [b:(vec int), i:int] (if (lt i 0) 0 (add (nth b i) (sum b (sub i 1)))); CONST a (vec int) (vset (vset (alloc int 2) 0 30) 1 12); ECHO (sum a 1)]"
    (limited 100 20 11 2 4) (ends done 48 11 2 (pos 42 ∷ [])) ∷
    case "[VAR x int; ECHO (len (alloc int 4)); ECHO (len (alloc int 2))]" (limited 100 20 4 6 4) (ends (stopped (limit CELLS) 48) 9 1 5 (pos 4 ∷ [])) ∷
    case "[ECHO (len (alloc int -1))]" (limited 100 20 4 0 4) (ends (stopped (error SIZE) 11) 4 0 0 []) ∷
    case "[ECHO (nth (alloc int 2) -1)]" (limited 100 20 4 6 4) (ends (stopped (error INDEX) 6) 5 0 2 []) ∷
    case "[ECHO (len (vset (alloc int 2) 2 0))]" (limited 100 20 4 6 4) (ends (stopped (error INDEX) 11) 7 0 2 []) ∷
    case "[ECHO (nth (alloc int 2) 1)]" (limited 100 20 4 6 4) (ends (stopped (error (UNSET 11)) 6) 5 0 2 []) ∷
    case "[PROC p [var x:int] [ECHO x]; VAR v int; CALL p (adr v)]" (limited 100 20 4 6 4) (ends (stopped (error (UNSET 30)) 26) 6 3 1 []) ∷
    case "[FUN f int [x:int] [IF (lt x 0) [RETURN 0] [ECHO x]; RETURN x]; ECHO (f 4); ECHO (f -4)]" (limited 100 20 4 0 4)
    (ends done 23 3 0 (pos 4 ∷ pos 4 ∷ pos 0 ∷ [])) ∷
    case "[FUN f bool [a:int, b:int] [VAR x int; SET x a; WHILE (lt x b) [IF (eq (mul x x) 9) [RETURN true] [SET x (add x 1)]]; RETURN false]; ECHO (if (f 2 5) 1 0); ECHO (if (f 4 6) 1 0)]"
    (limited 100 20 7 2 4) (ends done 81 7 2 (pos 1 ∷ pos 0 ∷ [])) ∷
    case "[FUN REC f int [n:int] [IF (lt n 1) [RETURN 0] [RETURN (add n (f (sub n 1)))]]; ECHO (f 3)]" (limited 100 20 9 0 1) (ends done 47 9 0 (pos 6 ∷ [])) ∷
    case "[FUN REC f int [f:int] [IF true [RETURN 4] [RETURN (f 0)]]; ECHO (f 1)]" (limited 100 20 4 0 1) (ends done 9 3 0 (pos 4 ∷ [])) ∷
    case "[FUN f (int -> int) [a:int] [RETURN [b:int] (sub a b)]; ECHO ((f 3) 4)]" (limited 100 20 4 0 1) (ends done 12 3 0 (negsuc 0 ∷ [])) ∷
    case "[PROC REC p [x:int] [IF (lt x 1) [ECHO x] [CALL p (sub x 1)]]; CALL p 2]" (limited 100 20 7 0 1) (ends done 25 7 0 (pos 0 ∷ [])) ∷
    case "[FUN f int [x:int] [VAR v int; RETURN v]; ECHO (f 3)]" (limited 100 20 4 1 1) (ends (stopped (error (UNSET 20)) 38) 8 3 1 []) ∷
    case "[RETURN 1]" (limited 100 20 4 1 1) (record { end = none; units = 2; bindings = 0; cells = 0; numbers = [] }) ∷
    []

scripts_shown : AllShown scripts
unfolding read words_from parse add_leaf add_fork link set_sib retype set_block blocked descent past deep table enc size first shape_type shape_types shape_arg shape_args shape_arg_p shape_args_p shape_expr shape_exprs shape_expr_p shape_exprs_p shape_cmds shape_def shape_stat shape_block meaning node_at number_at pick row_after row_at put_row cell_at put_cell put_cells binding_at put_binding closure_word node_of env_of and_then guard code_over level_among operator_at code_for after own_of entry row_codes codes_of code_in jump_at jump_from binding_behind walk bound_to address_of cell_value read_through name_value computed_by negated combined element_of element_value length_value set_element is_param is_type behind_type body_after bind_all_at enter enter_again open_function_at open_procedure_at define define_cell allocate on_bit args all_args if_e and_e or_e operator_e body_e call_e apply_e alloc_e nth_e len_e vset_e expr_by const_c echo_c set_c return_c block_c if_c call_c round rounds cmd_by cmd_in cmds step bottom evaluators block_at program
scripts_shown = (refl, (refl, (refl, (refl, (refl, (refl, (refl, (refl, (refl, (refl, (refl, (refl, (refl, (refl, (refl, (refl, (refl, (refl, (refl, (refl, (refl, (refl, (refl, (refl, (refl, tt)))))))))))))))))))))))))
