-- Trees that agree open the same levels.
use mathlib.Core.Path.{◌≡◌, refl}
use mathlib.Core.List.{List}
use Prim.Native.Nat.{ℕ}
use Rattle.language.specs.Syntax.{Name}
use Rattle.language.specs.Grammar.{Sort, TreeOf}
use Rattle.language.specs.Levels.{levels_type, levels_arg, levels_args, levels_arg_p, levels_args_p, levels_expr, levels_expr_p, levels_exprs_p, levels_cmds}
use Rattle.language.proofs.Reading.Complete.{levels_of}
use Rattle.renaming.specs.Alike.{Alike, a_block, a_last, a_def_then, a_stat_then, a_const, a_fun, a_fun_rec, a_fun_block, a_fun_rec_block, a_var, a_proc, a_proc_rec, a_bool, a_int, a_arrow, a_vec, a_one_type, a_more_types, a_arg, a_no_args, a_args, a_val_arg, a_var_arg, a_no_argsp, a_argsp, a_echo, a_set, a_if_stat, a_while, a_call, a_return, a_val, a_adr, a_no_exprsp, a_exprsp, a_num, a_name, a_if_expr, a_and, a_or, a_app, a_abs, a_alloc, a_nth, a_len, a_vset, a_one_expr, a_more_exprs}

pub same_levels : {N : Name → Name → Type 0} {k : Sort} {e f : TreeOf k} → Alike N k e f → (d : ℕ) (ls : List ℕ) → levels_of k e d ls ≡ levels_of k f d ls
unfolding levels_type levels_arg levels_args levels_arg_p levels_args_p levels_expr levels_expr_p levels_exprs_p levels_cmds
same_levels (a_block h) d ls = rw (same_levels h)
same_levels (a_last h) d ls = rw (same_levels h)
same_levels (a_def_then h k) d ls = rw (same_levels h, same_levels k)
same_levels (a_stat_then h k) d ls = rw (same_levels h, same_levels k)
same_levels (a_const n h k) d ls = rw (same_levels h, same_levels k)
same_levels (a_fun n h k l) d ls = rw (same_levels h, same_levels k, same_levels l)
same_levels (a_fun_rec n h k l) d ls = rw (same_levels h, same_levels k, same_levels l)
same_levels (a_fun_block n h k l) d ls = rw (same_levels h, same_levels k, same_levels l)
same_levels (a_fun_rec_block n h k l) d ls = rw (same_levels h, same_levels k, same_levels l)
same_levels (a_var n h) d ls = rw (same_levels h)
same_levels (a_proc n h k) d ls = rw (same_levels h, same_levels k)
same_levels (a_proc_rec n h k) d ls = rw (same_levels h, same_levels k)
same_levels a_bool d ls = refl
same_levels a_int d ls = refl
same_levels (a_arrow h k) d ls = rw (same_levels h, same_levels k)
same_levels (a_vec h) d ls = rw (same_levels h)
same_levels (a_one_type h) d ls = rw (same_levels h)
same_levels (a_more_types h k) d ls = rw (same_levels h, same_levels k)
same_levels (a_arg n h) d ls = rw (same_levels h)
same_levels a_no_args d ls = refl
same_levels (a_args h k) d ls = rw (same_levels h, same_levels k)
same_levels (a_val_arg n h) d ls = rw (same_levels h)
same_levels (a_var_arg n h) d ls = rw (same_levels h)
same_levels a_no_argsp d ls = refl
same_levels (a_argsp h k) d ls = rw (same_levels h, same_levels k)
same_levels (a_echo h) d ls = rw (same_levels h)
same_levels (a_set n h) d ls = rw (same_levels h)
same_levels (a_if_stat h k l) d ls = rw (same_levels h, same_levels k, same_levels l)
same_levels (a_while h k) d ls = rw (same_levels h, same_levels k)
same_levels (a_call n h) d ls = rw (same_levels h)
same_levels (a_return h) d ls = rw (same_levels h)
same_levels (a_val h) d ls = rw (same_levels h)
same_levels (a_adr n) d ls = refl
same_levels a_no_exprsp d ls = refl
same_levels (a_exprsp h k) d ls = rw (same_levels h, same_levels k)
same_levels a_num d ls = refl
same_levels (a_name n) d ls = refl
same_levels (a_if_expr h k l) d ls = rw (same_levels h, same_levels k, same_levels l)
same_levels (a_and h k) d ls = rw (same_levels h, same_levels k)
same_levels (a_or h k) d ls = rw (same_levels h, same_levels k)
same_levels (a_app h k) d ls = rw (same_levels h, same_levels k)
same_levels (a_abs h k) d ls = rw (same_levels h, same_levels k)
same_levels (a_alloc h k) d ls = rw (same_levels h, same_levels k)
same_levels (a_nth h k) d ls = rw (same_levels h, same_levels k)
same_levels (a_len h) d ls = rw (same_levels h)
same_levels (a_vset h k l) d ls = rw (same_levels h, same_levels k, same_levels l)
same_levels (a_one_expr h) d ls = rw (same_levels h)
same_levels (a_more_exprs h k) d ls = rw (same_levels h, same_levels k)
