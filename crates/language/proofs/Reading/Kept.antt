-- Each name and number of a tree is a word of its text.
use mathlib.Core.List.{List, []}
use Rattle.language.specs.Syntax.{Block}
use Rattle.language.specs.Words.{Word}
use Rattle.language.specs.Grammar.{Sort, BLOCK, CMDS, DEF, STAT, TYPE, TYPES, ARG, ARGS, ARGP, ARGSP, EXPR, EXPRS, EXPRP, EXPRSP, TreeOf, Reads, r_block, r_last, r_def_then, r_stat_then, r_return, r_const, r_fun, r_fun_rec, r_fun_block, r_fun_rec_block, r_var, r_proc, r_proc_rec, r_bool, r_int, r_arrow, r_vec, r_one_type, r_more_types, r_arg, r_one_arg, r_more_args, r_val_arg, r_var_arg, r_one_argp, r_more_argsp, r_echo, r_set, r_if_stat, r_while, r_call, r_one_exprp, r_more_exprsp, r_val, r_adr, r_num, r_name, r_if_expr, r_and, r_or, r_app, r_abs, r_alloc, r_nth, r_len, r_vset, r_one_expr, r_more_exprs}
use Rattle.language.proofs.Reading.Standing.{InsideArg, InsideArgs, InsideArgP, InsideArgsP, InsideExpr, InsideExprs, InsideExprP, InsideExprsP, InsideCmds, InsideDef, InsideStat, InsideBlock}
use Rattle.language.proofs.Reading.Payload.{All}

abbrev InsideOf : (k : Sort) → TreeOf k → (Word → Type 0) → Type 0
InsideOf BLOCK = InsideBlock
InsideOf CMDS = InsideCmds
InsideOf DEF = InsideDef
InsideOf STAT = InsideStat
InsideOf TYPE = λ e P. Unit {0}
InsideOf TYPES = λ e P. Unit {0}
InsideOf ARG = InsideArg
InsideOf ARGS = InsideArgs
InsideOf ARGP = InsideArgP
InsideOf ARGSP = InsideArgsP
InsideOf EXPR = InsideExpr
InsideOf EXPRS = InsideExprs
InsideOf EXPRP = InsideExprP
InsideOf EXPRSP = InsideExprsP

kept : (P : Word → Type 0) {k : Sort} {e : TreeOf k} {ts r : List Word} → Reads k e ts r → All P ts → InsideOf k e P × All P r
unfolding InsideArg InsideArgs InsideArgP InsideArgsP InsideExpr InsideExprP InsideExprsP InsideCmds
kept P (r_block h) a = let u = kept P h a.1 in (u.0, u.1.1)
kept P (r_last h) a = kept P h a
kept P (r_def_then h k) a = let u = kept P h a in let v = kept P k u.1.1 in ((u.0, v.0), v.1)
kept P (r_stat_then h k) a = let u = kept P h a in let v = kept P k u.1.1 in ((u.0, v.0), v.1)
kept P (r_return h) a = kept P h a.1
kept P (r_const h k) a = let u = kept P h a.1.1 in let v = kept P k u.1 in ((a.1.0, v.0), v.1)
kept P (r_fun h k l) a = let u = kept P h a.1.1 in let v = kept P k u.1.1 in let w = kept P l v.1.1 in ((a.1.0, v.0, w.0), w.1)
kept P (r_fun_rec h k l) a = let u = kept P h a.1.1.1 in let v = kept P k u.1.1 in let w = kept P l v.1.1 in ((a.1.1.0, v.0, w.0), w.1)
kept P (r_fun_block h k l) a = let u = kept P h a.1.1 in let v = kept P k u.1.1 in let w = kept P l v.1.1 in ((a.1.0, v.0, w.0), w.1)
kept P (r_fun_rec_block h k l) a = let u = kept P h a.1.1.1 in let v = kept P k u.1.1 in let w = kept P l v.1.1 in ((a.1.1.0, v.0, w.0), w.1)
kept P (r_var h) a = let u = kept P h a.1.1 in (a.1.0, u.1)
kept P (r_proc h k) a = let u = kept P h a.1.1.1 in let v = kept P k u.1.1 in ((a.1.0, u.0, v.0), v.1)
kept P (r_proc_rec h k) a = let u = kept P h a.1.1.1.1 in let v = kept P k u.1.1 in ((a.1.1.0, u.0, v.0), v.1)
kept P r_bool a = (tt, a.1)
kept P r_int a = (tt, a.1)
kept P (r_arrow h k) a = let u = kept P h a.1 in let v = kept P k u.1.1 in (tt, v.1.1)
kept P (r_vec h) a = let u = kept P h a.1.1 in (tt, u.1.1)
kept P (r_one_type h) a = let u = kept P h a in (tt, u.1)
kept P (r_more_types h k) a = let u = kept P h a in let v = kept P k u.1.1 in (tt, v.1)
kept P (r_arg h) a = let u = kept P h a.1.1 in (a.0, u.1)
kept P (r_one_arg h) a = let u = kept P h a in ((u.0, tt), u.1)
kept P (r_more_args h k) a = let u = kept P h a in let v = kept P k u.1.1 in ((u.0, v.0), v.1)
kept P (r_val_arg h) a = let u = kept P h a.1.1 in (a.0, u.1)
kept P (r_var_arg h) a = let u = kept P h a.1.1.1 in (a.1.0, u.1)
kept P (r_one_argp h) a = let u = kept P h a in ((u.0, tt), u.1)
kept P (r_more_argsp h k) a = let u = kept P h a in let v = kept P k u.1.1 in ((u.0, v.0), v.1)
kept P (r_echo h) a = kept P h a.1
kept P (r_set h) a = let u = kept P h a.1.1 in ((a.1.0, u.0), u.1)
kept P (r_if_stat h k l) a = let u = kept P h a.1 in let v = kept P k u.1 in let w = kept P l v.1 in ((u.0, v.0, w.0), w.1)
kept P (r_while h k) a = let u = kept P h a.1 in let v = kept P k u.1 in ((u.0, v.0), v.1)
kept P (r_call h) a = let u = kept P h a.1.1 in ((a.1.0, u.0), u.1)
kept P (r_one_exprp h) a = let u = kept P h a in ((u.0, tt), u.1)
kept P (r_more_exprsp h k) a = let u = kept P h a in let v = kept P k u.1 in ((u.0, v.0), v.1)
kept P (r_val h) a = kept P h a
kept P r_adr a = (a.1.1.0, a.1.1.1.1)
kept P r_num a = (a.0, a.1)
kept P r_name a = (a.0, a.1)
kept P (r_if_expr h k l) a = let u = kept P h a.1.1 in let v = kept P k u.1 in let w = kept P l v.1 in ((u.0, v.0, w.0), w.1.1)
kept P (r_and h k) a = let u = kept P h a.1.1 in let v = kept P k u.1 in ((u.0, v.0), v.1.1)
kept P (r_or h k) a = let u = kept P h a.1.1 in let v = kept P k u.1 in ((u.0, v.0), v.1.1)
kept P (r_app h k) a = let u = kept P h a.1 in let v = kept P k u.1 in ((u.0, v.0), v.1.1)
kept P (r_abs h k) a = let u = kept P h a.1 in let v = kept P k u.1.1 in ((u.0, v.0), v.1)
kept P (r_alloc h k) a = let u = kept P h a.1.1 in let v = kept P k u.1 in (v.0, v.1.1)
kept P (r_nth h k) a = let u = kept P h a.1.1 in let v = kept P k u.1 in ((u.0, v.0), v.1.1)
kept P (r_len h) a = let u = kept P h a.1.1 in (u.0, u.1.1)
kept P (r_vset h k l) a = let u = kept P h a.1.1 in let v = kept P k u.1 in let w = kept P l v.1 in ((u.0, v.0, w.0), w.1.1)
kept P (r_one_expr h) a = kept P h a
kept P (r_more_exprs h k) a = let u = kept P h a in let v = kept P k u.1 in ((u.0, v.0), v.1)

-- What holds of each word holds of each that the tree keeps.
pub tree_keeps : (P : Word → Type 0) {b : Block} {ts : List Word} → Reads BLOCK b ts [] → All P ts → InsideBlock b P
tree_keeps P h a = (kept P h a).0
