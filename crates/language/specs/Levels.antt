-- Levels, document 01: a block, a parenthesised expression, an `(adr x)`, an abstraction (to the end of its body), a function type and a vec type
-- (request 5) each open one level at their first word; parameter lists open none.
-- `levels e d l`: the level that each word of the tree `e` opens, 0 for none, in text order, where `d` levels are open; before those in `l`.
use Rattle.std.specs.Prelude.{◌∷◌}
use Rattle.language.specs.Library.{ℕ, suc, List, []}
use Rattle.language.specs.Syntax.{TypeTree, bool, int, arrow, vec, TypeTrees, one_type, more_types, Arg, arg, ArgP, val_arg, var_arg, Expr, num, name, if_expr, and, or, app, abs, alloc, nth_expr, len, vset, Exprs, one_expr, more_exprs, ExprP, val, adr, Cmds, last, def_then, stat_then, Def, const, fun, fun_rec, fun_block, fun_rec_block, var, proc, proc_rec, Stat, echo, set, if_stat, while, call, return, Block, block}

unfoldable mutual
  pub levels_type : TypeTree → ℕ → List ℕ → List ℕ
  levels_type (bool p) d l = 0 ∷ l
  levels_type (int p) d l = 0 ∷ l
  levels_type (arrow p a t) d l = suc d ∷ levels_types a (suc d) (0 ∷ levels_type t (suc d) (0 ∷ l))
  levels_type (vec p t) d l = suc d ∷ 0 ∷ levels_type t (suc d) (0 ∷ l)

  pub levels_types : TypeTrees → ℕ → List ℕ → List ℕ
  levels_types (one_type t) d l = levels_type t d l
  levels_types (more_types t a) d l = levels_type t d (0 ∷ levels_types a d l)

unfoldable pub levels_arg : Arg → ℕ → List ℕ → List ℕ  -- a parameter
levels_arg (arg x t) d l = 0 ∷ 0 ∷ levels_type t d l

unfoldable pub levels_args : List Arg → ℕ → List ℕ → List ℕ  -- each parameter with the comma or bracket behind it
levels_args [] d l = l
levels_args (a ∷ b) d l = levels_arg a d (0 ∷ levels_args b d l)

unfoldable pub levels_arg_p : ArgP → ℕ → List ℕ → List ℕ
levels_arg_p (val_arg x t) d l = 0 ∷ 0 ∷ levels_type t d l
levels_arg_p (var_arg x t) d l = 0 ∷ 0 ∷ 0 ∷ levels_type t d l

unfoldable pub levels_args_p : List ArgP → ℕ → List ℕ → List ℕ
levels_args_p [] d l = l
levels_args_p (a ∷ b) d l = levels_arg_p a d (0 ∷ levels_args_p b d l)

unfoldable mutual
  pub levels_expr : Expr → ℕ → List ℕ → List ℕ
  levels_expr (num p z) d l = 0 ∷ l
  levels_expr (name x) d l = 0 ∷ l
  levels_expr (if_expr p e f g) d l = suc d ∷ 0 ∷ levels_expr e (suc d) (levels_expr f (suc d) (levels_expr g (suc d) (0 ∷ l)))
  levels_expr (and p e f) d l = suc d ∷ 0 ∷ levels_expr e (suc d) (levels_expr f (suc d) (0 ∷ l))
  levels_expr (or p e f) d l = suc d ∷ 0 ∷ levels_expr e (suc d) (levels_expr f (suc d) (0 ∷ l))
  levels_expr (app p e a) d l = suc d ∷ levels_expr e (suc d) (levels_exprs a (suc d) (0 ∷ l))
  levels_expr (abs p a e) d l = suc d ∷ levels_args a (suc d) (levels_expr e (suc d) l)
  levels_expr (alloc p t e) d l = suc d ∷ 0 ∷ levels_type t (suc d) (levels_expr e (suc d) (0 ∷ l))
  levels_expr (nth_expr p e f) d l = suc d ∷ 0 ∷ levels_expr e (suc d) (levels_expr f (suc d) (0 ∷ l))
  levels_expr (len p e) d l = suc d ∷ 0 ∷ levels_expr e (suc d) (0 ∷ l)
  levels_expr (vset p e f g) d l = suc d ∷ 0 ∷ levels_expr e (suc d) (levels_expr f (suc d) (levels_expr g (suc d) (0 ∷ l)))

  pub levels_exprs : Exprs → ℕ → List ℕ → List ℕ
  levels_exprs (one_expr e) d l = levels_expr e d l
  levels_exprs (more_exprs e a) d l = levels_expr e d (levels_exprs a d l)

unfoldable pub levels_expr_p : ExprP → ℕ → List ℕ → List ℕ
levels_expr_p (val e) d l = levels_expr e d l
levels_expr_p (adr p x) d l = suc d ∷ 0 ∷ 0 ∷ 0 ∷ l

unfoldable pub levels_exprs_p : List ExprP → ℕ → List ℕ → List ℕ
levels_exprs_p [] d l = l
levels_exprs_p (a ∷ b) d l = levels_expr_p a d (levels_exprs_p b d l)

unfoldable mutual
  pub levels_cmds : Cmds → ℕ → List ℕ → List ℕ
  levels_cmds (last a) d l = levels_stat a d l
  levels_cmds (def_then a c) d l = levels_def a d (0 ∷ levels_cmds c d l)
  levels_cmds (stat_then a c) d l = levels_stat a d (0 ∷ levels_cmds c d l)

  pub levels_def : Def → ℕ → List ℕ → List ℕ
  levels_def (const p x t e) d l = 0 ∷ 0 ∷ levels_type t d (levels_expr e d l)
  levels_def (fun p x t a e) d l = 0 ∷ 0 ∷ levels_type t d (0 ∷ levels_args a d (levels_expr e d l))
  levels_def (fun_rec p x t a e) d l = 0 ∷ 0 ∷ 0 ∷ levels_type t d (0 ∷ levels_args a d (levels_expr e d l))
  levels_def (fun_block p x t a b) d l = 0 ∷ 0 ∷ levels_type t d (0 ∷ levels_args a d (levels_block b d l))
  levels_def (fun_rec_block p x t a b) d l = 0 ∷ 0 ∷ 0 ∷ levels_type t d (0 ∷ levels_args a d (levels_block b d l))
  levels_def (var p x t) d l = 0 ∷ 0 ∷ levels_type t d l
  levels_def (proc p x a b) d l = 0 ∷ 0 ∷ 0 ∷ levels_args_p a d (levels_block b d l)
  levels_def (proc_rec p x a b) d l = 0 ∷ 0 ∷ 0 ∷ 0 ∷ levels_args_p a d (levels_block b d l)

  pub levels_stat : Stat → ℕ → List ℕ → List ℕ
  levels_stat (echo p e) d l = 0 ∷ levels_expr e d l
  levels_stat (set p x e) d l = 0 ∷ 0 ∷ levels_expr e d l
  levels_stat (if_stat p e b c) d l = 0 ∷ levels_expr e d (levels_block b d (levels_block c d l))
  levels_stat (while p e b) d l = 0 ∷ levels_expr e d (levels_block b d l)
  levels_stat (call p x a) d l = 0 ∷ 0 ∷ levels_exprs_p a d l
  levels_stat (return p e) d l = 0 ∷ levels_expr e d l

  pub levels_block : Block → ℕ → List ℕ → List ℕ
  levels_block (block p c) d l = suc d ∷ levels_cmds c (suc d) (0 ∷ l)

unfoldable pub levels : Block → List ℕ  -- the level that each word of a program opens
levels b = levels_block b 0 []

abbrev pub deepest : ℕ  -- at most so many levels; else 8 LEVEL, at the word that opens the next
deepest = 64
