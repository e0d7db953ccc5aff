-- How long rows of siblings can be: each takes its nodes from the table's, of which there are at most 4,096.
use Prim.Native.Nat.{ℕ, ◌+◌, ◌*◌, ◌<◌, ◌≤◌}
use mathlib.Core.Path.{◌≡◌, refl}
use mathlib.Core.List.{List}
use native.Mathlib.Nat.{eq-zero-or-pos}
use native.Mathlib.Omega.{arith}
use lib.ListN.{length}
use mathlib.Core.Logic.{⊎_elim}
use Rattle.language.specs.Syntax.{ArgP, Expr, Exprs, ExprP, Block}
use Rattle.nodes.specs.Trees.{Script, next, AtParam, at_val_param, at_var_param, AtParams, at_no_param, at_more_params, AtE, at_num, at_name, at_if, at_and, at_or, at_app, at_abs, at_alloc, at_nth, at_len, at_vset, AtEs, at_one_expr, at_more_exprs, AtA, at_val, at_adr, AtAs, at_no_arg, at_more_args, ReadAs, count_exprs}
use Rattle.nodes.proofs.Laws.{param_child, params_there, exprs_there, arg_there}
use Rattle.nodes.proofs.Program.{nodes_of_block, node_linked, node_number}

-- a row of arguments that begins with no node is empty
no_more_args : {g : Script} {i : ℕ} {as' : List ExprP} → AtAs g i as' → i ≡ 0 → length as' ≡ 0
no_more_args at_no_arg e = refl
no_more_args (at_more_args a b) e = absurd (arg_there a e)

module _ {g : Script} {b : Block} (h : ReadAs g b) where
  -- an expression's node, and an argument's, is a node of the table
  pub expr_number : {i : ℕ} {e : Expr} → AtE g i e → i < nodes_of_block b
  expr_number (at_num k n) = node_number h _ 18 k.kind_is (omega arith)
  expr_number (at_name k) = node_number h _ 19 k.kind_is (omega arith)
  expr_number (at_if k x y z e) = node_number h _ 20 k.kind_is (omega arith)
  expr_number (at_and k x y e) = node_number h _ 21 k.kind_is (omega arith)
  expr_number (at_or k x y e) = node_number h _ 22 k.kind_is (omega arith)
  expr_number (at_app k f es) = node_number h _ 23 k.kind_is (omega arith)
  expr_number (at_abs k ps x e) = node_number h _ 24 k.kind_is (omega arith)
  expr_number (at_alloc k t x e) = node_number h _ 27 k.kind_is (omega arith)
  expr_number (at_nth k x y e) = node_number h _ 28 k.kind_is (omega arith)
  expr_number (at_len k x e) = node_number h _ 29 k.kind_is (omega arith)
  expr_number (at_vset k x y z e) = node_number h _ 30 k.kind_is (omega arith)

  pub arg_number : {i : ℕ} {a : ExprP} → AtA g i a → i < nodes_of_block b
  arg_number (at_val a) = expr_number a
  arg_number (at_adr k x e) = node_number h _ 25 k.kind_is (omega arith)

  -- the arguments of an application
  pub exprs_fit : {i : ℕ} {es : Exprs} → AtEs g i es → count_exprs es + i ≤ nodes_of_block b
  exprs_fit (at_one_expr a e) = let n = expr_number a in omega arith
  exprs_fit (at_more_exprs {i} a as') =
      let n = (node_linked h i (expr_number a)).next_later (exprs_there as') in let m = exprs_fit as' in omega (arith, n.0, m)

  -- the arguments of a CALL
  pub args_fit : {i : ℕ} {as' : List ExprP} → AtAs g i as' → (i ≡ 0 → ⊥) → length as' + i ≤ nodes_of_block b
  args_fit at_no_arg z = absurd (z refl)
  args_fit (at_more_args {i} {as' = as'} a rest) z =
      ⊎_elim (λ e. let n = arg_number a in let m = no_more_args rest e in omega arith)
      (λ l. let n = (node_linked h i (arg_number a)).next_later (λ e. omega arith) in let m = args_fit rest (λ e. omega arith) in omega (arith, n.0, m))
      (eq-zero-or-pos (next g i))

  -- a parameter takes two nodes: its own and its type's
  pub param_number : {i : ℕ} {a : ArgP} → AtParam g i a → i < nodes_of_block b
  param_number (at_val_param k t e) = node_number h _ 13 k.kind_is (omega arith)
  param_number (at_var_param k t e) = node_number h _ 14 k.kind_is (omega arith)

  pub params_fit : {i j : ℕ} {ps : List ArgP} → AtParams g i ps j → (j ≡ 0 → ⊥) → 2 * length ps + i ≤ j
  params_fit (at_no_param x y) z = omega arith
  params_fit (at_more_params {i} a rest) z =
      let n = (node_linked h i (param_number a)).next_behind (params_there rest z) (param_child a) in let m = params_fit rest z in omega (arith, n, m)
