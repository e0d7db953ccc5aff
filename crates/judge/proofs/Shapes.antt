-- The nodes of each form of tree: kind, place, children, and what follows.
use Prim.Native.Nat.{ℕ}
use mathlib.Core.Path.{◌≡◌, refl}
use mathlib.Core.List.{List, [], ◌∷◌}
use Rattle.language.specs.Syntax.{Ident, at, TypeTree, bool, int, arrow, vec, TypeTrees, one_type, more_types, Arg, arg, ArgP, val_arg, var_arg, Expr, num, name, if_expr, and, or, app, abs, alloc, nth_expr, len, vset, Exprs, one_expr, more_exprs, ExprP, val, adr, Cmds, last, def_then, stat_then, Def, const, fun, fun_rec, fun_block, fun_rec_block, var, proc, proc_rec, Stat, echo, set, if_stat, while, call, return, Block, block}
use Rattle.language.specs.Places.{place_ident, place_expr, place_arg, place_param, place_def, place_stat, place_block}
use Rattle.language.specs.Table.{Forest, none, leaf, fork, shape_type, shape_types, shape_arg, shape_args, shape_arg_p, shape_args_p, shape_expr, shape_exprs, shape_expr_p, shape_exprs_p, shape_cmds, shape_def, shape_stat, shape_block}
use Rattle.language.specs.Types.{values, param_type}

-- a row of siblings, each with its children
pub data Nodes : Type 0 where
  end : Nodes
  node : (kind place : ℕ) → (kids next : Nodes) → Nodes

abbrev pub nodes_of : Forest → Nodes
nodes_of none = end
nodes_of (leaf k p s) = node k p end (nodes_of s)
nodes_of (fork k p c s) = node k p (nodes_of c) (nodes_of s)

-- a name
abbrev pub name_row : Ident → Nodes → Nodes
name_row x s = node 19 (place_ident x) end s

-- a type
abbrev pub kind_type : TypeTree → ℕ
kind_type (bool p) = 15
kind_type (int p) = 16
kind_type (arrow p ts t) = 17
kind_type (vec p t) = 26

abbrev pub place_type : TypeTree → ℕ
place_type (bool p) = p
place_type (int p) = p
place_type (arrow p ts t) = p
place_type (vec p t) = p

abbrev mutual
  pub kids_type : TypeTree → Nodes
  kids_type (bool p) = end
  kids_type (int p) = end
  kids_type (arrow p ts t) = types_row ts (node (kind_type t) (place_type t) (kids_type t) end)
  kids_type (vec p t) = node (kind_type t) (place_type t) (kids_type t) end

  pub types_row : TypeTrees → Nodes → Nodes
  types_row (one_type t) s = node (kind_type t) (place_type t) (kids_type t) s
  types_row (more_types t ts) s = node (kind_type t) (place_type t) (kids_type t) (types_row ts s)

abbrev pub type_row : TypeTree → Nodes → Nodes
type_row t s = node (kind_type t) (place_type t) (kids_type t) s

-- a parameter
abbrev pub kind_param : ArgP → ℕ
kind_param (val_arg x t) = 13
kind_param (var_arg x t) = 14

abbrev pub param_row : ArgP → Nodes → Nodes
param_row a s = node (kind_param a) (place_param a) (type_row (param_type a) end) s

abbrev pub params_row : List ArgP → Nodes → Nodes
params_row [] s = s
params_row (a ∷ ps) s = param_row a (params_row ps s)

-- an expression
abbrev pub kind_expr : Expr → ℕ
kind_expr (num p z) = 18
kind_expr (name x) = 19
kind_expr (if_expr p a b c) = 20
kind_expr (and p a b) = 21
kind_expr (or p a b) = 22
kind_expr (app p f es) = 23
kind_expr (abs p ps e) = 24
kind_expr (alloc p t e) = 27
kind_expr (nth_expr p a b) = 28
kind_expr (len p a) = 29
kind_expr (vset p a b c) = 30

abbrev mutual
  pub kids_expr : Expr → Nodes
  kids_expr (num p z) = end
  kids_expr (name x) = end
  kids_expr (if_expr p a b c) =
      node (kind_expr a) (place_expr a) (kids_expr a) (node (kind_expr b) (place_expr b) (kids_expr b) (node (kind_expr c) (place_expr c) (kids_expr c) end))
  kids_expr (and p a b) = node (kind_expr a) (place_expr a) (kids_expr a) (node (kind_expr b) (place_expr b) (kids_expr b) end)
  kids_expr (or p a b) = node (kind_expr a) (place_expr a) (kids_expr a) (node (kind_expr b) (place_expr b) (kids_expr b) end)
  kids_expr (app p f es) = node (kind_expr f) (place_expr f) (kids_expr f) (exprs_row es end)
  kids_expr (abs p ps e) = params_row (values ps) (node (kind_expr e) (place_expr e) (kids_expr e) end)
  kids_expr (alloc p t e) = type_row t (node (kind_expr e) (place_expr e) (kids_expr e) end)
  kids_expr (nth_expr p a b) = node (kind_expr a) (place_expr a) (kids_expr a) (node (kind_expr b) (place_expr b) (kids_expr b) end)
  kids_expr (len p a) = node (kind_expr a) (place_expr a) (kids_expr a) end
  kids_expr (vset p a b c) =
      node (kind_expr a) (place_expr a) (kids_expr a) (node (kind_expr b) (place_expr b) (kids_expr b) (node (kind_expr c) (place_expr c) (kids_expr c) end))

  pub exprs_row : Exprs → Nodes → Nodes
  exprs_row (one_expr e) s = node (kind_expr e) (place_expr e) (kids_expr e) s
  exprs_row (more_exprs e es) s = node (kind_expr e) (place_expr e) (kids_expr e) (exprs_row es s)

abbrev pub expr_row : Expr → Nodes → Nodes
expr_row e s = node (kind_expr e) (place_expr e) (kids_expr e) s

-- an argument of a call
abbrev pub kind_arg : ExprP → ℕ
kind_arg (val e) = kind_expr e
kind_arg (adr p x) = 25

abbrev pub kids_arg : ExprP → Nodes
kids_arg (val e) = kids_expr e
kids_arg (adr p x) = name_row x end

abbrev pub arg_row : ExprP → Nodes → Nodes
arg_row a s = node (kind_arg a) (place_arg a) (kids_arg a) s

abbrev pub args_row : List ExprP → Nodes → Nodes
args_row [] s = s
args_row (a ∷ as') s = arg_row a (args_row as' s)

-- a definition, a statement, a block
abbrev pub kind_def : Def → ℕ
kind_def (const p x t e) = 2
kind_def (fun p x t ps e) = 3
kind_def (fun_rec p x t ps e) = 4
kind_def (fun_block p x t ps b) = 32
kind_def (fun_rec_block p x t ps b) = 33
kind_def (var p x t) = 5
kind_def (proc p x ps b) = 6
kind_def (proc_rec p x ps b) = 7

abbrev pub kind_stat : Stat → ℕ
kind_stat (echo p e) = 8
kind_stat (set p x e) = 9
kind_stat (if_stat p e a b) = 10
kind_stat (while p e b) = 11
kind_stat (call p x as') = 12
kind_stat (return p e) = 31

abbrev mutual
  pub kids_block : Block → Nodes
  kids_block (block p cs) = cmds_row cs end

  pub cmds_row : Cmds → Nodes → Nodes
  cmds_row (last c) s = node (kind_stat c) (place_stat c) (kids_stat c) s
  cmds_row (def_then d cs) s = node (kind_def d) (place_def d) (kids_def d) (cmds_row cs s)
  cmds_row (stat_then c cs) s = node (kind_stat c) (place_stat c) (kids_stat c) (cmds_row cs s)

  pub kids_def : Def → Nodes
  kids_def (const p x t e) = name_row x (type_row t (expr_row e end))
  kids_def (fun p x t ps e) = name_row x (type_row t (params_row (values ps) (expr_row e end)))
  kids_def (fun_rec p x t ps e) = name_row x (type_row t (params_row (values ps) (expr_row e end)))
  kids_def (fun_block p x t ps b) = name_row x (type_row t (params_row (values ps) (node 1 (place_block b) (kids_block b) end)))
  kids_def (fun_rec_block p x t ps b) = name_row x (type_row t (params_row (values ps) (node 1 (place_block b) (kids_block b) end)))
  kids_def (var p x t) = name_row x (type_row t end)
  kids_def (proc p x ps b) = name_row x (params_row ps (node 1 (place_block b) (kids_block b) end))
  kids_def (proc_rec p x ps b) = name_row x (params_row ps (node 1 (place_block b) (kids_block b) end))

  pub kids_stat : Stat → Nodes
  kids_stat (echo p e) = expr_row e end
  kids_stat (set p x e) = name_row x (expr_row e end)
  kids_stat (if_stat p e a b) = expr_row e (node 1 (place_block a) (kids_block a) (node 1 (place_block b) (kids_block b) end))
  kids_stat (while p e b) = expr_row e (node 1 (place_block b) (kids_block b) end)
  kids_stat (call p x as') = name_row x (args_row as' end)
  kids_stat (return p e) = expr_row e end

abbrev pub block_row : Block → Nodes → Nodes
block_row b s = node 1 (place_block b) (kids_block b) s

abbrev pub def_row : Def → Nodes → Nodes
def_row d s = node (kind_def d) (place_def d) (kids_def d) s

abbrev pub stat_row : Stat → Nodes → Nodes
stat_row c s = node (kind_stat c) (place_stat c) (kids_stat c) s

-- these are the nodes of the language's tree table
mutual
  unfolding shape_type

  shape_type_lem : (t : TypeTree) (s : Forest) → nodes_of (shape_type t s) ≡ type_row t (nodes_of s)
  shape_type_lem (bool p) s = refl
  shape_type_lem (int p) s = refl
  shape_type_lem (arrow p ts t) s = rw (shape_types_lem ts (shape_type t none), shape_type_lem t none)
  shape_type_lem (vec p t) s = rw (shape_type_lem t none)

  shape_types_lem : (ts : TypeTrees) (s : Forest) → nodes_of (shape_types ts s) ≡ types_row ts (nodes_of s)
  shape_types_lem (one_type t) s = shape_type_lem t s
  shape_types_lem (more_types t ts) s = rw (shape_type_lem t (shape_types ts s), shape_types_lem ts s)

shape_params : (ps : List ArgP) (s : Forest) → nodes_of (shape_args_p ps s) ≡ params_row ps (nodes_of s)
unfolding shape_args_p shape_arg_p
shape_params [] s = refl
shape_params (val_arg (at p x) t ∷ ps) s = rw (shape_type_lem t none, shape_params ps s)
shape_params (var_arg (at p x) t ∷ ps) s = rw (shape_type_lem t none, shape_params ps s)

shape_args_lem : (ps : List Arg) (s : Forest) → nodes_of (shape_args ps s) ≡ params_row (values ps) (nodes_of s)
unfolding shape_args shape_arg
shape_args_lem [] s = refl
shape_args_lem (arg (at p x) t ∷ ps) s = rw (shape_type_lem t none, shape_args_lem ps s)

mutual
  unfolding shape_expr

  shape_expr_lem : (e : Expr) (s : Forest) → nodes_of (shape_expr e s) ≡ expr_row e (nodes_of s)
  shape_expr_lem (num p z) s = refl
  shape_expr_lem (name x) s = refl
  shape_expr_lem (if_expr p a b c) s = rw (shape_expr_lem a (shape_expr b (shape_expr c none)), shape_expr_lem b (shape_expr c none), shape_expr_lem c none)
  shape_expr_lem (and p a b) s = rw (shape_expr_lem a (shape_expr b none), shape_expr_lem b none)
  shape_expr_lem (or p a b) s = rw (shape_expr_lem a (shape_expr b none), shape_expr_lem b none)
  shape_expr_lem (app p f es) s = rw (shape_expr_lem f (shape_exprs es none), shape_exprs_lem es none)
  shape_expr_lem (abs p ps e) s = rw (shape_args_lem ps (shape_expr e none), shape_expr_lem e none)
  shape_expr_lem (alloc p t e) s = rw (shape_type_lem t (shape_expr e none), shape_expr_lem e none)
  shape_expr_lem (nth_expr p a b) s = rw (shape_expr_lem a (shape_expr b none), shape_expr_lem b none)
  shape_expr_lem (len p a) s = rw (shape_expr_lem a none)
  shape_expr_lem (vset p a b c) s = rw (shape_expr_lem a (shape_expr b (shape_expr c none)), shape_expr_lem b (shape_expr c none), shape_expr_lem c none)

  shape_exprs_lem : (es : Exprs) (s : Forest) → nodes_of (shape_exprs es s) ≡ exprs_row es (nodes_of s)
  shape_exprs_lem (one_expr e) s = shape_expr_lem e s
  shape_exprs_lem (more_exprs e es) s = rw (shape_expr_lem e (shape_exprs es s), shape_exprs_lem es s)

shape_call : (as' : List ExprP) (s : Forest) → nodes_of (shape_exprs_p as' s) ≡ args_row as' (nodes_of s)
unfolding shape_exprs_p shape_expr_p
shape_call [] s = refl
shape_call (val e ∷ as') s = rw (shape_expr_lem e (shape_exprs_p as' s), shape_call as' s)
shape_call (adr p x ∷ as') s = rw (shape_call as' s)

mutual
  unfolding shape_cmds

  pub shape_block_lem : (b : Block) (s : Forest) → nodes_of (shape_block b s) ≡ block_row b (nodes_of s)
  shape_block_lem (block p cs) s = rw (shape_cmds_lem cs none)

  shape_cmds_lem : (cs : Cmds) (s : Forest) → nodes_of (shape_cmds cs s) ≡ cmds_row cs (nodes_of s)
  shape_cmds_lem (last c) s = shape_stat_lem c s
  shape_cmds_lem (def_then d cs) s = rw (shape_def_lem d (shape_cmds cs s), shape_cmds_lem cs s)
  shape_cmds_lem (stat_then c cs) s = rw (shape_stat_lem c (shape_cmds cs s), shape_cmds_lem cs s)

  shape_def_lem : (d : Def) (s : Forest) → nodes_of (shape_def d s) ≡ def_row d (nodes_of s)
  shape_def_lem (const p x t e) s = rw (shape_type_lem t (shape_expr e none), shape_expr_lem e none)
  shape_def_lem (fun p x t ps e) s = rw (shape_type_lem t (shape_args ps (shape_expr e none)), shape_args_lem ps (shape_expr e none), shape_expr_lem e none)
  shape_def_lem (fun_rec p x t ps e) s = rw (shape_type_lem t (shape_args ps (shape_expr e none)), shape_args_lem ps (shape_expr e none), shape_expr_lem e none)
  shape_def_lem (fun_block p x t ps b) s = rw (shape_type_lem t (shape_args ps (shape_block b none)), shape_args_lem ps (shape_block b none), shape_block_lem b none)
  shape_def_lem (fun_rec_block p x t ps b) s = rw (shape_type_lem t (shape_args ps (shape_block b none)), shape_args_lem ps (shape_block b none), shape_block_lem b none)
  shape_def_lem (var p x t) s = rw (shape_type_lem t none)
  shape_def_lem (proc p x ps b) s = rw (shape_params ps (shape_block b none), shape_block_lem b none)
  shape_def_lem (proc_rec p x ps b) s = rw (shape_params ps (shape_block b none), shape_block_lem b none)

  shape_stat_lem : (c : Stat) (s : Forest) → nodes_of (shape_stat c s) ≡ stat_row c (nodes_of s)
  shape_stat_lem (echo p e) s = rw (shape_expr_lem e none)
  shape_stat_lem (set p x e) s = rw (shape_expr_lem e none)
  shape_stat_lem (if_stat p e a b) s = rw (shape_expr_lem e (shape_block a (shape_block b none)), shape_block_lem a (shape_block b none), shape_block_lem b none)
  shape_stat_lem (while p e b) s = rw (shape_expr_lem e (shape_block b none), shape_block_lem b none)
  shape_stat_lem (call p x as') s = rw (shape_call as' none)
  shape_stat_lem (return p e) s = rw (shape_expr_lem e none)
