-- The tree that comes back, document 01: a tree's nodes as a forest of kinds and places, `shape`, and the words of a forest, `enc`.
use Rattle.std.specs.Prelude.{◌+◌, ◌*◌, ◌∷◌, ◌++◌}
use Rattle.language.specs.Library.{ℕ, List, [], map}
use Rattle.language.specs.Syntax.{Ident, TypeTree, bool, int, arrow, vec, TypeTrees, one_type, more_types, Arg, arg, ArgP, val_arg, var_arg, Expr, num, name, if_expr, and, or, app, abs, alloc, nth_expr, len, vset, Exprs, one_expr, more_exprs, ExprP, val, adr, Cmds, last, def_then, stat_then, Def, const, fun, fun_rec, fun_block, fun_rec_block, var, proc, proc_rec, Stat, echo, set, if_stat, while, call, return, Block, block}
use Rattle.language.specs.Places.{place_ident}

pub data Forest : Type 0 where  -- a node without children, or with them; then the siblings that follow it
  none : Forest
  leaf : (kind place : ℕ) → (next : Forest) → Forest
  fork : (kind place : ℕ) → (kids next : Forest) → Forest

-- The nodes of a tree, with those of `s` behind them: kinds are document 01's and, from 26 on, those of requests 5 and 8; children stand in the grammar's order.
abbrev pub ident : Ident → Forest → Forest
ident x s = leaf 19 (place_ident x) s

unfoldable mutual
  pub shape_type : TypeTree → Forest → Forest
  shape_type (bool p) s = leaf 15 p s
  shape_type (int p) s = leaf 16 p s
  shape_type (arrow p a t) s = fork 17 p (shape_types a (shape_type t none)) s
  shape_type (vec p t) s = fork 26 p (shape_type t none) s

  pub shape_types : TypeTrees → Forest → Forest
  shape_types (one_type t) s = shape_type t s
  shape_types (more_types t a) s = shape_type t (shape_types a s)

unfoldable pub shape_arg : Arg → Forest → Forest  -- a parameter's place is its name's and its only child is its type
shape_arg (arg x t) s = fork 13 (place_ident x) (shape_type t none) s

unfoldable pub shape_args : List Arg → Forest → Forest
shape_args [] s = s
shape_args (a ∷ b) s = shape_arg a (shape_args b s)

unfoldable pub shape_arg_p : ArgP → Forest → Forest
shape_arg_p (val_arg x t) s = fork 13 (place_ident x) (shape_type t none) s
shape_arg_p (var_arg x t) s = fork 14 (place_ident x) (shape_type t none) s

unfoldable pub shape_args_p : List ArgP → Forest → Forest
shape_args_p [] s = s
shape_args_p (a ∷ b) s = shape_arg_p a (shape_args_p b s)

unfoldable mutual
  pub shape_expr : Expr → Forest → Forest
  shape_expr (num p z) s = leaf 18 p s
  shape_expr (name x) s = ident x s
  shape_expr (if_expr p e f g) s = fork 20 p (shape_expr e (shape_expr f (shape_expr g none))) s
  shape_expr (and p e f) s = fork 21 p (shape_expr e (shape_expr f none)) s
  shape_expr (or p e f) s = fork 22 p (shape_expr e (shape_expr f none)) s
  shape_expr (app p e a) s = fork 23 p (shape_expr e (shape_exprs a none)) s
  shape_expr (abs p a e) s = fork 24 p (shape_args a (shape_expr e none)) s
  shape_expr (alloc p t e) s = fork 27 p (shape_type t (shape_expr e none)) s
  shape_expr (nth_expr p e f) s = fork 28 p (shape_expr e (shape_expr f none)) s
  shape_expr (len p e) s = fork 29 p (shape_expr e none) s
  shape_expr (vset p e f g) s = fork 30 p (shape_expr e (shape_expr f (shape_expr g none))) s

  pub shape_exprs : Exprs → Forest → Forest
  shape_exprs (one_expr e) s = shape_expr e s
  shape_exprs (more_exprs e a) s = shape_expr e (shape_exprs a s)

unfoldable pub shape_expr_p : ExprP → Forest → Forest
shape_expr_p (val e) s = shape_expr e s
shape_expr_p (adr p x) s = fork 25 p (ident x none) s

unfoldable pub shape_exprs_p : List ExprP → Forest → Forest
shape_exprs_p [] s = s
shape_exprs_p (a ∷ b) s = shape_expr_p a (shape_exprs_p b s)

unfoldable mutual
  pub shape_cmds : Cmds → Forest → Forest
  shape_cmds (last a) s = shape_stat a s
  shape_cmds (def_then d c) s = shape_def d (shape_cmds c s)
  shape_cmds (stat_then a c) s = shape_stat a (shape_cmds c s)

  pub shape_def : Def → Forest → Forest
  shape_def (const p x t e) s = fork 2 p (ident x (shape_type t (shape_expr e none))) s
  shape_def (fun p x t a e) s = fork 3 p (ident x (shape_type t (shape_args a (shape_expr e none)))) s
  shape_def (fun_rec p x t a e) s = fork 4 p (ident x (shape_type t (shape_args a (shape_expr e none)))) s
  shape_def (fun_block p x t a b) s = fork 32 p (ident x (shape_type t (shape_args a (shape_block b none)))) s
  shape_def (fun_rec_block p x t a b) s = fork 33 p (ident x (shape_type t (shape_args a (shape_block b none)))) s
  shape_def (var p x t) s = fork 5 p (ident x (shape_type t none)) s
  shape_def (proc p x a b) s = fork 6 p (ident x (shape_args_p a (shape_block b none))) s
  shape_def (proc_rec p x a b) s = fork 7 p (ident x (shape_args_p a (shape_block b none))) s

  pub shape_stat : Stat → Forest → Forest
  shape_stat (echo p e) s = fork 8 p (shape_expr e none) s
  shape_stat (set p x e) s = fork 9 p (ident x (shape_expr e none)) s
  shape_stat (if_stat p e b c) s = fork 10 p (shape_expr e (shape_block b (shape_block c none))) s
  shape_stat (while p e b) s = fork 11 p (shape_expr e (shape_block b none)) s
  shape_stat (call p x a) s = fork 12 p (ident x (shape_exprs_p a none)) s
  shape_stat (return p e) s = fork 31 p (shape_expr e none) s

  pub shape_block : Block → Forest → Forest
  shape_block (block p c) s = fork 1 p (shape_cmds c none) s

pub data Node : Type 0 where  -- a node of the table: kind, place, first child, next sibling, most significant first
  node : ℕ → ℕ → ℕ → ℕ → Node

abbrev pub word_of : Node → ℕ
word_of (node k p c s) = ((k * 65536 + p) * 65536 + c) * 65536 + s

unfoldable pub size : Forest → ℕ
size none = 0
size (leaf k p s) = 1 + size s
size (fork k p c s) = 1 + size c + size s

unfoldable pub first : Forest → ℕ → ℕ  -- the number of a forest's first node, if that is `i`; 0 where it has none
first none i = 0
first (leaf k p s) i = i
first (fork k p c s) i = i

unfoldable pub enc : Forest → ℕ → List Node  -- the nodes of a forest, numbered from `n` in text order
enc none n = []
enc (leaf k p s) n = node k p 0 (first s (n + 1)) ∷ enc s (n + 1)
enc (fork k p c s) n = node k p (n + 1) (first s (n + 1 + size c)) ∷ enc c (n + 1) ++ enc s (n + 1 + size c)

unfoldable pub table : Block → List ℕ  -- the tree table of a program
table b = map word_of (enc (shape_block b none) 0)
