-- The tree at a node whose number is known: what is laid from n on is the tree at node n.
use Prim.Native.Nat.{ℕ}
use mathlib.Core.Path.{◌≡◌, subst}
use Rattle.language.specs.Syntax.{TypeTree, bool, int, arrow, vec, ArgP, val_arg, var_arg, Expr, num, name, if_expr, and, or, app, abs, alloc, nth_expr, len, vset, ExprP, val, adr, Cmds, last, def_then, stat_then, Def, const, fun, fun_rec, fun_block, fun_rec_block, var, proc, proc_rec, Stat, echo, set, if_stat, while, call, return, Block, block}
use Rattle.language.specs.Table.{Forest, none, shape_type, shape_arg_p, shape_expr, shape_expr_p, shape_cmds, shape_def, shape_stat, shape_block}
use Rattle.language.proofs.Reading.Standing.{Stands, InsideArgP, InsideExpr, InsideExprP, InsideCmds, InsideDef, InsideStat, InsideBlock}
use Rattle.nodes.specs.Forests.{Laid}
use Rattle.nodes.specs.Trees.{Script, AtType, AtParam, AtE, AtA, AtCs, AtD, AtS, AtB}
use Rattle.nodes.proofs.Proper.{Filled}
use Rattle.nodes.proofs.Encoded.{first_filled}
use Rattle.nodes.proofs.Trees.{Leads, leads, at_type, at_param, at_expr, at_arg, at_cmds, at_def, at_stat, at_inner}

-- each tree has a first node
pub filled_type : (t : TypeTree) (s : Forest) → Filled (shape_type t s)
unfolding shape_type
filled_type (bool p) s = tt
filled_type (int p) s = tt
filled_type (arrow p ts t) s = tt
filled_type (vec p t) s = tt

pub filled_param : (a : ArgP) (s : Forest) → Filled (shape_arg_p a s)
unfolding shape_arg_p
filled_param (val_arg x t) s = tt
filled_param (var_arg x t) s = tt

pub filled_expr : (e : Expr) (s : Forest) → Filled (shape_expr e s)
unfolding shape_expr
filled_expr (num p z) s = tt
filled_expr (name x) s = tt
filled_expr (if_expr p a b c) s = tt
filled_expr (and p a b) s = tt
filled_expr (or p a b) s = tt
filled_expr (app p f es) s = tt
filled_expr (abs p ps e) s = tt
filled_expr (alloc p t e) s = tt
filled_expr (nth_expr p a b) s = tt
filled_expr (len p a) s = tt
filled_expr (vset p a b c) s = tt

pub filled_arg : (a : ExprP) (s : Forest) → Filled (shape_expr_p a s)
unfolding shape_expr_p
filled_arg (val e) s = filled_expr e s
filled_arg (adr p x) s = tt

pub filled_def : (d : Def) (s : Forest) → Filled (shape_def d s)
unfolding shape_cmds
filled_def (const p x t e) s = tt
filled_def (fun p x t ps e) s = tt
filled_def (fun_rec p x t ps e) s = tt
filled_def (fun_block p x t ps b) s = tt
filled_def (fun_rec_block p x t ps b) s = tt
filled_def (var p x t) s = tt
filled_def (proc p x ps b) s = tt
filled_def (proc_rec p x ps b) s = tt

pub filled_stat : (c : Stat) (s : Forest) → Filled (shape_stat c s)
unfolding shape_cmds
filled_stat (echo p e) s = tt
filled_stat (set p x e) s = tt
filled_stat (if_stat p e a b) s = tt
filled_stat (while p e b) s = tt
filled_stat (call p x as') s = tt
filled_stat (return p e) s = tt

pub filled_cmds : (cs : Cmds) (s : Forest) → Filled (shape_cmds cs s)
unfolding shape_cmds
filled_cmds (last c) s = filled_stat c s
filled_cmds (def_then d cs) s = filled_def d (shape_cmds cs s)
filled_cmds (stat_then c cs) s = filled_stat c (shape_cmds cs s)

pub filled_block : (b : Block) (s : Forest) → Filled (shape_block b s)
unfolding shape_cmds
filled_block (block p cs) s = tt

module _ (g : Script) where
  -- the link to a filled forest is where it stands
  led : (f : Forest) (n : ℕ) → Filled f → Laid g.tree f n → (n ≡ 0 → ⊥) → Leads g n f
  led f n h a z = subst (λ j. Leads g j f) (first_filled f n h) (leads g f n a z)

  pub type_laid : (t : TypeTree) (s : Forest) (n : ℕ) → Laid g.tree (shape_type t s) n → (n ≡ 0 → ⊥) → AtType g n t
  type_laid t s n a z = at_type g t n s (led (shape_type t s) n (filled_type t s) a z)

  pub param_laid : (a : ArgP) (s : Forest) (n : ℕ) → Laid g.tree (shape_arg_p a s) n → (n ≡ 0 → ⊥) → InsideArgP a (Stands g.text) → AtParam g n a
  param_laid a s n l z p = (at_param g a n s (led (shape_arg_p a s) n (filled_param a s) l z) p).0

  pub expr_laid : (e : Expr) (s : Forest) (n : ℕ) → Laid g.tree (shape_expr e s) n → (n ≡ 0 → ⊥) → InsideExpr e (Stands g.text) → AtE g n e
  expr_laid e s n a z p = at_expr g e n s (led (shape_expr e s) n (filled_expr e s) a z) p

  pub arg_laid : (a : ExprP) (s : Forest) (n : ℕ) → Laid g.tree (shape_expr_p a s) n → (n ≡ 0 → ⊥) → InsideExprP a (Stands g.text) → AtA g n a
  arg_laid a s n l z p = (at_arg g a n s (led (shape_expr_p a s) n (filled_arg a s) l z) p).0

  pub def_laid : (d : Def) (s : Forest) (n : ℕ) → Laid g.tree (shape_def d s) n → (n ≡ 0 → ⊥) → InsideDef d (Stands g.text) → AtD g n d
  def_laid d s n a z p = (at_def g d n s (led (shape_def d s) n (filled_def d s) a z) p).0

  pub stat_laid : (c : Stat) (s : Forest) (n : ℕ) → Laid g.tree (shape_stat c s) n → (n ≡ 0 → ⊥) → InsideStat c (Stands g.text) → AtS g n c
  stat_laid c s n a z p = (at_stat g c n s (led (shape_stat c s) n (filled_stat c s) a z) p).0

  pub cmds_laid : (cs : Cmds) (n : ℕ) → Laid g.tree (shape_cmds cs none) n → (n ≡ 0 → ⊥) → InsideCmds cs (Stands g.text) → AtCs g n cs
  cmds_laid cs n a z p = at_cmds g cs n (led (shape_cmds cs none) n (filled_cmds cs none) a z) p

  pub block_laid : (b : Block) (s : Forest) (n : ℕ) → Laid g.tree (shape_block b s) n → (n ≡ 0 → ⊥) → InsideBlock b (Stands g.text) → AtB g n b
  block_laid b s n a z p = (at_inner g b n s (led (shape_block b s) n (filled_block b s) a z) p).1
