-- From words to trees: a text none of whose words opens a level past the 64th has a tree that fits 64 levels.
use mathlib.Core.Path.{◌≡◌}
use mathlib.Core.List.{List, [], ◌∷◌}
use Prim.Native.Nat.{ℕ, zero, suc, ◌+◌, ◌≤◌}
use native.Mathlib.Omega.{arith}
use Rattle.language.specs.Syntax.{TypeTree, bool, int, arrow, vec, TypeTrees, one_type, more_types, Arg, arg, ArgP, val_arg, var_arg, Expr, num, name, if_expr, and, or, app, abs, alloc, nth_expr, len, vset, Exprs, one_expr, more_exprs, ExprP, val, adr, Cmds, last, def_then, stat_then, Def, const, fun, fun_rec, fun_block, fun_rec_block, var, proc, proc_rec, Stat, echo, set, if_stat, while, call, return, Block, block}
use Rattle.language.specs.Levels.{levels_type, levels_types, levels_arg, levels_args, levels_arg_p, levels_args_p, levels_expr, levels_exprs, levels_expr_p, levels_exprs_p, levels_cmds, levels_def, levels_stat, levels_block, levels, deepest}
use Rattle.language.specs.Reading.{Within, a_level}
use Rattle.language.specs.Types.{values}
use Rattle.language.specs.Claims.{Opened}
use Rattle.language.proofs.Typing.Nesting.{FitsType, FitsTypes, FitsParams, FitsExpr, FitsExprs, FitsArgs, FitsBlock, FitsCmds, FitsDef, FitsStat}

-- each law: where d levels are open and n are left, a tree whose words stay within the deepest level fits n, and what stands behind it stays within too
rest : {k : ℕ} {l : List ℕ} → Within deepest (k ∷ l) → Within deepest l
rest (a_level h w) = w

top : {k : ℕ} {l : List ℕ} → Within deepest (k ∷ l) → k ≤ deepest
top (a_level h w) = h

-- a level is opened: one is left for it, and the parts fit the others
opened : (d n : ℕ) (parts : ℕ → Type 0) (l : List ℕ) → d + n ≡ deepest → suc d ≤ deepest → ((m : ℕ) → suc d + m ≡ deepest → parts m × Within deepest l) → Opened n parts × Within deepest l
opened d zero parts l e h k = absurd (omega arith)
opened d (suc m) parts l e h k = k m (omega arith)

mutual
  unfolding levels_type

  fits_type : (t : TypeTree) (d n : ℕ) (l : List ℕ) → d + n ≡ deepest → Within deepest (levels_type t d l) → FitsType t n × Within deepest l
  fits_type (bool p) d n l e w = (tt, rest w)
  fits_type (int p) d n l e w = (tt, rest w)
  fits_type (arrow p a t) d n l e w =
      opened d n _ l e (top w) λ m f. let x = fits_types a (suc d) m _ f (rest w) in let y = fits_type t (suc d) m _ f (rest x.1) in ((x.0, y.0), rest y.1)
  fits_type (vec p t) d n l e w = opened d n _ l e (top w) λ m f. let x = fits_type t (suc d) m _ f (rest (rest w)) in (x.0, rest x.1)

  fits_types : (a : TypeTrees) (d n : ℕ) (l : List ℕ) → d + n ≡ deepest → Within deepest (levels_types a d l) → FitsTypes a n × Within deepest l
  fits_types (one_type t) d n l e w = fits_type t d n l e w
  fits_types (more_types t a) d n l e w = let x = fits_type t d n _ e w in let y = fits_types a d n l e (rest x.1) in ((x.0, y.0), y.1)

fits_args : (a : List Arg) (d n : ℕ) (l : List ℕ) → d + n ≡ deepest → Within deepest (levels_args a d l) → FitsParams (values a) n × Within deepest l
unfolding levels_args levels_arg
fits_args [] d n l e w = (tt, w)
fits_args (arg x t ∷ a) d n l e w = let y = fits_type t d n _ e (rest (rest w)) in let z = fits_args a d n l e (rest y.1) in ((y.0, z.0), z.1)

fits_argsp : (a : List ArgP) (d n : ℕ) (l : List ℕ) → d + n ≡ deepest → Within deepest (levels_args_p a d l) → FitsParams a n × Within deepest l
unfolding levels_args_p levels_arg_p
fits_argsp [] d n l e w = (tt, w)
fits_argsp (val_arg x t ∷ a) d n l e w = let y = fits_type t d n _ e (rest (rest w)) in let z = fits_argsp a d n l e (rest y.1) in ((y.0, z.0), z.1)
fits_argsp (var_arg x t ∷ a) d n l e w = let y = fits_type t d n _ e (rest (rest (rest w))) in let z = fits_argsp a d n l e (rest y.1) in ((y.0, z.0), z.1)

mutual
  unfolding levels_expr

  fits_expr : (a : Expr) (d n : ℕ) (l : List ℕ) → d + n ≡ deepest → Within deepest (levels_expr a d l) → FitsExpr a n × Within deepest l
  fits_expr (num p z) d n l e w = (tt, rest w)
  fits_expr (name x) d n l e w = (tt, rest w)
  fits_expr (if_expr p a b c) d n l e w =
      opened d n _ l e (top w) λ m f.
      let x = fits_expr a (suc d) m _ f (rest (rest w)) in
      let y = fits_expr b (suc d) m _ f x.1 in
      let z = fits_expr c (suc d) m _ f y.1 in ((x.0, y.0, z.0), rest z.1)
  fits_expr (and p a b) d n l e w =
      opened d n _ l e (top w) λ m f. let x = fits_expr a (suc d) m _ f (rest (rest w)) in let y = fits_expr b (suc d) m _ f x.1 in ((x.0, y.0), rest y.1)
  fits_expr (or p a b) d n l e w =
      opened d n _ l e (top w) λ m f. let x = fits_expr a (suc d) m _ f (rest (rest w)) in let y = fits_expr b (suc d) m _ f x.1 in ((x.0, y.0), rest y.1)
  fits_expr (app p a es) d n l e w =
      opened d n _ l e (top w) λ m f. let x = fits_expr a (suc d) m _ f (rest w) in let y = fits_exprs es (suc d) m _ f x.1 in ((x.0, y.0), rest y.1)
  fits_expr (abs p ps a) d n l e w =
      opened d n _ l e (top w) λ m f. let x = fits_args ps (suc d) m _ f (rest w) in let y = fits_expr a (suc d) m _ f x.1 in ((x.0, y.0), y.1)
  fits_expr (alloc p t a) d n l e w =
      opened d n _ l e (top w) λ m f. let x = fits_type t (suc d) m _ f (rest (rest w)) in let y = fits_expr a (suc d) m _ f x.1 in ((x.0, y.0), rest y.1)
  fits_expr (nth_expr p a b) d n l e w =
      opened d n _ l e (top w) λ m f. let x = fits_expr a (suc d) m _ f (rest (rest w)) in let y = fits_expr b (suc d) m _ f x.1 in ((x.0, y.0), rest y.1)
  fits_expr (len p a) d n l e w = opened d n _ l e (top w) λ m f. let x = fits_expr a (suc d) m _ f (rest (rest w)) in (x.0, rest x.1)
  fits_expr (vset p a b c) d n l e w =
      opened d n _ l e (top w) λ m f.
      let x = fits_expr a (suc d) m _ f (rest (rest w)) in
      let y = fits_expr b (suc d) m _ f x.1 in
      let z = fits_expr c (suc d) m _ f y.1 in ((x.0, y.0, z.0), rest z.1)

  fits_exprs : (es : Exprs) (d n : ℕ) (l : List ℕ) → d + n ≡ deepest → Within deepest (levels_exprs es d l) → FitsExprs es n × Within deepest l
  fits_exprs (one_expr a) d n l e w = fits_expr a d n l e w
  fits_exprs (more_exprs a es) d n l e w = let x = fits_expr a d n _ e w in let y = fits_exprs es d n l e x.1 in ((x.0, y.0), y.1)

fits_exprsp : (a : List ExprP) (d n : ℕ) (l : List ℕ) → d + n ≡ deepest → Within deepest (levels_exprs_p a d l) → FitsArgs a n × Within deepest l
unfolding levels_exprs_p levels_expr_p
fits_exprsp [] d n l e w = (tt, w)
fits_exprsp (val a ∷ as') d n l e w = let x = fits_expr a d n _ e w in let y = fits_exprsp as' d n l e x.1 in ((x.0, y.0), y.1)
fits_exprsp (adr p z ∷ as') d n l e w =
    let x = opened d n (λ m. Unit {0}) _ e (top w) (λ m f. (tt, rest (rest (rest (rest w))))) in let y = fits_exprsp as' d n l e x.1 in ((x.0, y.0), y.1)

mutual
  unfolding levels_cmds

  fits_cmds : (c : Cmds) (d n : ℕ) (l : List ℕ) → d + n ≡ deepest → Within deepest (levels_cmds c d l) → FitsCmds c n × Within deepest l
  fits_cmds (last a) d n l e w = fits_stat a d n l e w
  fits_cmds (def_then a c) d n l e w = let x = fits_def a d n _ e w in let y = fits_cmds c d n l e (rest x.1) in ((x.0, y.0), y.1)
  fits_cmds (stat_then a c) d n l e w = let x = fits_stat a d n _ e w in let y = fits_cmds c d n l e (rest x.1) in ((x.0, y.0), y.1)

  fits_def : (a : Def) (d n : ℕ) (l : List ℕ) → d + n ≡ deepest → Within deepest (levels_def a d l) → FitsDef a n × Within deepest l
  fits_def (const p x t a) d n l e w = let y = fits_type t d n _ e (rest (rest w)) in let z = fits_expr a d n l e y.1 in ((y.0, z.0), z.1)
  fits_def (fun p x t ps a) d n l e w =
      let y = fits_type t d n _ e (rest (rest w)) in let v = fits_args ps d n _ e (rest y.1) in let z = fits_expr a d n l e v.1 in ((y.0, v.0, z.0), z.1)
  fits_def (fun_rec p x t ps a) d n l e w =
      let y = fits_type t d n _ e (rest (rest (rest w))) in let v = fits_args ps d n _ e (rest y.1) in let z = fits_expr a d n l e v.1 in ((y.0, v.0, z.0), z.1)
  fits_def (fun_block p x t ps b) d n l e w =
      let y = fits_type t d n _ e (rest (rest w)) in let v = fits_args ps d n _ e (rest y.1) in let z = fits_block_at b d n l e v.1 in ((y.0, v.0, z.0), z.1)
  fits_def (fun_rec_block p x t ps b) d n l e w =
      let y = fits_type t d n _ e (rest (rest (rest w))) in let v = fits_args ps d n _ e (rest y.1) in let z = fits_block_at b d n l e v.1 in ((y.0, v.0, z.0), z.1)
  fits_def (var p x t) d n l e w = fits_type t d n l e (rest (rest w))
  fits_def (proc p x ps b) d n l e w = let y = fits_argsp ps d n _ e (rest (rest (rest w))) in let z = fits_block_at b d n l e y.1 in ((y.0, z.0), z.1)
  fits_def (proc_rec p x ps b) d n l e w = let y = fits_argsp ps d n _ e (rest (rest (rest (rest w)))) in let z = fits_block_at b d n l e y.1 in ((y.0, z.0), z.1)

  fits_stat : (a : Stat) (d n : ℕ) (l : List ℕ) → d + n ≡ deepest → Within deepest (levels_stat a d l) → FitsStat a n × Within deepest l
  fits_stat (echo p a) d n l e w = fits_expr a d n l e (rest w)
  fits_stat (set p x a) d n l e w = fits_expr a d n l e (rest (rest w))
  fits_stat (if_stat p a b c) d n l e w =
      let x = fits_expr a d n _ e (rest w) in let y = fits_block_at b d n _ e x.1 in let z = fits_block_at c d n l e y.1 in ((x.0, y.0, z.0), z.1)
  fits_stat (while p a b) d n l e w = let x = fits_expr a d n _ e (rest w) in let y = fits_block_at b d n l e x.1 in ((x.0, y.0), y.1)
  fits_stat (call p x as') d n l e w = fits_exprsp as' d n l e (rest (rest w))
  fits_stat (return p a) d n l e w = fits_expr a d n l e (rest w)

  fits_block_at : (b : Block) (d n : ℕ) (l : List ℕ) → d + n ≡ deepest → Within deepest (levels_block b d l) → FitsBlock b n × Within deepest l
  fits_block_at (block p c) d n l e w = opened d n _ l e (top w) λ m f. let x = fits_cmds c (suc d) m _ f (rest w) in (x.0, rest x.1)

pub fits_64 : (b : Block) → Within deepest (levels b) → FitsBlock b 64
unfolding levels
fits_64 b w = (fits_block_at b 0 64 [] (omega arith) w).0
