-- Levels (document 01): a block, a parenthesised expression, an (adr x), an abstraction to the end of its body, a function type and a vec type each open one level.
-- Parameter lists open none. A tree fits n levels when it opens no more than n, one inside another.
use Prim.Native.Nat.{ℕ}
use mathlib.Core.List.{List, [], ◌∷◌}
use Rattle.language.specs.Syntax.{TypeTree, bool, int, arrow, vec, TypeTrees, one_type, more_types, ArgP, val_arg, var_arg, Expr, num, name, if_expr, and, or, app, abs, alloc, nth_expr, len, vset, Exprs, one_expr, more_exprs, ExprP, val, adr, Cmds, last, def_then, stat_then, Def, const, fun, fun_rec, fun_block, fun_rec_block, var, proc, proc_rec, Stat, echo, set, if_stat, while, call, return, Block, block}
use Rattle.language.specs.Types.{values}
use Rattle.language.specs.Claims.{Opened}

abbrev mutual
  pub FitsType : TypeTree → ℕ → Type 0
  FitsType (bool p) n = Unit {0}
  FitsType (int p) n = Unit {0}
  FitsType (arrow p ts t) n = Opened n λ m. FitsTypes ts m × FitsType t m
  FitsType (vec p t) n = Opened n λ m. FitsType t m

  pub FitsTypes : TypeTrees → ℕ → Type 0
  FitsTypes (one_type t) n = FitsType t n
  FitsTypes (more_types t ts) n = FitsType t n × FitsTypes ts n

abbrev pub FitsParam : ArgP → ℕ → Type 0
FitsParam (val_arg x t) n = FitsType t n
FitsParam (var_arg x t) n = FitsType t n

abbrev pub FitsParams : List ArgP → ℕ → Type 0
FitsParams [] n = Unit {0}
FitsParams (a ∷ ps) n = FitsParam a n × FitsParams ps n

abbrev mutual
  pub FitsExpr : Expr → ℕ → Type 0
  FitsExpr (num p k) n = Unit {0}
  FitsExpr (name x) n = Unit {0}
  FitsExpr (if_expr p a b c) n = Opened n λ m. FitsExpr a m × FitsExpr b m × FitsExpr c m
  FitsExpr (and p a b) n = Opened n λ m. FitsExpr a m × FitsExpr b m
  FitsExpr (or p a b) n = Opened n λ m. FitsExpr a m × FitsExpr b m
  FitsExpr (app p f es) n = Opened n λ m. FitsExpr f m × FitsExprs es m
  FitsExpr (abs p ps e) n = Opened n λ m. FitsParams (values ps) m × FitsExpr e m
  FitsExpr (alloc p t e) n = Opened n λ m. FitsType t m × FitsExpr e m
  FitsExpr (nth_expr p a b) n = Opened n λ m. FitsExpr a m × FitsExpr b m
  FitsExpr (len p a) n = Opened n λ m. FitsExpr a m
  FitsExpr (vset p a b c) n = Opened n λ m. FitsExpr a m × FitsExpr b m × FitsExpr c m

  pub FitsExprs : Exprs → ℕ → Type 0
  FitsExprs (one_expr e) n = FitsExpr e n
  FitsExprs (more_exprs e es) n = FitsExpr e n × FitsExprs es n

abbrev pub FitsArg : ExprP → ℕ → Type 0
FitsArg (val e) n = FitsExpr e n
FitsArg (adr p x) n = Opened n λ m. Unit {0}

abbrev pub FitsArgs : List ExprP → ℕ → Type 0
FitsArgs [] n = Unit {0}
FitsArgs (a ∷ as') n = FitsArg a n × FitsArgs as' n

abbrev mutual
  pub FitsBlock : Block → ℕ → Type 0
  FitsBlock (block p cs) n = Opened n λ m. FitsCmds cs m

  pub FitsCmds : Cmds → ℕ → Type 0
  FitsCmds (def_then d cs) n = FitsDef d n × FitsCmds cs n
  FitsCmds (stat_then c cs) n = FitsStat c n × FitsCmds cs n
  FitsCmds (last c) n = FitsStat c n

  pub FitsDef : Def → ℕ → Type 0
  FitsDef (const p x t e) n = FitsType t n × FitsExpr e n
  FitsDef (fun p x t ps e) n = FitsType t n × FitsParams (values ps) n × FitsExpr e n
  FitsDef (fun_rec p x t ps e) n = FitsType t n × FitsParams (values ps) n × FitsExpr e n
  FitsDef (fun_block p x t ps b) n = FitsType t n × FitsParams (values ps) n × FitsBlock b n
  FitsDef (fun_rec_block p x t ps b) n = FitsType t n × FitsParams (values ps) n × FitsBlock b n
  FitsDef (var p x t) n = FitsType t n
  FitsDef (proc p x ps b) n = FitsParams ps n × FitsBlock b n
  FitsDef (proc_rec p x ps b) n = FitsParams ps n × FitsBlock b n

  pub FitsStat : Stat → ℕ → Type 0
  FitsStat (echo p e) n = FitsExpr e n
  FitsStat (set p x e) n = FitsExpr e n
  FitsStat (if_stat p e a b) n = FitsExpr e n × FitsBlock a n × FitsBlock b n
  FitsStat (while p e b) n = FitsExpr e n × FitsBlock b n
  FitsStat (call p x as') n = FitsArgs as' n
  FitsStat (return p e) n = FitsExpr e n
