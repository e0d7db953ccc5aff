-- When two trees agree but for byte places: they are made by the same lines of the grammar, with the same numbers, and with names that correspond, `N x y`.
-- With equality for `N` they agree in all but places; with another correspondence, in all but places and names. One constructor for each line of the grammar.
use Rattle.std.specs.Prelude.{◌∷◌}
use Rattle.language.specs.Library.{ℕ, ℤ, List, []}
use Rattle.language.specs.Syntax.{Name, at, TypeTree, bool, int, arrow, vec, TypeTrees, one_type, more_types, Arg, arg, ArgP, val_arg, var_arg, Expr, num, name, if_expr, and, or, app, abs, alloc, nth_expr, len, vset, Exprs, one_expr, more_exprs, ExprP, val, adr, Cmds, last, def_then, stat_then, Def, const, fun, fun_rec, fun_block, fun_rec_block, var, proc, proc_rec, Stat, echo, set, if_stat, while, call, return, Block, block}
use Rattle.language.specs.Grammar.{Sort, BLOCK, CMDS, DEF, STAT, TYPE, TYPES, ARG, ARGS, ARGP, ARGSP, EXPR, EXPRS, EXPRP, EXPRSP, TreeOf}

pub data Alike (N : Name → Name → Type 0) : (k : Sort) → TreeOf k → TreeOf k → Type 0 where
  -- BLOCK, CMDS
  a_block : {p q : ℕ} {c d : Cmds} → Alike N CMDS c d → Alike N BLOCK (block p c) (block q d)
  a_last : {a b : Stat} → Alike N STAT a b → Alike N CMDS (last a) (last b)
  a_def_then : {a b : Def} {c d : Cmds} → Alike N DEF a b → Alike N CMDS c d → Alike N CMDS (def_then a c) (def_then b d)
  a_stat_then : {a b : Stat} {c d : Cmds} → Alike N STAT a b → Alike N CMDS c d → Alike N CMDS (stat_then a c) (stat_then b d)
  -- DEF
  a_const : {p q i j : ℕ} {x y : Name} {t u : TypeTree} {e f : Expr} → N x y → Alike N TYPE t u → Alike N EXPR e f →
      Alike N DEF (const p (at i x) t e) (const q (at j y) u f)
  a_fun : {p q i j : ℕ} {x y : Name} {t u : TypeTree} {a b : List Arg} {e f : Expr} →
      N x y → Alike N TYPE t u → Alike N ARGS a b → Alike N EXPR e f →
      Alike N DEF (fun p (at i x) t a e) (fun q (at j y) u b f)
  a_fun_rec : {p q i j : ℕ} {x y : Name} {t u : TypeTree} {a b : List Arg} {e f : Expr} →
      N x y → Alike N TYPE t u → Alike N ARGS a b → Alike N EXPR e f →
      Alike N DEF (fun_rec p (at i x) t a e) (fun_rec q (at j y) u b f)
  a_fun_block : {p q i j : ℕ} {x y : Name} {t u : TypeTree} {a b : List Arg} {c d : Block} →
      N x y → Alike N TYPE t u → Alike N ARGS a b → Alike N BLOCK c d →
      Alike N DEF (fun_block p (at i x) t a c) (fun_block q (at j y) u b d)
  a_fun_rec_block : {p q i j : ℕ} {x y : Name} {t u : TypeTree} {a b : List Arg} {c d : Block} →
      N x y → Alike N TYPE t u → Alike N ARGS a b → Alike N BLOCK c d →
      Alike N DEF (fun_rec_block p (at i x) t a c) (fun_rec_block q (at j y) u b d)
  a_var : {p q i j : ℕ} {x y : Name} {t u : TypeTree} → N x y → Alike N TYPE t u → Alike N DEF (var p (at i x) t) (var q (at j y) u)
  a_proc : {p q i j : ℕ} {x y : Name} {a b : List ArgP} {c d : Block} → N x y → Alike N ARGSP a b → Alike N BLOCK c d →
      Alike N DEF (proc p (at i x) a c) (proc q (at j y) b d)
  a_proc_rec : {p q i j : ℕ} {x y : Name} {a b : List ArgP} {c d : Block} → N x y → Alike N ARGSP a b → Alike N BLOCK c d →
      Alike N DEF (proc_rec p (at i x) a c) (proc_rec q (at j y) b d)
  -- TYPE, TYPES
  a_bool : {p q : ℕ} → Alike N TYPE (bool p) (bool q)
  a_int : {p q : ℕ} → Alike N TYPE (int p) (int q)
  a_arrow : {p q : ℕ} {a b : TypeTrees} {t u : TypeTree} → Alike N TYPES a b → Alike N TYPE t u → Alike N TYPE (arrow p a t) (arrow q b u)
  a_vec : {p q : ℕ} {t u : TypeTree} → Alike N TYPE t u → Alike N TYPE (vec p t) (vec q u)
  a_one_type : {t u : TypeTree} → Alike N TYPE t u → Alike N TYPES (one_type t) (one_type u)
  a_more_types : {t u : TypeTree} {a b : TypeTrees} → Alike N TYPE t u → Alike N TYPES a b → Alike N TYPES (more_types t a) (more_types u b)
  -- ARG, ARGS, ARGP, ARGSP: no parameters only behind some
  a_arg : {i j : ℕ} {x y : Name} {t u : TypeTree} → N x y → Alike N TYPE t u → Alike N ARG (arg (at i x) t) (arg (at j y) u)
  a_no_args : Alike N ARGS [] []
  a_args : {a b : Arg} {c d : List Arg} → Alike N ARG a b → Alike N ARGS c d → Alike N ARGS (a ∷ c) (b ∷ d)
  a_val_arg : {i j : ℕ} {x y : Name} {t u : TypeTree} → N x y → Alike N TYPE t u → Alike N ARGP (val_arg (at i x) t) (val_arg (at j y) u)
  a_var_arg : {i j : ℕ} {x y : Name} {t u : TypeTree} → N x y → Alike N TYPE t u → Alike N ARGP (var_arg (at i x) t) (var_arg (at j y) u)
  a_no_argsp : Alike N ARGSP [] []
  a_argsp : {a b : ArgP} {c d : List ArgP} → Alike N ARGP a b → Alike N ARGSP c d → Alike N ARGSP (a ∷ c) (b ∷ d)
  -- STAT
  a_echo : {p q : ℕ} {e f : Expr} → Alike N EXPR e f → Alike N STAT (echo p e) (echo q f)
  a_set : {p q i j : ℕ} {x y : Name} {e f : Expr} → N x y → Alike N EXPR e f → Alike N STAT (set p (at i x) e) (set q (at j y) f)
  a_if_stat : {p q : ℕ} {e f : Expr} {a b c d : Block} → Alike N EXPR e f → Alike N BLOCK a b → Alike N BLOCK c d →
      Alike N STAT (if_stat p e a c) (if_stat q f b d)
  a_while : {p q : ℕ} {e f : Expr} {a b : Block} → Alike N EXPR e f → Alike N BLOCK a b → Alike N STAT (while p e a) (while q f b)
  a_call : {p q i j : ℕ} {x y : Name} {a b : List ExprP} → N x y → Alike N EXPRSP a b → Alike N STAT (call p (at i x) a) (call q (at j y) b)
  a_return : {p q : ℕ} {e f : Expr} → Alike N EXPR e f → Alike N STAT (return p e) (return q f)
  -- EXPRP, EXPRSP
  a_val : {e f : Expr} → Alike N EXPR e f → Alike N EXPRP (val e) (val f)
  a_adr : {p q i j : ℕ} {x y : Name} → N x y → Alike N EXPRP (adr p (at i x)) (adr q (at j y))
  a_no_exprsp : Alike N EXPRSP [] []
  a_exprsp : {a b : ExprP} {c d : List ExprP} → Alike N EXPRP a b → Alike N EXPRSP c d → Alike N EXPRSP (a ∷ c) (b ∷ d)
  -- EXPR, EXPRS: equal numbers
  a_num : {p q : ℕ} {z : ℤ} → Alike N EXPR (num p z) (num q z)
  a_name : {i j : ℕ} {x y : Name} → N x y → Alike N EXPR (name (at i x)) (name (at j y))
  a_if_expr : {p q : ℕ} {a b c d e f : Expr} → Alike N EXPR a b → Alike N EXPR c d → Alike N EXPR e f →
      Alike N EXPR (if_expr p a c e) (if_expr q b d f)
  a_and : {p q : ℕ} {a b c d : Expr} → Alike N EXPR a b → Alike N EXPR c d → Alike N EXPR (and p a c) (and q b d)
  a_or : {p q : ℕ} {a b c d : Expr} → Alike N EXPR a b → Alike N EXPR c d → Alike N EXPR (or p a c) (or q b d)
  a_app : {p q : ℕ} {e f : Expr} {a b : Exprs} → Alike N EXPR e f → Alike N EXPRS a b → Alike N EXPR (app p e a) (app q f b)
  a_abs : {p q : ℕ} {a b : List Arg} {e f : Expr} → Alike N ARGS a b → Alike N EXPR e f → Alike N EXPR (abs p a e) (abs q b f)
  a_alloc : {p q : ℕ} {t u : TypeTree} {e f : Expr} → Alike N TYPE t u → Alike N EXPR e f → Alike N EXPR (alloc p t e) (alloc q u f)
  a_nth : {p q : ℕ} {a b c d : Expr} → Alike N EXPR a b → Alike N EXPR c d → Alike N EXPR (nth_expr p a c) (nth_expr q b d)
  a_len : {p q : ℕ} {e f : Expr} → Alike N EXPR e f → Alike N EXPR (len p e) (len q f)
  a_vset : {p q : ℕ} {a b c d e f : Expr} → Alike N EXPR a b → Alike N EXPR c d → Alike N EXPR e f → Alike N EXPR (vset p a c e) (vset q b d f)
  a_one_expr : {e f : Expr} → Alike N EXPR e f → Alike N EXPRS (one_expr e) (one_expr f)
  a_more_exprs : {e f : Expr} {a b : Exprs} → Alike N EXPR e f → Alike N EXPRS a b → Alike N EXPRS (more_exprs e a) (more_exprs f b)
