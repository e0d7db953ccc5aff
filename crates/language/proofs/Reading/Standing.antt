-- What a tree keeps of its text, its names and numbers with their places: `InsideBlock b P` says that each of them has the property P.
use mathlib.Core.Path.{◌≡◌}
use mathlib.Core.List.{List, [], ◌∷◌}
use Prim.Native.Nat.{ℕ}
use lib.ListN.{drop}
use Rattle.language.specs.Syntax.{Arg, arg, ArgP, val_arg, var_arg, Expr, num, name, if_expr, and, or, app, abs, alloc, nth_expr, len, vset, Exprs, one_expr, more_exprs, ExprP, val, adr, Cmds, last, def_then, stat_then, Def, const, fun, fun_rec, fun_block, fun_rec_block, var, proc, proc_rec, Stat, echo, set, if_stat, while, call, return, Block, block}
use Rattle.language.specs.Words.{Word, number, named, place_word, word, front}

-- A word stands in a text: it is what begins there at its place.
pub record Stands (text : List ℕ) (w : Word) : Type 0 where
  pub byte : ℕ
  pub rest : List ℕ
  pub more : ℕ
  pub there : drop (place_word w) text ≡ byte ∷ rest
  pub begins : front (place_word w) byte rest ≡ word w more

-- The names and numbers of a tree.
unfoldable pub InsideArg : Arg → (Word → Type 0) → Type 0
InsideArg (arg x t) P = P (named x)

unfoldable pub InsideArgs : List Arg → (Word → Type 0) → Type 0
InsideArgs [] P = Unit {0}
InsideArgs (a ∷ b) P = InsideArg a P × InsideArgs b P

unfoldable pub InsideArgP : ArgP → (Word → Type 0) → Type 0
InsideArgP (val_arg x t) P = P (named x)
InsideArgP (var_arg x t) P = P (named x)

unfoldable pub InsideArgsP : List ArgP → (Word → Type 0) → Type 0
InsideArgsP [] P = Unit {0}
InsideArgsP (a ∷ b) P = InsideArgP a P × InsideArgsP b P

unfoldable mutual
  pub InsideExpr : Expr → (Word → Type 0) → Type 0
  InsideExpr (num p z) P = P (number p z)
  InsideExpr (name x) P = P (named x)
  InsideExpr (if_expr p e f g) P = InsideExpr e P × InsideExpr f P × InsideExpr g P
  InsideExpr (and p e f) P = InsideExpr e P × InsideExpr f P
  InsideExpr (or p e f) P = InsideExpr e P × InsideExpr f P
  InsideExpr (app p e a) P = InsideExpr e P × InsideExprs a P
  InsideExpr (abs p a e) P = InsideArgs a P × InsideExpr e P
  InsideExpr (alloc p t e) P = InsideExpr e P
  InsideExpr (nth_expr p e f) P = InsideExpr e P × InsideExpr f P
  InsideExpr (len p e) P = InsideExpr e P
  InsideExpr (vset p e f g) P = InsideExpr e P × InsideExpr f P × InsideExpr g P

  pub InsideExprs : Exprs → (Word → Type 0) → Type 0
  InsideExprs (one_expr e) P = InsideExpr e P
  InsideExprs (more_exprs e a) P = InsideExpr e P × InsideExprs a P

unfoldable pub InsideExprP : ExprP → (Word → Type 0) → Type 0
InsideExprP (val e) P = InsideExpr e P
InsideExprP (adr p x) P = P (named x)

unfoldable pub InsideExprsP : List ExprP → (Word → Type 0) → Type 0
InsideExprsP [] P = Unit {0}
InsideExprsP (a ∷ b) P = InsideExprP a P × InsideExprsP b P

unfoldable mutual
  pub InsideCmds : Cmds → (Word → Type 0) → Type 0
  InsideCmds (last a) P = InsideStat a P
  InsideCmds (def_then d c) P = InsideDef d P × InsideCmds c P
  InsideCmds (stat_then a c) P = InsideStat a P × InsideCmds c P

  pub InsideDef : Def → (Word → Type 0) → Type 0
  InsideDef (const p x t e) P = P (named x) × InsideExpr e P
  InsideDef (fun p x t a e) P = P (named x) × InsideArgs a P × InsideExpr e P
  InsideDef (fun_rec p x t a e) P = P (named x) × InsideArgs a P × InsideExpr e P
  InsideDef (fun_block p x t a b) P = P (named x) × InsideArgs a P × InsideBlock b P
  InsideDef (fun_rec_block p x t a b) P = P (named x) × InsideArgs a P × InsideBlock b P
  InsideDef (var p x t) P = P (named x)
  InsideDef (proc p x a b) P = P (named x) × InsideArgsP a P × InsideBlock b P
  InsideDef (proc_rec p x a b) P = P (named x) × InsideArgsP a P × InsideBlock b P

  pub InsideStat : Stat → (Word → Type 0) → Type 0
  InsideStat (echo p e) P = InsideExpr e P
  InsideStat (set p x e) P = P (named x) × InsideExpr e P
  InsideStat (if_stat p e b c) P = InsideExpr e P × InsideBlock b P × InsideBlock c P
  InsideStat (while p e b) P = InsideExpr e P × InsideBlock b P
  InsideStat (call p x a) P = P (named x) × InsideExprsP a P
  InsideStat (return p e) P = InsideExpr e P

  pub InsideBlock : Block → (Word → Type 0) → Type 0
  InsideBlock (block p c) P = InsideCmds c P
