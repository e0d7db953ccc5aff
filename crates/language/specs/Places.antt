-- The byte place of each node: its first word's; a parameter's is its name's.
use Rattle.language.specs.Library.{ℕ}
use Rattle.language.specs.Syntax.{Ident, at, ArgP, val_arg, var_arg, Expr, num, name, if_expr, and, or, app, abs, alloc, nth_expr, len, vset, ExprP, val, adr, Def, const, fun, fun_rec, fun_block, fun_rec_block, var, proc, proc_rec, Stat, echo, set, if_stat, while, call, return, Block, block}

abbrev pub place_ident : Ident → ℕ
place_ident (at p x) = p

abbrev pub place_expr : Expr → ℕ
place_expr = elim [ num p n ↦ p | name (at p x) ↦ p | if_expr p a b c ↦ p | and p a b ↦ p | or p a b ↦ p | app p f es ↦ p | abs p ps e ↦ p | alloc p t e ↦ p | nth_expr p a b ↦ p | len p a ↦ p | vset p a b c ↦ p ]

abbrev pub place_arg : ExprP → ℕ
place_arg = elim [ val e ↦ place_expr e | adr p x ↦ p ]

abbrev pub place_param : ArgP → ℕ
place_param = elim [ val_arg (at p x) t ↦ p | var_arg (at p x) t ↦ p ]

abbrev pub place_def : Def → ℕ
place_def = elim [ const p x t e ↦ p | fun p x t ps e ↦ p | fun_rec p x t ps e ↦ p | fun_block p x t ps b ↦ p | fun_rec_block p x t ps b ↦ p | var p x t ↦ p | proc p x ps b ↦ p | proc_rec p x ps b ↦ p ]

abbrev pub place_stat : Stat → ℕ
place_stat = elim [ echo p e ↦ p | set p x e ↦ p | if_stat p e a b ↦ p | while p e b ↦ p | call p x as' ↦ p | return p e ↦ p ]

abbrev pub place_block : Block → ℕ
place_block (block p cs) = p
