-- A reader that builds the tree, by descent over the grammar's lines; `level n` goes n calls down. Nothing here is believed: the laws tie it to the grammar.
use mathlib.Core.List.{List, [], ◌∷◌}
use mathlib.Core.Bool.{cond}
use Prim.Native.Nat.{ℕ, zero, suc, ◌*◌}
use lib.Dec.{eqb}
use lib.ListN.{length}
use Rattle.language.specs.Syntax.{Ident, TypeTree, bool, int, arrow, vec, TypeTrees, one_type, more_types, Arg, arg, ArgP, val_arg, var_arg, Expr, num, name, if_expr, and, or, app, abs, alloc, nth_expr, len, vset, Exprs, one_expr, more_exprs, ExprP, val, adr, Cmds, last, def_then, stat_then, Def, const, fun, fun_rec, fun_block, fun_rec_block, var, proc, proc_rec, Stat, echo, set, if_stat, while, call, return, Block, block}
use Rattle.language.specs.Words.{Mark, k_lbr, k_rbr, k_lpar, k_rpar, k_semi, k_colon, k_comma, k_star, k_arrow, k_const, k_fun, k_rec, k_var, k_proc, k_echo, k_set, k_if, k_while, k_call, k_return, kif, kand, kor, kbool, kint, kvar, kadr, kvec, kalloc, knth, klen, kvset, Word, mark, number, named}
use Rattle.language.proofs.Reading.Machine.{code}

-- nothing read, or a value and the words that are left
pub data Got (A : Type 0) : Type 0 where
  miss : Got A
  got : A → List Word → Got A

abbrev pub and_then : {A B : Type 0} → Got A → (A → List Word → Got B) → Got B
and_then miss f = miss
and_then (got a r) f = f a r

abbrev pub or_else : {A : Type 0} → Got A → Got A → Got A
or_else miss b = b
or_else (got a r) b = got a r

-- a word that must stand next
abbrev pub expect : Mark → List Word → Got ℕ
expect m [] = miss
expect m (mark n p ∷ ts) = cond (eqb (code m) (code n)) (got p ts) miss
expect m (number p z ∷ ts) = miss
expect m (named x ∷ ts) = miss

abbrev pub ident : List Word → Got Ident
ident [] = miss
ident (mark n p ∷ ts) = miss
ident (number p z ∷ ts) = miss
ident (named x ∷ ts) = got x ts

abbrev pub single : List Word → Got Expr
single [] = miss
single (mark n p ∷ ts) = miss
single (number p z ∷ ts) = got (num p z) ts
single (named x ∷ ts) = got (name x) ts

pub record Level : Type 0 where
  pub type : List Word → Got TypeTree
  pub types : List Word → Got TypeTrees
  pub args : List Word → Got (List Arg)
  pub argsp : List Word → Got (List ArgP)
  pub expr : List Word → Got Expr
  pub exprs : List Word → Got Exprs
  pub exprsp : List Word → Got (List ExprP)
  pub cmds : List Word → Got Cmds
  pub block : List Word → Got Block

-- after a type's parenthesis
abbrev pub type_paren_of : Level → ℕ → List Word → Got TypeTree
type_paren_of L p us =
    or_else (and_then (L.types us) λ a vs. and_then (expect k_arrow vs) λ i ws. and_then (L.type ws) λ t xs. and_then (expect k_rpar xs) λ j r. got (arrow p a t) r)
    (and_then (expect kvec us) λ i vs. and_then (L.type vs) λ t ws. and_then (expect k_rpar ws) λ j r. got (vec p t) r)

abbrev pub type_of : Level → List Word → Got TypeTree
type_of L ts =
    or_else (and_then (expect kbool ts) λ p r. got (bool p) r)
    (or_else (and_then (expect kint ts) λ p r. got (int p) r)
    (and_then (expect k_lpar ts) λ p us. type_paren_of L p us))

abbrev pub types_of : Level → List Word → Got TypeTrees
types_of L ts = and_then (L.type ts) λ t us. or_else (and_then (expect k_star us) λ i vs. and_then (L.types vs) λ a r. got (more_types t a) r) (got (one_type t) us)

abbrev pub arg_of : Level → List Word → Got Arg
arg_of L ts = and_then (ident ts) λ x us. and_then (expect k_colon us) λ i vs. and_then (L.type vs) λ t r. got (arg x t) r

abbrev pub args_of : Level → List Word → Got (List Arg)
args_of L ts = and_then (arg_of L ts) λ a us. or_else (and_then (expect k_comma us) λ i vs. and_then (L.args vs) λ b r. got (a ∷ b) r) (got (a ∷ []) us)

abbrev pub argp_of : Level → List Word → Got ArgP
argp_of L ts =
    or_else (and_then (ident ts) λ x us. and_then (expect k_colon us) λ i vs. and_then (L.type vs) λ t r. got (val_arg x t) r)
    (and_then (expect kvar ts) λ j ws. and_then (ident ws) λ x us. and_then (expect k_colon us) λ i vs. and_then (L.type vs) λ t r. got (var_arg x t) r)

abbrev pub argsp_of : Level → List Word → Got (List ArgP)
argsp_of L ts = and_then (argp_of L ts) λ a us. or_else (and_then (expect k_comma us) λ i vs. and_then (L.argsp vs) λ b r. got (a ∷ b) r) (got (a ∷ []) us)

-- after a parenthesis
abbrev pub paren_of : Level → ℕ → List Word → Got Expr
paren_of L p ts =
    or_else (and_then (L.expr ts) λ e us. and_then (L.exprs us) λ a vs. and_then (expect k_rpar vs) λ j r. got (app p e a) r)
    (or_else (and_then (expect kif ts) λ i us. and_then (L.expr us) λ e vs. and_then (L.expr vs) λ f ws. and_then (L.expr ws) λ g xs. and_then (expect k_rpar xs) λ j r. got (if_expr p e f g) r)
    (or_else (and_then (expect kand ts) λ i us. and_then (L.expr us) λ e vs. and_then (L.expr vs) λ f ws. and_then (expect k_rpar ws) λ j r. got (and p e f) r)
    (or_else (and_then (expect kor ts) λ i us. and_then (L.expr us) λ e vs. and_then (L.expr vs) λ f ws. and_then (expect k_rpar ws) λ j r. got (or p e f) r)
    (or_else (and_then (expect kalloc ts) λ i us. and_then (L.type us) λ t vs. and_then (L.expr vs) λ e ws. and_then (expect k_rpar ws) λ j r. got (alloc p t e) r)
    (or_else (and_then (expect knth ts) λ i us. and_then (L.expr us) λ e vs. and_then (L.expr vs) λ f ws. and_then (expect k_rpar ws) λ j r. got (nth_expr p e f) r)
    (or_else (and_then (expect klen ts) λ i us. and_then (L.expr us) λ e vs. and_then (expect k_rpar vs) λ j r. got (len p e) r)
    (and_then (expect kvset ts) λ i us. and_then (L.expr us) λ e vs. and_then (L.expr vs) λ f ws. and_then (L.expr ws) λ g xs. and_then (expect k_rpar xs) λ j r. got (vset p e f g) r)))))))

abbrev pub expr_of : Level → List Word → Got Expr
expr_of L ts =
    or_else (single ts)
    (or_else (and_then (expect k_lpar ts) λ p us. paren_of L p us)
    (and_then (expect k_lbr ts) λ p us. and_then (L.args us) λ a vs. and_then (expect k_rbr vs) λ i ws. and_then (L.expr ws) λ e r. got (abs p a e) r))

abbrev pub exprs_of : Level → List Word → Got Exprs
exprs_of L ts = and_then (L.expr ts) λ e us. or_else (and_then (L.exprs us) λ a r. got (more_exprs e a) r) (got (one_expr e) us)

abbrev pub exprp_of : Level → List Word → Got ExprP
exprp_of L ts =
    or_else (and_then (L.expr ts) λ e r. got (val e) r)
    (and_then (expect k_lpar ts) λ p us. and_then (expect kadr us) λ i vs. and_then (ident vs) λ x ws. and_then (expect k_rpar ws) λ j r. got (adr p x) r)

abbrev pub exprsp_of : Level → List Word → Got (List ExprP)
exprsp_of L ts = and_then (exprp_of L ts) λ a us. or_else (and_then (L.exprsp us) λ b r. got (a ∷ b) r) (got (a ∷ []) us)

abbrev pub stat_of : Level → List Word → Got Stat
stat_of L ts =
    or_else (and_then (expect k_echo ts) λ p us. and_then (L.expr us) λ e r. got (echo p e) r)
    (or_else (and_then (expect k_set ts) λ p us. and_then (ident us) λ x vs. and_then (L.expr vs) λ e r. got (set p x e) r)
    (or_else (and_then (expect k_if ts) λ p us. and_then (L.expr us) λ e vs. and_then (L.block vs) λ b ws. and_then (L.block ws) λ c r. got (if_stat p e b c) r)
    (or_else (and_then (expect k_while ts) λ p us. and_then (L.expr us) λ e vs. and_then (L.block vs) λ b r. got (while p e b) r)
    (and_then (expect k_call ts) λ p us. and_then (ident us) λ x vs. and_then (L.exprsp vs) λ a r. got (call p x a) r))))

-- after FUN or FUN REC, with an expression or with a block; after PROC or PROC REC
abbrev pub fun_of : Level → (Ident → TypeTree → List Arg → Expr → Def) → (Ident → TypeTree → List Arg → Block → Def) → List Word → Got Def
fun_of L make commands ts =
    and_then (ident ts) λ x us. and_then (L.type us) λ t vs. and_then (expect k_lbr vs) λ i ws. and_then (L.args ws) λ a xs. and_then (expect k_rbr xs) λ j ys.
    or_else (and_then (L.expr ys) λ e r. got (make x t a e) r) (and_then (L.block ys) λ b r. got (commands x t a b) r)

abbrev pub proc_of : Level → (Ident → List ArgP → Block → Def) → List Word → Got Def
proc_of L make ts =
    and_then (ident ts) λ x us. and_then (expect k_lbr us) λ i ws. and_then (L.argsp ws) λ a xs. and_then (expect k_rbr xs) λ j ys. and_then (L.block ys) λ b r. got (make x a b) r

abbrev pub def_of : Level → List Word → Got Def
def_of L ts =
    or_else (and_then (expect k_const ts) λ p us. and_then (ident us) λ x vs. and_then (L.type vs) λ t ws. and_then (L.expr ws) λ e r. got (const p x t e) r)
    (or_else (and_then (expect k_fun ts) λ p us. or_else (and_then (expect k_rec us) λ i vs. fun_of L (fun_rec p) (fun_rec_block p) vs) (fun_of L (fun p) (fun_block p) us))
    (or_else (and_then (expect k_var ts) λ p us. and_then (ident us) λ x vs. and_then (L.type vs) λ t r. got (var p x t) r)
    (and_then (expect k_proc ts) λ p us. or_else (and_then (expect k_rec us) λ i vs. proc_of L (proc_rec p) vs) (proc_of L (proc p) us))))

abbrev pub cmds_of : Level → List Word → Got Cmds
cmds_of L ts =
    or_else (and_then (stat_of L ts) λ a us. or_else (and_then (expect k_semi us) λ i vs. and_then (L.cmds vs) λ c r. got (stat_then a c) r) (got (last a) us))
    (or_else (and_then (def_of L ts) λ d us. and_then (expect k_semi us) λ i vs. and_then (L.cmds vs) λ c r. got (def_then d c) r)
    (and_then (expect k_return ts) λ p us. and_then (L.expr us) λ e r. got (last (return p e)) r))

abbrev pub block_of : Level → List Word → Got Block
block_of L ts = and_then (expect k_lbr ts) λ p us. and_then (L.cmds us) λ c vs. and_then (expect k_rbr vs) λ i r. got (block p c) r

unfoldable pub descent : ℕ → Level
descent zero =
    record
    { type = λ ts. miss; types = λ ts. miss; args = λ ts. miss; argsp = λ ts. miss; expr = λ ts. miss; exprs = λ ts. miss; exprsp = λ ts. miss; cmds = λ ts. miss; block = λ ts. miss }
descent (suc n) =
    record {
      type = type_of (descent n);
      types = types_of (descent n);
      args = args_of (descent n);
      argsp = argsp_of (descent n);
      expr = expr_of (descent n);
      exprs = exprs_of (descent n);
      exprsp = exprsp_of (descent n);
      cmds = cmds_of (descent n);
      block = block_of (descent n);
    }

-- deep enough for so many words
abbrev pub tree_of : List Word → Got Block
tree_of ts = (descent (4 * length ts)).block ts
