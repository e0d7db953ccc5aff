-- The words of a tree, at no places: those that are read as the tree are these, and trees that agree have the same.
use mathlib.Core.Path.{◌≡◌, refl, sym, ◌∙◌}
use mathlib.Core.List.{List, [], ◌∷◌, map}
use lib.ListN.{drop}
use Rattle.language.specs.Syntax.{at, TypeTree, bool, int, arrow, vec, TypeTrees, one_type, more_types, Arg, arg, ArgP, val_arg, var_arg, Expr, num, name, if_expr, and, or, app, abs, alloc, nth_expr, len, vset, Exprs, one_expr, more_exprs, ExprP, val, adr, Cmds, last, def_then, stat_then, Def, const, fun, fun_rec, fun_block, fun_rec_block, var, proc, proc_rec, Stat, echo, set, if_stat, while, call, return, Block, block}
use Rattle.language.specs.Words.{k_lbr, k_rbr, k_lpar, k_rpar, k_semi, k_colon, k_comma, k_star, k_arrow, k_const, k_fun, k_rec, k_var, k_proc, k_echo, k_set, k_if, k_while, k_call, k_return, kif, kand, kor, kbool, kint, kvar, kadr, kvec, kalloc, knth, klen, kvset, Mark, Word, mark, number, named}
use Rattle.language.specs.Grammar.{Sort, BLOCK, CMDS, DEF, STAT, TYPE, TYPES, ARG, ARGS, ARGP, ARGSP, EXPR, EXPRS, EXPRP, EXPRSP, TreeOf, Reads, r_block, r_last, r_def_then, r_stat_then, r_return, r_const, r_fun, r_fun_rec, r_fun_block, r_fun_rec_block, r_var, r_proc, r_proc_rec, r_bool, r_int, r_arrow, r_vec, r_one_type, r_more_types, r_arg, r_one_arg, r_more_args, r_val_arg, r_var_arg, r_one_argp, r_more_argsp, r_echo, r_set, r_if_stat, r_while, r_call, r_one_exprp, r_more_exprsp, r_val, r_adr, r_num, r_name, r_if_expr, r_and, r_or, r_app, r_abs, r_alloc, r_nth, r_len, r_vset, r_one_expr, r_more_exprs}
use Rattle.renaming.specs.Alike.{Alike, a_block, a_last, a_def_then, a_stat_then, a_const, a_fun, a_fun_rec, a_fun_block, a_fun_rec_block, a_var, a_proc, a_proc_rec, a_bool, a_int, a_arrow, a_vec, a_one_type, a_more_types, a_arg, a_no_args, a_args, a_val_arg, a_var_arg, a_no_argsp, a_argsp, a_echo, a_set, a_if_stat, a_while, a_call, a_return, a_val, a_adr, a_no_exprsp, a_exprsp, a_num, a_name, a_if_expr, a_and, a_or, a_app, a_abs, a_alloc, a_nth, a_len, a_vset, a_one_expr, a_more_exprs}
use Rattle.house_form.proofs.Back.{bare}

abbrev m : Mark → Word
m k = mark k 0

-- the words of a tree before others; parameters each behind a comma, of which the first is left out
unfoldable mutual
  type_words : TypeTree → List Word → List Word
  type_words (bool p) l = m kbool ∷ l
  type_words (int p) l = m kint ∷ l
  type_words (arrow p a t) l = m k_lpar ∷ types_words a (m k_arrow ∷ type_words t (m k_rpar ∷ l))
  type_words (vec p t) l = m k_lpar ∷ m kvec ∷ type_words t (m k_rpar ∷ l)

  types_words : TypeTrees → List Word → List Word
  types_words (one_type t) l = type_words t l
  types_words (more_types t a) l = type_words t (m k_star ∷ types_words a l)

unfoldable arg_words : Arg → List Word → List Word
arg_words (arg (at p x) t) l = named (at 0 x) ∷ m k_colon ∷ type_words t l

unfoldable args_words : List Arg → List Word → List Word
args_words [] l = l
args_words (a ∷ b) l = m k_comma ∷ arg_words a (args_words b l)

unfoldable argp_words : ArgP → List Word → List Word
argp_words (val_arg (at p x) t) l = named (at 0 x) ∷ m k_colon ∷ type_words t l
argp_words (var_arg (at p x) t) l = m kvar ∷ named (at 0 x) ∷ m k_colon ∷ type_words t l

unfoldable argsp_words : List ArgP → List Word → List Word
argsp_words [] l = l
argsp_words (a ∷ b) l = m k_comma ∷ argp_words a (argsp_words b l)

unfoldable mutual
  expr_words : Expr → List Word → List Word
  expr_words (num p z) l = number 0 z ∷ l
  expr_words (name (at p x)) l = named (at 0 x) ∷ l
  expr_words (if_expr p e f g) l = m k_lpar ∷ m kif ∷ expr_words e (expr_words f (expr_words g (m k_rpar ∷ l)))
  expr_words (and p e f) l = m k_lpar ∷ m kand ∷ expr_words e (expr_words f (m k_rpar ∷ l))
  expr_words (or p e f) l = m k_lpar ∷ m kor ∷ expr_words e (expr_words f (m k_rpar ∷ l))
  expr_words (app p e a) l = m k_lpar ∷ expr_words e (exprs_words a (m k_rpar ∷ l))
  expr_words (abs p a e) l = m k_lbr ∷ drop 1 (args_words a (m k_rbr ∷ expr_words e l))
  expr_words (alloc p t e) l = m k_lpar ∷ m kalloc ∷ type_words t (expr_words e (m k_rpar ∷ l))
  expr_words (nth_expr p e f) l = m k_lpar ∷ m knth ∷ expr_words e (expr_words f (m k_rpar ∷ l))
  expr_words (len p e) l = m k_lpar ∷ m klen ∷ expr_words e (m k_rpar ∷ l)
  expr_words (vset p e f g) l = m k_lpar ∷ m kvset ∷ expr_words e (expr_words f (expr_words g (m k_rpar ∷ l)))

  exprs_words : Exprs → List Word → List Word
  exprs_words (one_expr e) l = expr_words e l
  exprs_words (more_exprs e a) l = expr_words e (exprs_words a l)

unfoldable exprp_words : ExprP → List Word → List Word
exprp_words (val e) l = expr_words e l
exprp_words (adr p (at q x)) l = m k_lpar ∷ m kadr ∷ named (at 0 x) ∷ m k_rpar ∷ l

unfoldable exprsp_words : List ExprP → List Word → List Word
exprsp_words [] l = l
exprsp_words (a ∷ b) l = exprp_words a (exprsp_words b l)

unfoldable mutual
  cmds_words : Cmds → List Word → List Word
  cmds_words (last a) l = stat_words a l
  cmds_words (def_then d c) l = def_words d (m k_semi ∷ cmds_words c l)
  cmds_words (stat_then a c) l = stat_words a (m k_semi ∷ cmds_words c l)

  def_words : Def → List Word → List Word
  def_words (const p (at q x) t e) l = m k_const ∷ named (at 0 x) ∷ type_words t (expr_words e l)
  def_words (fun p (at q x) t a e) l = m k_fun ∷ named (at 0 x) ∷ type_words t (m k_lbr ∷ drop 1 (args_words a (m k_rbr ∷ expr_words e l)))
  def_words (fun_rec p (at q x) t a e) l = m k_fun ∷ m k_rec ∷ named (at 0 x) ∷ type_words t (m k_lbr ∷ drop 1 (args_words a (m k_rbr ∷ expr_words e l)))
  def_words (fun_block p (at q x) t a b) l = m k_fun ∷ named (at 0 x) ∷ type_words t (m k_lbr ∷ drop 1 (args_words a (m k_rbr ∷ block_words b l)))
  def_words (fun_rec_block p (at q x) t a b) l = m k_fun ∷ m k_rec ∷ named (at 0 x) ∷ type_words t (m k_lbr ∷ drop 1 (args_words a (m k_rbr ∷ block_words b l)))
  def_words (var p (at q x) t) l = m k_var ∷ named (at 0 x) ∷ type_words t l
  def_words (proc p (at q x) a b) l = m k_proc ∷ named (at 0 x) ∷ m k_lbr ∷ drop 1 (argsp_words a (m k_rbr ∷ block_words b l))
  def_words (proc_rec p (at q x) a b) l = m k_proc ∷ m k_rec ∷ named (at 0 x) ∷ m k_lbr ∷ drop 1 (argsp_words a (m k_rbr ∷ block_words b l))

  stat_words : Stat → List Word → List Word
  stat_words (echo p e) l = m k_echo ∷ expr_words e l
  stat_words (set p (at q x) e) l = m k_set ∷ named (at 0 x) ∷ expr_words e l
  stat_words (if_stat p e b c) l = m k_if ∷ expr_words e (block_words b (block_words c l))
  stat_words (while p e b) l = m k_while ∷ expr_words e (block_words b l)
  stat_words (call p (at q x) a) l = m k_call ∷ named (at 0 x) ∷ exprsp_words a l
  stat_words (return p e) l = m k_return ∷ expr_words e l

  block_words : Block → List Word → List Word
  block_words (block p c) l = m k_lbr ∷ cmds_words c (m k_rbr ∷ l)

abbrev words_of_tree : (k : Sort) → TreeOf k → List Word → List Word
words_of_tree BLOCK = block_words
words_of_tree CMDS = cmds_words
words_of_tree DEF = def_words
words_of_tree STAT = stat_words
words_of_tree TYPE = type_words
words_of_tree TYPES = types_words
words_of_tree ARG = arg_words
words_of_tree ARGS = args_words
words_of_tree ARGP = argp_words
words_of_tree ARGSP = argsp_words
words_of_tree EXPR = expr_words
words_of_tree EXPRS = exprs_words
words_of_tree EXPRP = exprp_words
words_of_tree EXPRSP = exprsp_words

-- trees that agree have the same words
same_words : {k : Sort} {e f : TreeOf k} → Alike ◌≡◌ k e f → (l : List Word) → words_of_tree k e l ≡ words_of_tree k f l
unfolding type_words arg_words args_words argp_words argsp_words expr_words exprp_words exprsp_words cmds_words
same_words (a_block h) ws = rw (same_words h)
same_words (a_last h) ws = rw (same_words h)
same_words (a_def_then h k) ws = rw (same_words h, same_words k)
same_words (a_stat_then h k) ws = rw (same_words h, same_words k)
same_words (a_const n h k) ws = rw (n, same_words h, same_words k)
same_words (a_fun n h k l) ws = rw (n, same_words h, same_words k, same_words l)
same_words (a_fun_rec n h k l) ws = rw (n, same_words h, same_words k, same_words l)
same_words (a_fun_block n h k l) ws = rw (n, same_words h, same_words k, same_words l)
same_words (a_fun_rec_block n h k l) ws = rw (n, same_words h, same_words k, same_words l)
same_words (a_var n h) ws = rw (n, same_words h)
same_words (a_proc n h k) ws = rw (n, same_words h, same_words k)
same_words (a_proc_rec n h k) ws = rw (n, same_words h, same_words k)
same_words a_bool ws = refl
same_words a_int ws = refl
same_words (a_arrow h k) ws = rw (same_words h, same_words k)
same_words (a_vec h) ws = rw (same_words h)
same_words (a_one_type h) ws = rw (same_words h)
same_words (a_more_types h k) ws = rw (same_words h, same_words k)
same_words (a_arg n h) ws = rw (n, same_words h)
same_words a_no_args ws = refl
same_words (a_args h k) ws = rw (same_words h, same_words k)
same_words (a_val_arg n h) ws = rw (n, same_words h)
same_words (a_var_arg n h) ws = rw (n, same_words h)
same_words a_no_argsp ws = refl
same_words (a_argsp h k) ws = rw (same_words h, same_words k)
same_words (a_echo h) ws = rw (same_words h)
same_words (a_set n h) ws = rw (n, same_words h)
same_words (a_if_stat h k l) ws = rw (same_words h, same_words k, same_words l)
same_words (a_while h k) ws = rw (same_words h, same_words k)
same_words (a_call n h) ws = rw (n, same_words h)
same_words (a_return h) ws = rw (same_words h)
same_words (a_val h) ws = rw (same_words h)
same_words (a_adr n) ws = rw n
same_words a_no_exprsp ws = refl
same_words (a_exprsp h k) ws = rw (same_words h, same_words k)
same_words a_num ws = refl
same_words (a_name n) ws = rw n
same_words (a_if_expr h k l) ws = rw (same_words h, same_words k, same_words l)
same_words (a_and h k) ws = rw (same_words h, same_words k)
same_words (a_or h k) ws = rw (same_words h, same_words k)
same_words (a_app h k) ws = rw (same_words h, same_words k)
same_words (a_abs h k) ws = rw (same_words h, same_words k)
same_words (a_alloc h k) ws = rw (same_words h, same_words k)
same_words (a_nth h k) ws = rw (same_words h, same_words k)
same_words (a_len h) ws = rw (same_words h)
same_words (a_vset h k l) ws = rw (same_words h, same_words k, same_words l)
same_words (a_one_expr h) ws = rw (same_words h)
same_words (a_more_exprs h k) ws = rw (same_words h, same_words k)

-- what is shown of each sort
abbrev Read : (k : Sort) → TreeOf k → List Word → List Word → Type 0
Read BLOCK e ts r = map bare ts ≡ block_words e (map bare r)
Read CMDS e ts r = map bare ts ≡ cmds_words e (map bare r)
Read DEF e ts r = map bare ts ≡ def_words e (map bare r)
Read STAT e ts r = map bare ts ≡ stat_words e (map bare r)
Read TYPE e ts r = map bare ts ≡ type_words e (map bare r)
Read TYPES e ts r = map bare ts ≡ types_words e (map bare r)
Read ARG e ts r = map bare ts ≡ arg_words e (map bare r)
Read ARGS e ts r = m k_comma ∷ map bare ts ≡ args_words e (map bare r)
Read ARGP e ts r = map bare ts ≡ argp_words e (map bare r)
Read ARGSP e ts r = m k_comma ∷ map bare ts ≡ argsp_words e (map bare r)
Read EXPR e ts r = map bare ts ≡ expr_words e (map bare r)
Read EXPRS e ts r = map bare ts ≡ exprs_words e (map bare r)
Read EXPRP e ts r = map bare ts ≡ exprp_words e (map bare r)
Read EXPRSP e ts r = map bare ts ≡ exprsp_words e (map bare r)

un : {k : Sort} {e : TreeOf k} {ts r : List Word} → Reads k e ts r → Read k e ts r
unfolding type_words arg_words args_words argp_words argsp_words expr_words exprp_words exprsp_words cmds_words
un (r_block h) = rw (un h)
un (r_last h) = rw (un h)
un (r_def_then h k) = rw (un h, un k)
un (r_stat_then h k) = rw (un h, un k)
un (r_return h) = rw (un h)
un (r_const {x = at i x} h k) = rw (un h, un k)
un (r_fun {x = at i x} h k l) = rw (un h, ← un l, ← un k)
un (r_fun_rec {x = at i x} h k l) = rw (un h, ← un l, ← un k)
un (r_fun_block {x = at i x} h k l) = rw (un h, ← un l, ← un k)
un (r_fun_rec_block {x = at i x} h k l) = rw (un h, ← un l, ← un k)
un (r_var {x = at i x} h) = rw (un h)
un (r_proc {x = at i x} h k) = rw (← un k, ← un h)
un (r_proc_rec {x = at i x} h k) = rw (← un k, ← un h)
un r_bool = refl
un r_int = refl
un (r_arrow h k) = rw (un h, un k)
un (r_vec h) = rw (un h)
un (r_one_type h) = rw (un h)
un (r_more_types h k) = rw (un h, un k)
un (r_arg {x = at i x} h) = rw (un h)
un (r_one_arg h) = rw (un h)
un (r_more_args h k) = rw (un h, un k)
un (r_val_arg {x = at i x} h) = rw (un h)
un (r_var_arg {x = at i x} h) = rw (un h)
un (r_one_argp h) = rw (un h)
un (r_more_argsp h k) = rw (un h, un k)
un (r_echo h) = rw (un h)
un (r_set {x = at i x} h) = rw (un h)
un (r_if_stat h k l) = rw (un h, un k, un l)
un (r_while h k) = rw (un h, un k)
un (r_call {x = at i x} h) = rw (un h)
un (r_one_exprp h) = rw (un h)
un (r_more_exprsp h k) = rw (un h, un k)
un (r_val h) = rw (un h)
un (r_adr {x = at i x}) = refl
un r_num = refl
un (r_name {x = at i x}) = refl
un (r_if_expr h k l) = rw (un h, un k, un l)
un (r_and h k) = rw (un h, un k)
un (r_or h k) = rw (un h, un k)
un (r_app h k) = rw (un h, un k)
un (r_abs h k) = rw (← un k, ← un h)
un (r_alloc h k) = rw (un h, un k)
un (r_nth h k) = rw (un h, un k)
un (r_len h) = rw (un h)
un (r_vset h k l) = rw (un h, un k, un l)
un (r_one_expr h) = rw (un h)
un (r_more_exprs h k) = rw (un h, un k)

-- Trees that agree are read from words that are equal but for their places.
pub alike_words : {b c : Block} (ts us : List Word) → Reads BLOCK b ts [] → Reads BLOCK c us [] → Alike ◌≡◌ BLOCK b c → map bare ts ≡ map bare us
alike_words ts us h k a = un h ∙ (same_words a [] ∙ sym (un k))
