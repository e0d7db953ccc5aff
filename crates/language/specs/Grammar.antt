-- The grammar of APS1a, 000 section 3.1, with the blocks of cells of APS2 (request 5) and what APS3 adds, 004 section 5.1: `Reads k e ts r` says that the words from the front of `ts` up to where `r` begins are the tree `e`,
-- by the lines for `k`. One constructor for each line, in the source's order of words.
use Rattle.std.specs.Prelude.{◌∷◌, ◌++◌}
use Rattle.language.specs.Library.{ℕ, ℤ, List, []}
use Rattle.language.specs.Syntax.{Ident, TypeTree, bool, int, arrow, vec, TypeTrees, one_type, more_types, Arg, arg, ArgP, val_arg, var_arg, Expr, num, name, if_expr, and, or, app, abs, alloc, nth_expr, len, vset, Exprs, one_expr, more_exprs, ExprP, val, adr, Cmds, last, def_then, stat_then, Def, const, fun, fun_rec, fun_block, fun_rec_block, var, proc, proc_rec, Stat, echo, set, if_stat, while, call, return, Block, block}
use Rattle.language.specs.Words.{k_lbr, k_rbr, k_lpar, k_rpar, k_semi, k_colon, k_comma, k_star, k_arrow, k_const, k_fun, k_rec, k_var, k_proc, k_echo, k_set, k_if, k_while, k_call, k_return, kif, kand, kor, kbool, kint, kvar, kadr, kvec, kalloc, knth, klen, kvset, Word, mark, number, named}

-- The left sides of the grammar, and the trees of each.
pub data Sort : Type 0 where
  BLOCK CMDS DEF STAT TYPE TYPES ARG ARGS ARGP ARGSP EXPR EXPRS EXPRP EXPRSP : Sort

abbrev pub TreeOf : Sort → Type 0
TreeOf BLOCK = Block
TreeOf CMDS = Cmds
TreeOf DEF = Def
TreeOf STAT = Stat
TreeOf TYPE = TypeTree
TreeOf TYPES = TypeTrees
TreeOf ARG = Arg
TreeOf ARGS = List Arg
TreeOf ARGP = ArgP
TreeOf ARGSP = List ArgP
TreeOf EXPR = Expr
TreeOf EXPRS = Exprs
TreeOf EXPRP = ExprP
TreeOf EXPRSP = List ExprP

pub data Reads : (k : Sort) → TreeOf k → List Word → List Word → Type 0 where
  -- BLOCK ::= [ CMDS ]
  r_block : {p i : ℕ} {c : Cmds} {ts r : List Word} → Reads CMDS c ts (mark k_rbr i ∷ r) → Reads BLOCK (block p c) (mark k_lbr p ∷ ts) r
  -- CMDS ::= STAT | DEF ; CMDS | STAT ; CMDS | RET, RET ::= RETURN EXPR: nothing may follow a RETURN
  r_last : {a : Stat} {ts r : List Word} → Reads STAT a ts r → Reads CMDS (last a) ts r
  r_def_then : {i : ℕ} {d : Def} {c : Cmds} {ts us r : List Word} → Reads DEF d ts (mark k_semi i ∷ us) → Reads CMDS c us r
      → Reads CMDS (def_then d c) ts r
  r_stat_then : {i : ℕ} {a : Stat} {c : Cmds} {ts us r : List Word} → Reads STAT a ts (mark k_semi i ∷ us) → Reads CMDS c us r
      → Reads CMDS (stat_then a c) ts r
  r_return : {p : ℕ} {e : Expr} {ts r : List Word} → Reads EXPR e ts r → Reads CMDS (last (return p e)) (mark k_return p ∷ ts) r
  -- DEF ::= CONST ident TYPE EXPR | FUN ident TYPE [ ARGS ] EXPR | FUN REC ident TYPE [ ARGS ] EXPR | VAR ident TYPE | PROC ident [ ARGSP ] BLOCK | PROC REC ident [ ARGSP ] BLOCK
  --     | FUN ident TYPE [ ARGS ] BLOCK | FUN REC ident TYPE [ ARGS ] BLOCK
  r_const : {p : ℕ} {x : Ident} {t : TypeTree} {e : Expr} {ts us r : List Word} → Reads TYPE t ts us → Reads EXPR e us r
      → Reads DEF (const p x t e) (mark k_const p ∷ named x ∷ ts) r
  r_fun : {p i j : ℕ} {x : Ident} {t : TypeTree} {a : List Arg} {e : Expr} {ts us vs r : List Word} → Reads TYPE t ts (mark k_lbr i ∷ us) → Reads ARGS a us (mark k_rbr j ∷ vs) → Reads EXPR e vs r
      → Reads DEF (fun p x t a e) (mark k_fun p ∷ named x ∷ ts) r
  r_fun_rec : {p i j k : ℕ} {x : Ident} {t : TypeTree} {a : List Arg} {e : Expr} {ts us vs r : List Word} → Reads TYPE t ts (mark k_lbr j ∷ us) → Reads ARGS a us (mark k_rbr k ∷ vs) → Reads EXPR e vs r
      → Reads DEF (fun_rec p x t a e) (mark k_fun p ∷ mark k_rec i ∷ named x ∷ ts) r
  r_fun_block : {p i j : ℕ} {x : Ident} {t : TypeTree} {a : List Arg} {b : Block} {ts us vs r : List Word} → Reads TYPE t ts (mark k_lbr i ∷ us) → Reads ARGS a us (mark k_rbr j ∷ vs) → Reads BLOCK b vs r
      → Reads DEF (fun_block p x t a b) (mark k_fun p ∷ named x ∷ ts) r
  r_fun_rec_block : {p i j k : ℕ} {x : Ident} {t : TypeTree} {a : List Arg} {b : Block} {ts us vs r : List Word} → Reads TYPE t ts (mark k_lbr j ∷ us) → Reads ARGS a us (mark k_rbr k ∷ vs) → Reads BLOCK b vs r
      → Reads DEF (fun_rec_block p x t a b) (mark k_fun p ∷ mark k_rec i ∷ named x ∷ ts) r
  r_var : {p : ℕ} {x : Ident} {t : TypeTree} {ts r : List Word} → Reads TYPE t ts r → Reads DEF (var p x t) (mark k_var p ∷ named x ∷ ts) r
  r_proc : {p i j : ℕ} {x : Ident} {a : List ArgP} {b : Block} {ts us r : List Word} → Reads ARGSP a ts (mark k_rbr j ∷ us) → Reads BLOCK b us r
      → Reads DEF (proc p x a b) (mark k_proc p ∷ named x ∷ mark k_lbr i ∷ ts) r
  r_proc_rec : {p i j k : ℕ} {x : Ident} {a : List ArgP} {b : Block} {ts us r : List Word} → Reads ARGSP a ts (mark k_rbr k ∷ us) → Reads BLOCK b us r
      → Reads DEF (proc_rec p x a b) (mark k_proc p ∷ mark k_rec i ∷ named x ∷ mark k_lbr j ∷ ts) r
  -- TYPE ::= bool | int | ( TYPES -> TYPE ) | ( vec TYPE )
  r_bool : {p : ℕ} {r : List Word} → Reads TYPE (bool p) (mark kbool p ∷ r) r
  r_int : {p : ℕ} {r : List Word} → Reads TYPE (int p) (mark kint p ∷ r) r
  r_arrow : {p i j : ℕ} {a : TypeTrees} {t : TypeTree} {ts us r : List Word} → Reads TYPES a ts (mark k_arrow i ∷ us) → Reads TYPE t us (mark k_rpar j ∷ r)
      → Reads TYPE (arrow p a t) (mark k_lpar p ∷ ts) r
  r_vec : {p i j : ℕ} {t : TypeTree} {ts r : List Word} → Reads TYPE t ts (mark k_rpar j ∷ r) → Reads TYPE (vec p t) (mark k_lpar p ∷ mark kvec i ∷ ts) r
  -- TYPES ::= TYPE | TYPE * TYPES
  r_one_type : {t : TypeTree} {ts r : List Word} → Reads TYPE t ts r → Reads TYPES (one_type t) ts r
  r_more_types : {i : ℕ} {t : TypeTree} {a : TypeTrees} {ts us r : List Word} → Reads TYPE t ts (mark k_star i ∷ us) → Reads TYPES a us r
      → Reads TYPES (more_types t a) ts r
  -- ARG ::= ident : TYPE
  r_arg : {i : ℕ} {x : Ident} {t : TypeTree} {ts r : List Word} → Reads TYPE t ts r → Reads ARG (arg x t) (named x ∷ mark k_colon i ∷ ts) r
  -- ARGS ::= ARG | ARG , ARGS
  r_one_arg : {a : Arg} {ts r : List Word} → Reads ARG a ts r → Reads ARGS (a ∷ []) ts r
  r_more_args : {i : ℕ} {a : Arg} {b : List Arg} {ts us r : List Word} → Reads ARG a ts (mark k_comma i ∷ us) → Reads ARGS b us r
      → Reads ARGS (a ∷ b) ts r
  -- ARGP ::= ident : TYPE | var ident : TYPE
  r_val_arg : {i : ℕ} {x : Ident} {t : TypeTree} {ts r : List Word} → Reads TYPE t ts r → Reads ARGP (val_arg x t) (named x ∷ mark k_colon i ∷ ts) r
  r_var_arg : {i j : ℕ} {x : Ident} {t : TypeTree} {ts r : List Word} → Reads TYPE t ts r
      → Reads ARGP (var_arg x t) (mark kvar i ∷ named x ∷ mark k_colon j ∷ ts) r
  -- ARGSP ::= ARGP | ARGP , ARGSP
  r_one_argp : {a : ArgP} {ts r : List Word} → Reads ARGP a ts r → Reads ARGSP (a ∷ []) ts r
  r_more_argsp : {i : ℕ} {a : ArgP} {b : List ArgP} {ts us r : List Word} → Reads ARGP a ts (mark k_comma i ∷ us) → Reads ARGSP b us r
      → Reads ARGSP (a ∷ b) ts r
  -- STAT ::= ECHO EXPR | SET ident EXPR | IF EXPR BLOCK BLOCK | WHILE EXPR BLOCK | CALL ident EXPRSP
  r_echo : {p : ℕ} {e : Expr} {ts r : List Word} → Reads EXPR e ts r → Reads STAT (echo p e) (mark k_echo p ∷ ts) r
  r_set : {p : ℕ} {x : Ident} {e : Expr} {ts r : List Word} → Reads EXPR e ts r → Reads STAT (set p x e) (mark k_set p ∷ named x ∷ ts) r
  r_if_stat : {p : ℕ} {e : Expr} {b c : Block} {ts us vs r : List Word} → Reads EXPR e ts us → Reads BLOCK b us vs → Reads BLOCK c vs r
      → Reads STAT (if_stat p e b c) (mark k_if p ∷ ts) r
  r_while : {p : ℕ} {e : Expr} {b : Block} {ts us r : List Word} → Reads EXPR e ts us → Reads BLOCK b us r
      → Reads STAT (while p e b) (mark k_while p ∷ ts) r
  r_call : {p : ℕ} {x : Ident} {a : List ExprP} {ts r : List Word} → Reads EXPRSP a ts r → Reads STAT (call p x a) (mark k_call p ∷ named x ∷ ts) r
  -- EXPRSP ::= EXPRP | EXPRP EXPRSP
  r_one_exprp : {a : ExprP} {ts r : List Word} → Reads EXPRP a ts r → Reads EXPRSP (a ∷ []) ts r
  r_more_exprsp : {a : ExprP} {b : List ExprP} {ts us r : List Word} → Reads EXPRP a ts us → Reads EXPRSP b us r → Reads EXPRSP (a ∷ b) ts r
  -- EXPRP ::= EXPR | ( adr ident )
  r_val : {e : Expr} {ts r : List Word} → Reads EXPR e ts r → Reads EXPRP (val e) ts r
  r_adr : {p i j : ℕ} {x : Ident} {r : List Word} → Reads EXPRP (adr p x) (mark k_lpar p ∷ mark kadr i ∷ named x ∷ mark k_rpar j ∷ r) r
  -- EXPR ::= num | ident | ( if EXPR EXPR EXPR ) | ( and EXPR EXPR ) | ( or EXPR EXPR ) | ( EXPR EXPRS ) | [ ARGS ] EXPR
  --        | ( alloc TYPE EXPR ) | ( nth EXPR EXPR ) | ( len EXPR ) | ( vset EXPR EXPR EXPR )
  r_num : {p : ℕ} {z : ℤ} {r : List Word} → Reads EXPR (num p z) (number p z ∷ r) r
  r_name : {x : Ident} {r : List Word} → Reads EXPR (name x) (named x ∷ r) r
  r_if_expr : {p i j : ℕ} {e f g : Expr} {ts us vs r : List Word} → Reads EXPR e ts us → Reads EXPR f us vs → Reads EXPR g vs (mark k_rpar j ∷ r)
      → Reads EXPR (if_expr p e f g) (mark k_lpar p ∷ mark kif i ∷ ts) r
  r_and : {p i j : ℕ} {e f : Expr} {ts us r : List Word} → Reads EXPR e ts us → Reads EXPR f us (mark k_rpar j ∷ r)
      → Reads EXPR (and p e f) (mark k_lpar p ∷ mark kand i ∷ ts) r
  r_or : {p i j : ℕ} {e f : Expr} {ts us r : List Word} → Reads EXPR e ts us → Reads EXPR f us (mark k_rpar j ∷ r)
      → Reads EXPR (or p e f) (mark k_lpar p ∷ mark kor i ∷ ts) r
  r_app : {p i : ℕ} {e : Expr} {a : Exprs} {ts us r : List Word} → Reads EXPR e ts us → Reads EXPRS a us (mark k_rpar i ∷ r)
      → Reads EXPR (app p e a) (mark k_lpar p ∷ ts) r
  r_abs : {p i : ℕ} {a : List Arg} {e : Expr} {ts us r : List Word} → Reads ARGS a ts (mark k_rbr i ∷ us) → Reads EXPR e us r
      → Reads EXPR (abs p a e) (mark k_lbr p ∷ ts) r
  r_alloc : {p i j : ℕ} {t : TypeTree} {e : Expr} {ts us r : List Word} → Reads TYPE t ts us → Reads EXPR e us (mark k_rpar j ∷ r)
      → Reads EXPR (alloc p t e) (mark k_lpar p ∷ mark kalloc i ∷ ts) r
  r_nth : {p i j : ℕ} {e f : Expr} {ts us r : List Word} → Reads EXPR e ts us → Reads EXPR f us (mark k_rpar j ∷ r)
      → Reads EXPR (nth_expr p e f) (mark k_lpar p ∷ mark knth i ∷ ts) r
  r_len : {p i j : ℕ} {e : Expr} {ts r : List Word} → Reads EXPR e ts (mark k_rpar j ∷ r) → Reads EXPR (len p e) (mark k_lpar p ∷ mark klen i ∷ ts) r
  r_vset : {p i j : ℕ} {e f g : Expr} {ts us vs r : List Word} → Reads EXPR e ts us → Reads EXPR f us vs → Reads EXPR g vs (mark k_rpar j ∷ r)
      → Reads EXPR (vset p e f g) (mark k_lpar p ∷ mark kvset i ∷ ts) r
  -- EXPRS ::= EXPR | EXPR EXPRS
  r_one_expr : {e : Expr} {ts r : List Word} → Reads EXPR e ts r → Reads EXPRS (one_expr e) ts r
  r_more_exprs : {e : Expr} {a : Exprs} {ts us r : List Word} → Reads EXPR e ts us → Reads EXPRS a us r → Reads EXPRS (more_exprs e a) ts r

-- PROG: the words are a program; and some program begins with them.
abbrev pub Program : List Word → Type 0
Program ts = (b : Block) × Reads BLOCK b ts []

abbrev pub Begins : List Word → Type 0
Begins ts = (r : List Word) × Program (ts ++ r)
