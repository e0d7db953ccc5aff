-- What the grammar yields, the machine reads, and it writes the tree's nodes and counts the levels that the words open.
use mathlib.Core.Path.{◌≡◌, refl, sym, ◌∙◌, ap}
use mathlib.Core.List.{List, [], ◌∷◌, ◌++◌}
use mathlib.Core.Option.{Option, none, some}
use Prim.Native.Nat.{ℕ, suc, ◌+◌}
use native.Mathlib.Omega.{arith}
use lib.IntN.{ℤ}
use lib.ListN.{length}
use Rattle.language.specs.Syntax.{Ident, bool, int, arrow, vec, one_type, more_types, arg, val_arg, var_arg, num, name, if_expr, and, or, app, abs, alloc, nth_expr, len, vset, one_expr, more_exprs, val, adr, last, def_then, stat_then, const, fun, fun_rec, fun_block, fun_rec_block, var, proc, proc_rec, echo, set, if_stat, while, call, return, Block, block}
use Rattle.language.specs.Places.{place_ident}
use Rattle.language.specs.Words.{Mark, k_lbr, k_rbr, k_lpar, k_rpar, k_semi, k_colon, k_comma, k_star, k_arrow, k_const, k_fun, k_rec, k_var, k_proc, k_echo, k_set, k_if, k_while, k_call, k_return, kif, kand, kor, kbool, kint, kvar, kadr, kvec, kalloc, knth, klen, kvset, Word, mark, number, named}
use Rattle.language.specs.Grammar.{Sort, BLOCK, CMDS, DEF, STAT, TYPE, TYPES, ARG, ARGS, ARGP, ARGSP, EXPR, EXPRS, EXPRP, EXPRSP, TreeOf, Reads, r_block, r_last, r_def_then, r_stat_then, r_return, r_const, r_fun, r_fun_rec, r_fun_block, r_fun_rec_block, r_var, r_proc, r_proc_rec, r_bool, r_int, r_arrow, r_vec, r_one_type, r_more_types, r_arg, r_one_arg, r_more_args, r_val_arg, r_var_arg, r_one_argp, r_more_argsp, r_echo, r_set, r_if_stat, r_while, r_call, r_one_exprp, r_more_exprsp, r_val, r_adr, r_num, r_name, r_if_expr, r_and, r_or, r_app, r_abs, r_alloc, r_nth, r_len, r_vset, r_one_expr, r_more_exprs}
use Rattle.language.specs.Table.{Forest, shape_type, shape_types, shape_arg, shape_args, shape_arg_p, shape_args_p, shape_expr, shape_exprs, shape_expr_p, shape_exprs_p, shape_cmds, shape_def, shape_stat, shape_block, Node, node}
use Rattle.language.specs.Levels.{levels_type, levels_types, levels_arg, levels_args, levels_arg_p, levels_args_p, levels_expr, levels_exprs, levels_expr_p, levels_exprs_p, levels_cmds, levels_def, levels_stat, levels_block, levels}
use Rattle.language.proofs.Reading.Kinds.{length_retype, length_blocked, length_fork, put_grows, put_block, fork_kind}
use Rattle.language.proofs.Reading.Machine.{link, add_leaf, add_fork, retype, set_block, blocked, put, Sym, sym_block, sym_body, sym_tail, sym_semi, sym_ct, sym_expr, sym_ft, sym_fl, sym_farg1, sym_farg0, sym_fbody, sym_fopen, sym_end, sym_arg1, sym_arg0, sym_type, sym_argp1, sym_argp0, sym_ic, sym_ib, sym_wc, sym_k1, sym_k0, sym_paren, sym_parenp, sym_e3, sym_e2, sym_e1, sym_rp, sym_args1, sym_args0, sym_ts1, sym_ts0, sym_tr, sym_at, sym_tp, Ctx, ctx, cal, lev, down, Entry, ent, follow, Rule, thn, type_rules, vec_rules, block_rules, ex_rules, expr_rules, exprp_rules, arg_rules, argp_rules, paren_rules, adr_rules, body_rules, first_rules, rules, Parsed, through, parse, enter, whole}
use Rattle.language.proofs.Reading.Machine

-- `shape` and `levels` of each sort
abbrev pub shape : (k : Sort) → TreeOf k → Forest → Forest
shape BLOCK = shape_block
shape CMDS = shape_cmds
shape DEF = shape_def
shape STAT = shape_stat
shape TYPE = shape_type
shape TYPES = shape_types
shape ARG = shape_arg
shape ARGS = shape_args
shape ARGP = shape_arg_p
shape ARGSP = shape_args_p
shape EXPR = shape_expr
shape EXPRS = shape_exprs
shape EXPRP = shape_expr_p
shape EXPRSP = shape_exprs_p

abbrev pub levels_of : (k : Sort) → TreeOf k → ℕ → List ℕ → List ℕ
levels_of BLOCK = levels_block
levels_of CMDS = levels_cmds
levels_of DEF = levels_def
levels_of STAT = levels_stat
levels_of TYPE = levels_type
levels_of TYPES = levels_types
levels_of ARG = levels_arg
levels_of ARGS = levels_args
levels_of ARGP = levels_arg_p
levels_of ARGSP = levels_args_p
levels_of EXPR = levels_expr
levels_of EXPRS = levels_exprs
levels_of EXPRP = levels_expr_p
levels_of EXPRSP = levels_exprs_p

run_enter : (X : Sym) (q : ℕ) (u : Ctx) (s : List Entry) (t : List Node) (ls : List ℕ → List ℕ) (ts : List Word) → parse ts (ent X q u ∷ s) t ls ≡ enter (rules X) q u s t ls ts
unfolding parse enter
run_enter X q u s t ls [] = refl
run_enter X q u s t ls (x ∷ ts) = refl

retype_snoc : (k j p c : ℕ) (t : List Node) → retype k (t ++ (node j p c 0 ∷ [])) ≡ t ++ (node k p c 0 ∷ [])
unfolding retype
retype_snoc k j p c [] = refl
retype_snoc k j p c (x ∷ []) = refl
retype_snoc k j p c (x ∷ y ∷ t) = ap (λ (l : List Node). x ∷ l) (retype_snoc k j p c (y ∷ t))

retype_fork : (k j p q : ℕ) (t : List Node) → retype k (add_fork j p q t) ≡ add_fork k p q t
unfolding add_fork
retype_fork k j p q t = retype_snoc k j p (suc (length t)) (link q (length t) t)

-- From `from` the machine comes to the tokens `r`, with the stack `S` over the link of the last sibling, and has written the nodes `f`.
record Went (f : Forest → Forest) (q : ℕ) (t : List Node) (from : Parsed) (r : List Word) (S : ℕ → List Entry) (out : List ℕ → List ℕ) : Type 0 where
  at : ℕ
  tab : List Node
  moves : from ≡ parse r (S at) tab out
  wrote : (g : Forest) → put (f g) q t ≡ put g at tab

-- one after the other, where the machine's next step computes
seq : {f g : Forest → Forest} {q : ℕ} {t : List Node} {from to : Parsed} {m r : List Word} {S S' : ℕ → List Entry} {o o' : List ℕ → List ℕ}
    → (w : Went f q t from m S o)
    → parse m (S w.at) w.tab o ≡ to
    → Went g w.at w.tab to r S' o'
    → Went (λ z. f (g z)) q t from r S' o'
seq {g = g} w e v = record { at = v.at; tab = v.tab; moves = w.moves ∙ (e ∙ v.moves); wrote = λ z. w.wrote (g z) ∙ v.wrote z }

into : (X : Sym) {f : Forest → Forest} {q : ℕ} (u : Ctx) (s : List Entry) {t : List Node} (ls : List ℕ → List ℕ) (ts : List Word) {r : List Word} {S : ℕ → List Entry} {o : (List ℕ → List ℕ) → List ℕ → List ℕ}
    → ((l : List ℕ → List ℕ) → Went f q t (enter (rules X) q u s t l ts) r S (o l))
    → Went f q t (parse ts (ent X q u ∷ s) t ls) r S (o ls)
into X {q = q} u s {t} ls ts v = record { at = (v ls).at; tab = (v ls).tab; moves = run_enter X q u s t ls ts ∙ (v ls).moves; wrote = (v ls).wrote }

-- one after the other, where the next begins with the symbol X
next : (X : Sym) (u : Ctx) (s : List Entry) {f g : Forest → Forest} {q : ℕ} {t : List Node} {from : Parsed} {m r : List Word} {S' : ℕ → List Entry} {o : List ℕ → List ℕ} {o' : (List ℕ → List ℕ) → List ℕ → List ℕ}
    → (w : Went f q t from m (λ a. ent X a u ∷ s) o)
    → ((l : List ℕ → List ℕ) → Went g w.at w.tab (enter (rules X) w.at u s w.tab l m) r S' (o' l))
    → Went (λ z. f (g z)) q t from r S' (o' o)
next X u s {m = m} {o = o} w v = seq w (run_enter X w.at u s w.tab o m) (v o)

-- one node, whose children are written
wrap : (k p q : ℕ) (t : List Node) {f : Forest → Forest} {from : Parsed} {m r : List Word} {S S' : ℕ → List Entry} {T : List Node} {o o' : List ℕ → List ℕ}
    → T ≡ add_fork k p q t
    → (w : Went f 0 T from m S o)
    → parse m (S w.at) w.tab o ≡ parse r (S' (suc (length t))) w.tab o'
    → Went (λ z. Forest.fork k p (f Forest.none) z) q t from r S' o'
unfolding put
wrap k p q t e w c =
    record {
      at = suc (length t);
      tab = w.tab;
      moves = w.moves ∙ c;
      wrote = λ z. rw (← e) (ap (put z (suc (length t))) (w.wrote Forest.none));
    }

leafw : (k p q : ℕ) (t : List Node) {from : Parsed} {r : List Word} {S : ℕ → List Entry} {o : List ℕ → List ℕ}
    → from ≡ parse r (S (suc (length t))) (add_leaf k p q t) o
    → Went (λ z. Forest.leaf k p z) q t from r S o
unfolding put
leafw k p q t e = record { at = suc (length t); tab = add_leaf k p q t; moves = e; wrote = λ z. refl }

pub data Lit (k : Mark) : List Word → List Word → Type 0 where
  lit : {p : ℕ} {r : List Word} → Lit k (mark k p ∷ r) r

pub data Closer : List Word → Type 0 where
  c_semi : {p : ℕ} {r : List Word} → Closer (mark k_semi p ∷ r)
  c_rbr : {p : ℕ} {r : List Word} → Closer (mark k_rbr p ∷ r)

-- what follows the parenthesis and the bracket of an expression; of a CALL's; of a function's body
data IsParen : Sym → Sym → Type 0 where
  is_e : IsParen sym_paren sym_arg1
  is_p : IsParen sym_parenp sym_arg1
  is_b : IsParen sym_paren sym_fopen

-- a list of parameters, and what follows it: of an abstraction; of a function; of an abstraction that is a function's body
data IsList : Sym → Sym → Type 0 where
  is_a : IsList sym_arg1 sym_expr
  is_f : IsList sym_farg1 sym_fbody
  is_o : IsList sym_fopen sym_expr

-- a command's first word
pub data Command : Mark → Type 0 where
  is_const : Command k_const
  is_fun_word : Command k_fun
  is_var : Command k_var
  is_proc_word : Command k_proc
  is_echo : Command k_echo
  is_set : Command k_set
  is_if : Command k_if
  is_while : Command k_while
  is_call : Command k_call
  is_return : Command k_return

pub data Begun : List Word → Type 0 where
  begun : {m : Mark} {p : ℕ} {r : List Word} → Command m → Begun (mark m p ∷ r)

abbrev Enter : List Rule → (k : Sort) → TreeOf k → List Word → List Word → Type 0
Enter rs k e ts r = (ns : Option Sym) (ex : List Rule) (q : ℕ) (u : Ctx) (s : List Entry) (t : List Node) (ls : List ℕ → List ℕ) → Went (shape k e) q t (enter (thn ns rs ++ ex) q u s t ls ts) r (λ a. follow ns a u s) (λ l. ls (levels_of k e (lev u) l))

abbrev Between : Sym → Sym → (k : Sort) → TreeOf k → List Word → List Word → Type 0
Between X Y k e ts r = (q : ℕ) (u : Ctx) (s : List Entry) (t : List Node) (ls : List ℕ → List ℕ) → Went (shape k e) q t (parse ts (ent X q u ∷ s) t ls) r (λ a. ent Y a u ∷ s) (λ l. ls (levels_of k e (lev u) l))

-- a list of parameters, with the bracket behind it
abbrev Closing : Sym → Sym → (k : Sort) → TreeOf k → List Word → List Word → Type 0
Closing X Y k e ts r = (q : ℕ) (u : Ctx) (s : List Entry) (t : List Node) (ls : List ℕ → List ℕ) (r' : List Word) → Lit k_rbr r r'
    → Went (shape k e) q t (parse ts (ent X q u ∷ s) t ls) r' (λ a. ent Y a u ∷ s) (λ l. ls (levels_of k e (lev u) l))

-- What is shown of each sort.
abbrev FactOf : (k : Sort) → TreeOf k → List Word → List Word → Type 0
FactOf BLOCK e ts r = Enter block_rules BLOCK e ts r
FactOf CMDS e ts r = (q : ℕ) (u : Ctx) (s : List Entry) (t : List Node) (ls : List ℕ → List ℕ) (r' : List Word) → Lit k_rbr r r' → Went (shape CMDS e) q t (parse ts (ent sym_body q u ∷ s) t ls) r' (λ a. s) (λ l. ls (levels_of CMDS e (lev u) (0 ∷ l)))
FactOf DEF e ts r = Between sym_body sym_semi DEF e ts r
FactOf STAT e ts r = Closer r → Between sym_body sym_tail STAT e ts r
FactOf TYPE e ts r = Enter type_rules TYPE e ts r
FactOf TYPES e ts r = (ex : List Rule) (q : ℕ) (u : Ctx) (s : List Entry) (t : List Node) (ls : List ℕ → List ℕ) → Went (shape TYPES e) q t (enter (thn (some sym_ts0) type_rules ++ ex) q u s t ls ts) r (λ a. ent sym_ts0 a u ∷ s) (λ l. ls (levels_of TYPES e (lev u) l))
FactOf ARG e ts r = Enter arg_rules ARG e ts r
FactOf ARGS e ts r = (X Y : Sym) → IsList X Y → Closing X Y ARGS e ts r
FactOf ARGP e ts r = Enter argp_rules ARGP e ts r
FactOf ARGSP e ts r = Closing sym_argp1 sym_block ARGSP e ts r
FactOf EXPR e ts r = (P A : Sym) → IsParen P A → Enter (ex_rules P A) EXPR e ts r
FactOf EXPRS e ts r = (ex : List Rule) (q : ℕ) (u : Ctx) (s : List Entry) (t : List Node) (ls : List ℕ → List ℕ) → Went (shape EXPRS e) q t (enter (thn (some sym_args0) expr_rules ++ ex) q u s t ls ts) r (λ a. ent sym_args0 a u ∷ s) (λ l. ls (levels_of EXPRS e (lev u) l))
FactOf EXPRP e ts r = Enter exprp_rules EXPRP e ts r
FactOf EXPRSP e ts r = (ex : List Rule) (q : ℕ) (u : Ctx) (s : List Entry) (t : List Node) (ls : List ℕ → List ℕ) → Went (shape EXPRSP e) q t (enter (thn (some sym_k0) exprp_rules ++ ex) q u s t ls ts) r (λ a. ent sym_k0 a u ∷ s) (λ l. ls (levels_of EXPRSP e (lev u) l))

record Fact (k : Sort) (e : TreeOf k) (ts r : List Word) : Type 0 where
  get : FactOf k e ts r

-- what follows a parenthesis, for either of the two symbols
pex : {P A : Sym} → IsParen P A → List Rule
pex is_e = paren_rules
pex is_p = adr_rules
pex is_b = paren_rules

paren_if : {P A : Sym} → IsParen P A → (i : ℕ) (u : Ctx) (s : List Entry) (t : List Node) (ls : List ℕ → List ℕ) (ts : List Word)
    → parse (mark kif i ∷ ts) (ent P 0 u ∷ s) t ls ≡ parse ts (ent sym_e3 0 u ∷ s) (retype 20 t) (λ l. ls (0 ∷ l))
unfolding parse
paren_if is_e i u s t ls ts = refl
paren_if is_p i u s t ls ts = refl
paren_if is_b i u s t ls ts = refl

paren_and : {P A : Sym} → IsParen P A → (i : ℕ) (u : Ctx) (s : List Entry) (t : List Node) (ls : List ℕ → List ℕ) (ts : List Word)
    → parse (mark kand i ∷ ts) (ent P 0 u ∷ s) t ls ≡ parse ts (ent sym_e2 0 u ∷ s) (retype 21 t) (λ l. ls (0 ∷ l))
unfolding parse
paren_and is_e i u s t ls ts = refl
paren_and is_p i u s t ls ts = refl
paren_and is_b i u s t ls ts = refl

paren_or : {P A : Sym} → IsParen P A → (i : ℕ) (u : Ctx) (s : List Entry) (t : List Node) (ls : List ℕ → List ℕ) (ts : List Word)
    → parse (mark kor i ∷ ts) (ent P 0 u ∷ s) t ls ≡ parse ts (ent sym_e2 0 u ∷ s) (retype 22 t) (λ l. ls (0 ∷ l))
unfolding parse
paren_or is_e i u s t ls ts = refl
paren_or is_p i u s t ls ts = refl
paren_or is_b i u s t ls ts = refl

paren_alloc : {P A : Sym} → IsParen P A → (i : ℕ) (u : Ctx) (s : List Entry) (t : List Node) (ls : List ℕ → List ℕ) (ts : List Word)
    → parse (mark kalloc i ∷ ts) (ent P 0 u ∷ s) t ls ≡ parse ts (ent sym_at 0 u ∷ s) (retype 27 t) (λ l. ls (0 ∷ l))
unfolding parse
paren_alloc is_e i u s t ls ts = refl
paren_alloc is_p i u s t ls ts = refl
paren_alloc is_b i u s t ls ts = refl

paren_nth : {P A : Sym} → IsParen P A → (i : ℕ) (u : Ctx) (s : List Entry) (t : List Node) (ls : List ℕ → List ℕ) (ts : List Word)
    → parse (mark knth i ∷ ts) (ent P 0 u ∷ s) t ls ≡ parse ts (ent sym_e2 0 u ∷ s) (retype 28 t) (λ l. ls (0 ∷ l))
unfolding parse
paren_nth is_e i u s t ls ts = refl
paren_nth is_p i u s t ls ts = refl
paren_nth is_b i u s t ls ts = refl

paren_len : {P A : Sym} → IsParen P A → (i : ℕ) (u : Ctx) (s : List Entry) (t : List Node) (ls : List ℕ → List ℕ) (ts : List Word)
    → parse (mark klen i ∷ ts) (ent P 0 u ∷ s) t ls ≡ parse ts (ent sym_e1 0 u ∷ s) (retype 29 t) (λ l. ls (0 ∷ l))
unfolding parse
paren_len is_e i u s t ls ts = refl
paren_len is_p i u s t ls ts = refl
paren_len is_b i u s t ls ts = refl

paren_vset : {P A : Sym} → IsParen P A → (i : ℕ) (u : Ctx) (s : List Entry) (t : List Node) (ls : List ℕ → List ℕ) (ts : List Word)
    → parse (mark kvset i ∷ ts) (ent P 0 u ∷ s) t ls ≡ parse ts (ent sym_e3 0 u ∷ s) (retype 30 t) (λ l. ls (0 ∷ l))
unfolding parse
paren_vset is_e i u s t ls ts = refl
paren_vset is_p i u s t ls ts = refl
paren_vset is_b i u s t ls ts = refl

paren_app : {P A : Sym} (h : IsParen P A) (u : Ctx) (s : List Entry) (t : List Node) (ls : List ℕ → List ℕ) (ts : List Word)
    → parse ts (ent P 0 u ∷ s) t ls ≡ enter (thn (some sym_args1) expr_rules ++ pex h) 0 u s t ls ts
unfolding pex
paren_app is_e u s t ls ts = run_enter sym_paren 0 u s t ls ts
paren_app is_p u s t ls ts = run_enter sym_parenp 0 u s t ls ts
paren_app is_b u s t ls ts = run_enter sym_paren 0 u s t ls ts

-- the bracket of an abstraction opens a list of parameters
opens_list : {P A : Sym} → IsParen P A → IsList A sym_expr
opens_list is_e = is_a
opens_list is_p = is_a
opens_list is_b = is_o

-- the symbol after a parameter of a list, and what else may begin the list
lend : {X Y : Sym} → IsList X Y → Sym
lend is_a = sym_arg0
lend is_f = sym_farg0
lend is_o = sym_arg0

lex : {X Y : Sym} → IsList X Y → List Rule
lex is_a = []
lex is_f = []
lex is_o = first_rules body_rules

list_enter : {X Y : Sym} (i : IsList X Y) (q : ℕ) (u : Ctx) (s : List Entry) (t : List Node) (ls : List ℕ → List ℕ) (ts : List Word)
    → parse ts (ent X q u ∷ s) t ls ≡ enter (thn (some (lend i)) arg_rules ++ lex i) q u s t ls ts
unfolding lend lex
list_enter is_a q u s t ls ts = run_enter sym_arg1 q u s t ls ts
list_enter is_f q u s t ls ts = run_enter sym_farg1 q u s t ls ts
list_enter is_o q u s t ls ts = run_enter sym_fopen q u s t ls ts

-- after the comma
lmore : {X Y : Sym} → IsList X Y → Sym
lmore is_a = sym_arg1
lmore is_f = sym_farg1
lmore is_o = sym_arg1

list_more : {X Y : Sym} (i : IsList X Y) → IsList (lmore i) Y
unfolding lmore
list_more is_a = is_a
list_more is_f = is_f
list_more is_o = is_a

list_comma : {X Y : Sym} (i : IsList X Y) (p a : ℕ) (u : Ctx) (s : List Entry) (t : List Node) (ls : List ℕ → List ℕ) (ts : List Word)
    → parse (mark k_comma p ∷ ts) (ent (lend i) a u ∷ s) t ls ≡ parse ts (ent (lmore i) a u ∷ s) t (λ l. ls (0 ∷ l))
unfolding parse lend lmore
list_comma is_a p a u s t ls ts = refl
list_comma is_f p a u s t ls ts = refl
list_comma is_o p a u s t ls ts = refl

-- a path before the first step
begin : {f : Forest → Forest} {q : ℕ} {t : List Node} {from to : Parsed} {r : List Word} {S : ℕ → List Entry} {o : List ℕ → List ℕ} → from ≡ to → Went f q t to r S o → Went f q t from r S o
begin e v = record { at = v.at; tab = v.tab; moves = e ∙ v.moves; wrote = v.wrote }

-- at its closer, a statement's end does as `sym_tail` would
call_end : {r : List Word} → Closer r → (a b : ℕ) (u : Ctx) (s : List Entry) (t : List Node) (ls : List ℕ → List ℕ) → parse r (ent sym_k0 a (ctx b (lev u)) ∷ s) t ls ≡ parse r (ent sym_tail b u ∷ s) t ls
unfolding parse
call_end c_semi a b u s t ls = refl
call_end c_rbr a b u s t ls = refl

onto : {f : Forest → Forest} {q : ℕ} {t : List Node} {from : Parsed} {m r : List Word} {S S' : ℕ → List Entry} {o o' : List ℕ → List ℕ}
    → (w : Went f q t from m S o)
    → parse m (S w.at) w.tab o ≡ parse r (S' w.at) w.tab o'
    → Went f q t from r S' o'
onto w e = record { at = w.at; tab = w.tab; moves = w.moves ∙ e; wrote = w.wrote }

pub closes : {r r' : List Word} → Lit k_rbr r r' → Closer r
closes lit = c_rbr

tail_end : {r r' : List Word} → Lit k_rbr r r' → (a : ℕ) (u : Ctx) (s : List Entry) (t : List Node) (ls : List ℕ → List ℕ) → parse r (ent sym_tail a u ∷ s) t ls ≡ parse r' s t (λ l. ls (0 ∷ l))
unfolding parse
tail_end lit a u s t ls = refl

end_end : {r r' : List Word} → Lit k_rbr r r' → (a : ℕ) (u : Ctx) (s : List Entry) (t : List Node) (ls : List ℕ → List ℕ) → parse r (ent sym_end a u ∷ s) t ls ≡ parse r' s t (λ l. ls (0 ∷ l))
unfolding parse
end_end lit a u s t ls = refl

arg_end : {r r' : List Word} {X Y : Sym} (i : IsList X Y) → Lit k_rbr r r' → (a : ℕ) (u : Ctx) (s : List Entry) (t : List Node) (ls : List ℕ → List ℕ)
    → parse r (ent (lend i) a u ∷ s) t ls ≡ parse r' (ent Y a u ∷ s) t (λ l. ls (0 ∷ l))
unfolding parse lend
arg_end is_a lit a u s t ls = refl
arg_end is_f lit a u s t ls = refl
arg_end is_o lit a u s t ls = refl

-- the first command of a function's block: as if the block had been known
first_command_lem : {ts : List Word} → Begun ts → (u : Ctx) (s : List Entry) (t : List Node) (ls : List ℕ → List ℕ)
    → parse ts (ent sym_fopen 0 u ∷ s) t ls ≡ parse ts (ent sym_body 0 u ∷ s) (blocked (cal u) (retype 1 t)) ls
unfolding parse
first_command_lem (begun is_const) u s t ls = rw (length_blocked (cal u) (retype 1 t), length_retype 1 t) refl
first_command_lem (begun is_fun_word) u s t ls = rw (length_blocked (cal u) (retype 1 t), length_retype 1 t) refl
first_command_lem (begun is_var) u s t ls = rw (length_blocked (cal u) (retype 1 t), length_retype 1 t) refl
first_command_lem (begun is_proc_word) u s t ls = rw (length_blocked (cal u) (retype 1 t), length_retype 1 t) refl
first_command_lem (begun is_echo) u s t ls = rw (length_blocked (cal u) (retype 1 t), length_retype 1 t) refl
first_command_lem (begun is_set) u s t ls = rw (length_blocked (cal u) (retype 1 t), length_retype 1 t) refl
first_command_lem (begun is_if) u s t ls = rw (length_blocked (cal u) (retype 1 t), length_retype 1 t) refl
first_command_lem (begun is_while) u s t ls = rw (length_blocked (cal u) (retype 1 t), length_retype 1 t) refl
first_command_lem (begun is_call) u s t ls = rw (length_blocked (cal u) (retype 1 t), length_retype 1 t) refl
first_command_lem (begun is_return) u s t ls = rw (length_blocked (cal u) (retype 1 t), length_retype 1 t) refl

begun_def : {d : TreeOf DEF} {ts r : List Word} → Reads DEF d ts r → Begun ts
begun_def (r_const h k) = begun is_const
begun_def (r_fun h k l) = begun is_fun_word
begun_def (r_fun_rec h k l) = begun is_fun_word
begun_def (r_fun_block h k l) = begun is_fun_word
begun_def (r_fun_rec_block h k l) = begun is_fun_word
begun_def (r_var h) = begun is_var
begun_def (r_proc h k) = begun is_proc_word
begun_def (r_proc_rec h k) = begun is_proc_word

begun_stat : {a : TreeOf STAT} {ts r : List Word} → Reads STAT a ts r → Begun ts
begun_stat (r_echo h) = begun is_echo
begun_stat (r_set h) = begun is_set
begun_stat (r_if_stat h k l) = begun is_if
begun_stat (r_while h k) = begun is_while
begun_stat (r_call h) = begun is_call

pub begun_cmds : {c : TreeOf CMDS} {ts r : List Word} → Reads CMDS c ts r → Begun ts
begun_cmds (r_last h) = begun_stat h
begun_cmds (r_def_then h k) = begun_def h
begun_cmds (r_stat_then h k) = begun_stat h
begun_cmds (r_return h) = begun is_return

-- a function's block, after its head: its node was written with the kind `k`
body_of : (k p q : ℕ) (t : List Node) (u : Ctx) (S : ℕ → List Entry) {f : Forest → Forest} {T : List Node} {from : Parsed} {j i : ℕ} {c : TreeOf CMDS} {ts r : List Word} (o : List ℕ → List ℕ)
    → T ≡ add_fork k p q t
    → Went f 0 T from (mark k_lbr j ∷ ts) (λ a. ent sym_fbody a (ctx (suc (length t)) (lev u)) ∷ S (suc (length t))) o
    → Begun ts
    → Fact CMDS c ts (mark k_rbr i ∷ r)
    → Went (λ z. Forest.fork (29 + k) p (f (Forest.fork 1 j (shape_cmds c Forest.none) Forest.none)) z) q t from r S (λ l. o (suc (lev u) ∷ levels_cmds c (suc (lev u)) (0 ∷ l)))
unfolding parse put blocked
body_of k p q t u S {f} {T} {from} {j} {i} {c} {ts} {r} o e w b h =
    let v : Ctx = ctx (suc (length t)) (lev u) in
    let s : List Entry = S (suc (length t)) in
    let B : List Node = add_fork 1 j w.at w.tab in
    let C : Forest = shape_cmds c Forest.none in
    let F : Forest = f (Forest.fork 1 j C Forest.none) in
    let m = h.get 0 (down v) s (set_block (length t) B) (λ l. o (suc (lev u) ∷ l)) r lit in
    let n = length_fork k p q t in
    let g = put_grows (f Forest.none) 0 (add_fork k p q t) in
    let z : put (f Forest.none) 0 (add_fork k p q t) ≡ w.tab = ap (put (f Forest.none) 0) (sym e) ∙ w.wrote Forest.none in
    let l = ap length z in
    record {
      at = suc (length t);
      tab = m.tab;
      moves =
          w.moves
          ∙ (first_command_lem b (down v) s (add_fork 24 j w.at w.tab) (λ l. o (suc (lev u) ∷ l))
          ∙ (ap (λ (y : List Node). parse ts (ent sym_body 0 (down v) ∷ s) (set_block (length t) y) (λ l. o (suc (lev u) ∷ l))) (retype_fork 1 24 j w.at w.tab) ∙ m.moves));
      wrote = λ y.
          ap (put y (suc (length t)))
          (ap (put F 0) (fork_kind k p q t)
          ∙ (put_block F 0 (length t) (add_fork k p q t) (omega (arith, n))
          ∙ (ap (set_block (length t)) (ap (put F 0) (sym e) ∙ w.wrote (Forest.fork 1 j C Forest.none))
          ∙ (sym (put_block C 0 (length t) B (omega (arith, n, g, l, length_fork 1 j w.at w.tab))) ∙ m.wrote Forest.none))));
    }

argp_end : {r r' : List Word} → Lit k_rbr r r' → (a : ℕ) (u : Ctx) (s : List Entry) (t : List Node) (ls : List ℕ → List ℕ) → parse r (ent sym_argp0 a u ∷ s) t ls ≡ parse r' (ent sym_block a u ∷ s) t (λ l. ls (0 ∷ l))
unfolding parse
argp_end lit a u s t ls = refl

read_block : {p i : ℕ} {c : TreeOf CMDS} {ts r : List Word} → Fact CMDS c ts (mark k_rbr i ∷ r) → Fact BLOCK (block p c) (mark k_lbr p ∷ ts) r
unfolding parse enter shape_type shape_arg shape_args shape_arg_p shape_args_p shape_expr shape_expr_p shape_exprs_p shape_cmds levels_type levels_arg levels_args levels_arg_p levels_args_p levels_expr levels_expr_p levels_exprs_p levels_cmds
read_block {p = p} {r = r} h = record {
  get = λ ns ex q u s t ls.
      wrap 1 p q t refl (h.get 0 (down u) (follow ns (suc (length t)) u s) (add_fork 1 p q t) _ r lit) refl;
}

read_last : {a : TreeOf STAT} {ts r : List Word} → Fact STAT a ts r → Fact CMDS (last a) ts r
unfolding parse enter shape_type shape_arg shape_args shape_arg_p shape_args_p shape_expr shape_expr_p shape_exprs_p shape_cmds levels_type levels_arg levels_args levels_arg_p levels_args_p levels_expr levels_expr_p levels_exprs_p levels_cmds
read_last h = record { get = λ q u s t ls r' c. onto (h.get (closes c) q u s t ls) (tail_end c _ u s _ _) }

read_def_then : {i : ℕ} {d : TreeOf DEF} {c : TreeOf CMDS} {ts us r : List Word} → Fact DEF d ts (mark k_semi i ∷ us) → Fact CMDS c us r → Fact CMDS (def_then d c) ts r
unfolding parse enter shape_type shape_arg shape_args shape_arg_p shape_args_p shape_expr shape_expr_p shape_exprs_p shape_cmds levels_type levels_arg levels_args levels_arg_p levels_args_p levels_expr levels_expr_p levels_exprs_p levels_cmds
read_def_then h k = record { get = λ q u s t ls r' c. seq (h.get q u s t ls) refl (k.get _ (ctx 0 (lev u)) s _ _ r' c) }

read_stat_then : {i : ℕ} {a : TreeOf STAT} {c : TreeOf CMDS} {ts us r : List Word} → Fact STAT a ts (mark k_semi i ∷ us) → Fact CMDS c us r → Fact CMDS (stat_then a c) ts r
unfolding parse enter shape_type shape_arg shape_args shape_arg_p shape_args_p shape_expr shape_expr_p shape_exprs_p shape_cmds levels_type levels_arg levels_args levels_arg_p levels_args_p levels_expr levels_expr_p levels_exprs_p levels_cmds
read_stat_then h k = record { get = λ q u s t ls r' c. seq (h.get c_semi q u s t ls) refl (k.get _ (ctx 0 (lev u)) s _ _ r' c) }

read_return : {p : ℕ} {e : TreeOf EXPR} {ts r : List Word} → Fact EXPR e ts r → Fact CMDS (last (return p e)) (mark k_return p ∷ ts) r
unfolding parse enter shape_type shape_arg shape_args shape_arg_p shape_args_p shape_expr shape_expr_p shape_exprs_p shape_cmds levels_type levels_arg levels_args levels_arg_p levels_args_p levels_expr levels_expr_p levels_exprs_p levels_cmds
read_return {p = p} {ts = ts} h = record {
  get = λ q u s t ls r' c.
      let S : List Entry = ent sym_end (suc (length t)) u ∷ s in
      wrap 31 p q t refl (into sym_expr u S _ ts (λ l. h.get sym_paren sym_arg1 is_e none [] 0 u S (add_fork 31 p q t) l)) (end_end c _ u s _ _);
}

read_const : {p : ℕ} {x : Ident} {t : TreeOf TYPE} {e : TreeOf EXPR} {ts us r : List Word} → Fact TYPE t ts us → Fact EXPR e us r → Fact DEF (const p x t e) (mark k_const p ∷ named x ∷ ts) r
unfolding parse enter shape_type shape_arg shape_args shape_arg_p shape_args_p shape_expr shape_expr_p shape_exprs_p shape_cmds levels_type levels_arg levels_args levels_arg_p levels_args_p levels_expr levels_expr_p levels_exprs_p levels_cmds
read_const {p = p} {x = x} {ts = ts} h k = record {
  get = λ q u s t ls.
      let S : List Entry = ent sym_semi (suc (length t)) u ∷ s in
      wrap 2 p q t refl
      (next sym_expr u S (next sym_ct u S (leafw 19 (place_ident x) 0 (add_fork 2 p q t) {r = ts} refl) (λ l. h.get (some sym_expr) [] _ u S _ l)) (λ l. k.get sym_paren sym_arg1 is_e none [] _ u S _ l))
      refl;
}

read_fun : {p i j : ℕ} {x : Ident} {t : TreeOf TYPE} {a : TreeOf ARGS} {e : TreeOf EXPR} {ts us vs r : List Word} → Fact TYPE t ts (mark k_lbr i ∷ us) → Fact ARGS a us (mark k_rbr j ∷ vs) → Fact EXPR e vs r → Fact DEF (fun p x t a e) (mark k_fun p ∷ named x ∷ ts) r
unfolding parse enter shape_type shape_arg shape_args shape_arg_p shape_args_p shape_expr shape_expr_p shape_exprs_p shape_cmds levels_type levels_arg levels_args levels_arg_p levels_args_p levels_expr levels_expr_p levels_exprs_p levels_cmds
read_fun {p = p} {x = x} {ts = ts} {vs = vs} h k l = record {
  get = λ q u s t ls.
      let S : List Entry = ent sym_semi (suc (length t)) u ∷ s in
      let v : Ctx = ctx (suc (length t)) (lev u) in
      wrap 3 p q t refl
      (next sym_fbody v S
      (seq (next sym_ft v S (leafw 19 (place_ident x) 0 (add_fork 3 p q t) {r = ts} refl) (λ l. h.get (some sym_fl) [] _ v S _ l)) refl (k.get sym_farg1 sym_fbody is_f _ v S _ _ vs lit))
      (λ o. l.get sym_paren sym_fopen is_b none [] _ v S _ o))
      refl;
}

read_fun_rec : {p i j k : ℕ} {x : Ident} {t : TreeOf TYPE} {a : TreeOf ARGS} {e : TreeOf EXPR} {ts us vs r : List Word} → Fact TYPE t ts (mark k_lbr j ∷ us) → Fact ARGS a us (mark k_rbr k ∷ vs) → Fact EXPR e vs r → Fact DEF (fun_rec p x t a e) (mark k_fun p ∷ mark k_rec i ∷ named x ∷ ts) r
unfolding parse enter shape_type shape_arg shape_args shape_arg_p shape_args_p shape_expr shape_expr_p shape_exprs_p shape_cmds levels_type levels_arg levels_args levels_arg_p levels_args_p levels_expr levels_expr_p levels_exprs_p levels_cmds
read_fun_rec {p = p} {x = x} {ts = ts} {vs = vs} h k l = record {
  get = λ q u s t ls.
      let S : List Entry = ent sym_semi (suc (length t)) u ∷ s in
      let v : Ctx = ctx (suc (length t)) (lev u) in
      wrap 4 p q t (retype_fork 4 3 p q t)
      (next sym_fbody v S
      (seq (next sym_ft v S (leafw 19 (place_ident x) 0 (retype 4 (add_fork 3 p q t)) {r = ts} refl) (λ l. h.get (some sym_fl) [] _ v S _ l)) refl (k.get sym_farg1 sym_fbody is_f _ v S _ _ vs lit))
      (λ o. l.get sym_paren sym_fopen is_b none [] _ v S _ o))
      refl;
}

read_fun_block : {p i j b o : ℕ} {x : Ident} {t : TreeOf TYPE} {a : TreeOf ARGS} {c : TreeOf CMDS} {ts us vs r : List Word} → Fact TYPE t ts (mark k_lbr i ∷ us) → Fact ARGS a us (mark k_rbr j ∷ mark k_lbr b ∷ vs) → Begun vs → Fact CMDS c vs (mark k_rbr o ∷ r) → Fact DEF (fun_block p x t a (block b c)) (mark k_fun p ∷ named x ∷ ts) r
unfolding parse enter shape_type shape_arg shape_args shape_arg_p shape_args_p shape_expr shape_expr_p shape_exprs_p shape_cmds levels_type levels_arg levels_args levels_arg_p levels_args_p levels_expr levels_expr_p levels_exprs_p levels_cmds
read_fun_block {p = p} {b = b} {x = x} {ts = ts} {vs = vs} h k n l = record {
  get = λ q u s t ls.
      let S : List Entry = ent sym_semi (suc (length t)) u ∷ s in
      let v : Ctx = ctx (suc (length t)) (lev u) in
      body_of 3 p q t u (λ a. ent sym_semi a u ∷ s) _ refl
      (seq (next sym_ft v S (leafw 19 (place_ident x) 0 (add_fork 3 p q t) {r = ts} refl) (λ l. h.get (some sym_fl) [] _ v S _ l)) refl (k.get sym_farg1 sym_fbody is_f _ v S _ _ (mark k_lbr b ∷ vs) lit))
      n l;
}

read_fun_rec_block : {p i j k b o : ℕ} {x : Ident} {t : TreeOf TYPE} {a : TreeOf ARGS} {c : TreeOf CMDS} {ts us vs r : List Word} → Fact TYPE t ts (mark k_lbr j ∷ us) → Fact ARGS a us (mark k_rbr k ∷ mark k_lbr b ∷ vs) → Begun vs → Fact CMDS c vs (mark k_rbr o ∷ r) → Fact DEF (fun_rec_block p x t a (block b c)) (mark k_fun p ∷ mark k_rec i ∷ named x ∷ ts) r
unfolding parse enter shape_type shape_arg shape_args shape_arg_p shape_args_p shape_expr shape_expr_p shape_exprs_p shape_cmds levels_type levels_arg levels_args levels_arg_p levels_args_p levels_expr levels_expr_p levels_exprs_p levels_cmds
read_fun_rec_block {p = p} {b = b} {x = x} {ts = ts} {vs = vs} h k n l = record {
  get = λ q u s t ls.
      let S : List Entry = ent sym_semi (suc (length t)) u ∷ s in
      let v : Ctx = ctx (suc (length t)) (lev u) in
      body_of 4 p q t u (λ a. ent sym_semi a u ∷ s) _ (retype_fork 4 3 p q t)
      (seq (next sym_ft v S (leafw 19 (place_ident x) 0 (retype 4 (add_fork 3 p q t)) {r = ts} refl) (λ l. h.get (some sym_fl) [] _ v S _ l)) refl (k.get sym_farg1 sym_fbody is_f _ v S _ _ (mark k_lbr b ∷ vs) lit))
      n l;
}

read_var : {p : ℕ} {x : Ident} {t : TreeOf TYPE} {ts r : List Word} → Fact TYPE t ts r → Fact DEF (var p x t) (mark k_var p ∷ named x ∷ ts) r
unfolding parse enter shape_type shape_arg shape_args shape_arg_p shape_args_p shape_expr shape_expr_p shape_exprs_p shape_cmds levels_type levels_arg levels_args levels_arg_p levels_args_p levels_expr levels_expr_p levels_exprs_p levels_cmds
read_var {p = p} {x = x} {ts = ts} h = record {
  get = λ q u s t ls.
      let S : List Entry = ent sym_semi (suc (length t)) u ∷ s in
      wrap 5 p q t refl (next sym_type u S (leafw 19 (place_ident x) 0 (add_fork 5 p q t) {r = ts} refl) (λ l. h.get none [] _ u S _ l)) refl;
}

read_proc : {p i j : ℕ} {x : Ident} {a : TreeOf ARGSP} {b : TreeOf BLOCK} {ts us r : List Word} → Fact ARGSP a ts (mark k_rbr j ∷ us) → Fact BLOCK b us r → Fact DEF (proc p x a b) (mark k_proc p ∷ named x ∷ mark k_lbr i ∷ ts) r
unfolding parse enter shape_type shape_arg shape_args shape_arg_p shape_args_p shape_expr shape_expr_p shape_exprs_p shape_cmds levels_type levels_arg levels_args levels_arg_p levels_args_p levels_expr levels_expr_p levels_exprs_p levels_cmds
read_proc {p = p} {x = x} {ts = ts} {us = us} h k = record {
  get = λ q u s t ls.
      let S : List Entry = ent sym_semi (suc (length t)) u ∷ s in
      wrap 6 p q t refl
      (next sym_block u S
      (seq (leafw 19 (place_ident x) 0 (add_fork 6 p q t) {r = ts} {S = λ a. ent sym_argp1 a u ∷ S} refl) refl (h.get _ u S _ _ us lit))
      (λ l. k.get none [] _ u S _ l))
      refl;
}

read_proc_rec : {p i j k : ℕ} {x : Ident} {a : TreeOf ARGSP} {b : TreeOf BLOCK} {ts us r : List Word} → Fact ARGSP a ts (mark k_rbr k ∷ us) → Fact BLOCK b us r → Fact DEF (proc_rec p x a b) (mark k_proc p ∷ mark k_rec i ∷ named x ∷ mark k_lbr j ∷ ts) r
unfolding parse enter shape_type shape_arg shape_args shape_arg_p shape_args_p shape_expr shape_expr_p shape_exprs_p shape_cmds levels_type levels_arg levels_args levels_arg_p levels_args_p levels_expr levels_expr_p levels_exprs_p levels_cmds
read_proc_rec {p = p} {x = x} {ts = ts} {us = us} h k = record {
  get = λ q u s t ls.
      let S : List Entry = ent sym_semi (suc (length t)) u ∷ s in
      wrap 7 p q t (retype_fork 7 6 p q t)
      (next sym_block u S
      (seq (leafw 19 (place_ident x) 0 (retype 7 (add_fork 6 p q t)) {r = ts} {S = λ a. ent sym_argp1 a u ∷ S} refl) refl (h.get _ u S _ _ us lit))
      (λ l. k.get none [] _ u S _ l))
      refl;
}

read_bool : {p : ℕ} {r : List Word} → Fact TYPE (bool p) (mark kbool p ∷ r) r
unfolding parse enter shape_type shape_arg shape_args shape_arg_p shape_args_p shape_expr shape_expr_p shape_exprs_p shape_cmds levels_type levels_arg levels_args levels_arg_p levels_args_p levels_expr levels_expr_p levels_exprs_p levels_cmds
read_bool {p = p} = record { get = λ ns ex q u s t ls. leafw 15 p q t refl }

read_int : {p : ℕ} {r : List Word} → Fact TYPE (int p) (mark kint p ∷ r) r
unfolding parse enter shape_type shape_arg shape_args shape_arg_p shape_args_p shape_expr shape_expr_p shape_exprs_p shape_cmds levels_type levels_arg levels_args levels_arg_p levels_args_p levels_expr levels_expr_p levels_exprs_p levels_cmds
read_int {p = p} = record { get = λ ns ex q u s t ls. leafw 16 p q t refl }

read_arrow : {p i j : ℕ} {a : TreeOf TYPES} {t : TreeOf TYPE} {ts us r : List Word} → Fact TYPES a ts (mark k_arrow i ∷ us) → Fact TYPE t us (mark k_rpar j ∷ r) → Fact TYPE (arrow p a t) (mark k_lpar p ∷ ts) r
unfolding parse enter shape_type shape_arg shape_args shape_arg_p shape_args_p shape_expr shape_expr_p shape_exprs_p shape_cmds levels_type levels_arg levels_args levels_arg_p levels_args_p levels_expr levels_expr_p levels_exprs_p levels_cmds
read_arrow {p = p} {a = a} {ts = ts} {us = us} h k = record {
  get = λ ns ex q u s t ls.
      let S : List Entry = follow ns (suc (length t)) u s in
      begin
      (run_enter sym_tp 0 (down u) S (add_fork 17 p q t) (λ l. ls (suc (lev u) ∷ l)) ts)
      (wrap 17 p q t refl (seq
      (h.get vec_rules 0 (down u) S (add_fork 17 p q t) (λ l. ls (suc (lev u) ∷ l)))
      (run_enter sym_tr _ (down u) S _ _ us)
      (k.get (some sym_rp) [] _ (down u) S _ (λ l. ls (suc (lev u) ∷ levels_types a (suc (lev u)) (0 ∷ l))))) refl);
}

read_vec : {p i j : ℕ} {t : TreeOf TYPE} {ts r : List Word} → Fact TYPE t ts (mark k_rpar j ∷ r) → Fact TYPE (vec p t) (mark k_lpar p ∷ mark kvec i ∷ ts) r
unfolding parse enter shape_type shape_arg shape_args shape_arg_p shape_args_p shape_expr shape_expr_p shape_exprs_p shape_cmds levels_type levels_arg levels_args levels_arg_p levels_args_p levels_expr levels_expr_p levels_exprs_p levels_cmds
read_vec {p = p} {ts = ts} h = record {
  get = λ ns ex q u s t ls.
      let S : List Entry = follow ns (suc (length t)) u s in
      wrap 26 p q t (retype_fork 26 17 p q t) (into sym_tr (down u) S _ ts (λ l. h.get (some sym_rp) [] 0 (down u) S (retype 26 (add_fork 17 p q t)) l)) refl;
}

read_one_type : {t : TreeOf TYPE} {ts r : List Word} → Fact TYPE t ts r → Fact TYPES (one_type t) ts r
unfolding parse enter shape_type shape_arg shape_args shape_arg_p shape_args_p shape_expr shape_expr_p shape_exprs_p shape_cmds levels_type levels_arg levels_args levels_arg_p levels_args_p levels_expr levels_expr_p levels_exprs_p levels_cmds
read_one_type h = record { get = λ ex q u s t ls. h.get (some sym_ts0) ex q u s t ls }

read_more_types : {i : ℕ} {t : TreeOf TYPE} {a : TreeOf TYPES} {ts us r : List Word} → Fact TYPE t ts (mark k_star i ∷ us) → Fact TYPES a us r → Fact TYPES (more_types t a) ts r
unfolding parse enter shape_type shape_arg shape_args shape_arg_p shape_args_p shape_expr shape_expr_p shape_exprs_p shape_cmds levels_type levels_arg levels_args levels_arg_p levels_args_p levels_expr levels_expr_p levels_exprs_p levels_cmds
read_more_types {t = a} {us = us} h k = record { get = λ ex q u s t ls. seq (h.get (some sym_ts0) ex q u s t ls) (run_enter sym_ts1 _ u s _ _ us) (k.get [] _ u s _ (λ l. ls (levels_type a (lev u) (0 ∷ l)))) }

read_arg : {i : ℕ} {x : Ident} {t : TreeOf TYPE} {ts r : List Word} → Fact TYPE t ts r → Fact ARG (arg x t) (named x ∷ mark k_colon i ∷ ts) r
unfolding parse enter shape_type shape_arg shape_args shape_arg_p shape_args_p shape_expr shape_expr_p shape_exprs_p shape_cmds levels_type levels_arg levels_args levels_arg_p levels_args_p levels_expr levels_expr_p levels_exprs_p levels_cmds
read_arg {x = x} {ts = ts} h = record {
  get = λ ns ex q u s t ls.
      let S : List Entry = follow ns (suc (length t)) u s in
      wrap 13 (place_ident x) q t refl (into sym_type u S _ ts (λ l. h.get none [] 0 u S (add_fork 13 (place_ident x) q t) l)) refl;
}

read_one_arg : {a : TreeOf ARG} {ts r : List Word} → Fact ARG a ts r → Fact ARGS (a ∷ []) ts r
unfolding parse enter shape_type shape_arg shape_args shape_arg_p shape_args_p shape_expr shape_expr_p shape_exprs_p shape_cmds levels_type levels_arg levels_args levels_arg_p levels_args_p levels_expr levels_expr_p levels_exprs_p levels_cmds
read_one_arg {ts = ts} h = record { get = λ X Y i q u s t ls r' c. onto (begin (list_enter i q u s t ls ts) (h.get (some (lend i)) (lex i) q u s t ls)) (arg_end i c _ u s _ _) }

read_more_args : {i : ℕ} {a : TreeOf ARG} {b : TreeOf ARGS} {ts us r : List Word} → Fact ARG a ts (mark k_comma i ∷ us) → Fact ARGS b us r → Fact ARGS (a ∷ b) ts r
unfolding parse enter shape_type shape_arg shape_args shape_arg_p shape_args_p shape_expr shape_expr_p shape_exprs_p shape_cmds levels_type levels_arg levels_args levels_arg_p levels_args_p levels_expr levels_expr_p levels_exprs_p levels_cmds
read_more_args {i = j} {a = a} {ts = ts} {us = us} h k = record { get = λ X Y i q u s t ls r' c. seq (begin (list_enter i q u s t ls ts) (h.get (some (lend i)) (lex i) q u s t ls)) (list_comma i j _ u s _ (λ l. ls (levels_arg a (lev u) l)) us) (k.get (lmore i) Y (list_more i) _ u s _ _ r' c) }

read_val_arg : {i : ℕ} {x : Ident} {t : TreeOf TYPE} {ts r : List Word} → Fact TYPE t ts r → Fact ARGP (val_arg x t) (named x ∷ mark k_colon i ∷ ts) r
unfolding parse enter shape_type shape_arg shape_args shape_arg_p shape_args_p shape_expr shape_expr_p shape_exprs_p shape_cmds levels_type levels_arg levels_args levels_arg_p levels_args_p levels_expr levels_expr_p levels_exprs_p levels_cmds
read_val_arg {x = x} {ts = ts} h = record {
  get = λ ns ex q u s t ls.
      let S : List Entry = follow ns (suc (length t)) u s in
      wrap 13 (place_ident x) q t refl (into sym_type u S _ ts (λ l. h.get none [] 0 u S (add_fork 13 (place_ident x) q t) l)) refl;
}

read_var_arg : {i j : ℕ} {x : Ident} {t : TreeOf TYPE} {ts r : List Word} → Fact TYPE t ts r → Fact ARGP (var_arg x t) (mark kvar i ∷ named x ∷ mark k_colon j ∷ ts) r
unfolding parse enter shape_type shape_arg shape_args shape_arg_p shape_args_p shape_expr shape_expr_p shape_exprs_p shape_cmds levels_type levels_arg levels_args levels_arg_p levels_args_p levels_expr levels_expr_p levels_exprs_p levels_cmds
read_var_arg {x = x} {ts = ts} h = record {
  get = λ ns ex q u s t ls.
      let S : List Entry = follow ns (suc (length t)) u s in
      wrap 14 (place_ident x) q t refl (into sym_type u S _ ts (λ l. h.get none [] 0 u S (add_fork 14 (place_ident x) q t) l)) refl;
}

read_one_argp : {a : TreeOf ARGP} {ts r : List Word} → Fact ARGP a ts r → Fact ARGSP (a ∷ []) ts r
unfolding parse enter shape_type shape_arg shape_args shape_arg_p shape_args_p shape_expr shape_expr_p shape_exprs_p shape_cmds levels_type levels_arg levels_args levels_arg_p levels_args_p levels_expr levels_expr_p levels_exprs_p levels_cmds
read_one_argp {ts = ts} h = record { get = λ q u s t ls r' c. onto (into sym_argp1 u s ls ts (λ l. h.get (some sym_argp0) [] q u s t l)) (argp_end c _ u s _ _) }

read_more_argsp : {i : ℕ} {a : TreeOf ARGP} {b : TreeOf ARGSP} {ts us r : List Word} → Fact ARGP a ts (mark k_comma i ∷ us) → Fact ARGSP b us r → Fact ARGSP (a ∷ b) ts r
unfolding parse enter shape_type shape_arg shape_args shape_arg_p shape_args_p shape_expr shape_expr_p shape_exprs_p shape_cmds levels_type levels_arg levels_args levels_arg_p levels_args_p levels_expr levels_expr_p levels_exprs_p levels_cmds
read_more_argsp {ts = ts} h k = record { get = λ q u s t ls r' c. seq (into sym_argp1 u s ls ts (λ l. h.get (some sym_argp0) [] q u s t l)) refl (k.get _ u s _ _ r' c) }

read_echo : {p : ℕ} {e : TreeOf EXPR} {ts r : List Word} → Fact EXPR e ts r → Fact STAT (echo p e) (mark k_echo p ∷ ts) r
unfolding parse enter shape_type shape_arg shape_args shape_arg_p shape_args_p shape_expr shape_expr_p shape_exprs_p shape_cmds levels_type levels_arg levels_args levels_arg_p levels_args_p levels_expr levels_expr_p levels_exprs_p levels_cmds
read_echo {p = p} {ts = ts} h = record {
  get = λ c q u s t ls.
      let S : List Entry = ent sym_tail (suc (length t)) u ∷ s in
      wrap 8 p q t refl (into sym_expr u S _ ts (λ l. h.get sym_paren sym_arg1 is_e none [] 0 u S (add_fork 8 p q t) l)) refl;
}

read_set : {p : ℕ} {x : Ident} {e : TreeOf EXPR} {ts r : List Word} → Fact EXPR e ts r → Fact STAT (set p x e) (mark k_set p ∷ named x ∷ ts) r
unfolding parse enter shape_type shape_arg shape_args shape_arg_p shape_args_p shape_expr shape_expr_p shape_exprs_p shape_cmds levels_type levels_arg levels_args levels_arg_p levels_args_p levels_expr levels_expr_p levels_exprs_p levels_cmds
read_set {p = p} {x = x} {ts = ts} h = record {
  get = λ c q u s t ls.
      let S : List Entry = ent sym_tail (suc (length t)) u ∷ s in
      wrap 9 p q t refl (next sym_expr u S (leafw 19 (place_ident x) 0 (add_fork 9 p q t) {r = ts} refl) (λ l. h.get sym_paren sym_arg1 is_e none [] _ u S _ l)) refl;
}

read_if_stat : {p : ℕ} {e : TreeOf EXPR} {b c : TreeOf BLOCK} {ts us vs r : List Word} → Fact EXPR e ts us → Fact BLOCK b us vs → Fact BLOCK c vs r → Fact STAT (if_stat p e b c) (mark k_if p ∷ ts) r
unfolding parse enter shape_type shape_arg shape_args shape_arg_p shape_args_p shape_expr shape_expr_p shape_exprs_p shape_cmds levels_type levels_arg levels_args levels_arg_p levels_args_p levels_expr levels_expr_p levels_exprs_p levels_cmds
read_if_stat {p = p} {ts = ts} h k l = record {
  get = λ c q u s t ls.
      let S : List Entry = ent sym_tail (suc (length t)) u ∷ s in
      wrap 10 p q t refl
      (next sym_block u S
      (next sym_ib u S (into sym_ic u S _ ts (λ l. h.get sym_paren sym_arg1 is_e (some sym_ib) [] 0 u S (add_fork 10 p q t) l)) (λ l. k.get (some sym_block) [] _ u S _ l))
      (λ o. l.get none [] _ u S _ o))
      refl;
}

read_while : {p : ℕ} {e : TreeOf EXPR} {b : TreeOf BLOCK} {ts us r : List Word} → Fact EXPR e ts us → Fact BLOCK b us r → Fact STAT (while p e b) (mark k_while p ∷ ts) r
unfolding parse enter shape_type shape_arg shape_args shape_arg_p shape_args_p shape_expr shape_expr_p shape_exprs_p shape_cmds levels_type levels_arg levels_args levels_arg_p levels_args_p levels_expr levels_expr_p levels_exprs_p levels_cmds
read_while {p = p} {ts = ts} h k = record {
  get = λ c q u s t ls.
      let S : List Entry = ent sym_tail (suc (length t)) u ∷ s in
      wrap 11 p q t refl (next sym_block u S (into sym_wc u S _ ts (λ l. h.get sym_paren sym_arg1 is_e (some sym_block) [] 0 u S (add_fork 11 p q t) l)) (λ l. k.get none [] _ u S _ l)) refl;
}

read_call : {p : ℕ} {x : Ident} {a : TreeOf EXPRSP} {ts r : List Word} → Fact EXPRSP a ts r → Fact STAT (call p x a) (mark k_call p ∷ named x ∷ ts) r
unfolding parse enter shape_type shape_arg shape_args shape_arg_p shape_args_p shape_expr shape_expr_p shape_exprs_p shape_cmds levels_type levels_arg levels_args levels_arg_p levels_args_p levels_expr levels_expr_p levels_exprs_p levels_cmds
read_call {p = p} {x = x} {ts = ts} h = record {
  get = λ c q u s t ls.
      let n : ℕ = suc (length t) in
      wrap 12 p q t refl (next sym_k1 (ctx n (lev u)) s (leafw 19 (place_ident x) 0 (add_fork 12 p q t) {r = ts} refl) (λ l. h.get [] _ (ctx n (lev u)) s _ l)) (call_end c _ n u s _ _);
}

read_one_exprp : {a : TreeOf EXPRP} {ts r : List Word} → Fact EXPRP a ts r → Fact EXPRSP (a ∷ []) ts r
unfolding parse enter shape_type shape_arg shape_args shape_arg_p shape_args_p shape_expr shape_expr_p shape_exprs_p shape_cmds levels_type levels_arg levels_args levels_arg_p levels_args_p levels_expr levels_expr_p levels_exprs_p levels_cmds
read_one_exprp h = record { get = λ ex q u s t ls. h.get (some sym_k0) ex q u s t ls }

read_more_exprsp : {a : TreeOf EXPRP} {b : TreeOf EXPRSP} {ts us r : List Word} → Fact EXPRP a ts us → Fact EXPRSP b us r → Fact EXPRSP (a ∷ b) ts r
unfolding parse enter shape_type shape_arg shape_args shape_arg_p shape_args_p shape_expr shape_expr_p shape_exprs_p shape_cmds levels_type levels_arg levels_args levels_arg_p levels_args_p levels_expr levels_expr_p levels_exprs_p levels_cmds
read_more_exprsp h k = record { get = λ ex q u s t ls. next sym_k0 u s (h.get (some sym_k0) ex q u s t ls) (λ l. k.get Machine.call_rules _ u s _ l) }

read_val : {e : TreeOf EXPR} {ts r : List Word} → Fact EXPR e ts r → Fact EXPRP (val e) ts r
unfolding parse enter shape_type shape_arg shape_args shape_arg_p shape_args_p shape_expr shape_expr_p shape_exprs_p shape_cmds levels_type levels_arg levels_args levels_arg_p levels_args_p levels_expr levels_expr_p levels_exprs_p levels_cmds
read_val h = record { get = λ ns ex q u s t ls. h.get sym_parenp sym_arg1 is_p ns ex q u s t ls }

read_adr : {p i j : ℕ} {x : Ident} {r : List Word} → Fact EXPRP (adr p x) (mark k_lpar p ∷ mark kadr i ∷ named x ∷ mark k_rpar j ∷ r) r
unfolding parse enter shape_type shape_arg shape_args shape_arg_p shape_args_p shape_expr shape_expr_p shape_exprs_p shape_cmds levels_type levels_arg levels_args levels_arg_p levels_args_p levels_expr levels_expr_p levels_exprs_p levels_cmds
read_adr {p = p} {x = x} {r = r} = record {
  get = λ ns ex q u s t ls.
      let S : List Entry = follow ns (suc (length t)) u s in
      wrap 25 p q t (retype_fork 25 23 p q t) (leafw 19 (place_ident x) 0 (retype 25 (add_fork 23 p q t)) {r = r} {S = λ a. S} refl) refl;
}

read_num : {p : ℕ} {z : ℤ} {r : List Word} → Fact EXPR (num p z) (number p z ∷ r) r
unfolding parse enter shape_type shape_arg shape_args shape_arg_p shape_args_p shape_expr shape_expr_p shape_exprs_p shape_cmds levels_type levels_arg levels_args levels_arg_p levels_args_p levels_expr levels_expr_p levels_exprs_p levels_cmds
read_num {p = p} = record { get = λ P A i ns ex q u s t ls. leafw 18 p q t refl }

read_name : {x : Ident} {r : List Word} → Fact EXPR (name x) (named x ∷ r) r
unfolding parse enter shape_type shape_arg shape_args shape_arg_p shape_args_p shape_expr shape_expr_p shape_exprs_p shape_cmds levels_type levels_arg levels_args levels_arg_p levels_args_p levels_expr levels_expr_p levels_exprs_p levels_cmds
read_name {x = x} = record { get = λ P A i ns ex q u s t ls. leafw 19 (place_ident x) q t refl }

read_if_expr : {p i j : ℕ} {e f g : TreeOf EXPR} {ts us vs r : List Word} → Fact EXPR e ts us → Fact EXPR f us vs → Fact EXPR g vs (mark k_rpar j ∷ r) → Fact EXPR (if_expr p e f g) (mark k_lpar p ∷ mark kif i ∷ ts) r
unfolding parse enter shape_type shape_arg shape_args shape_arg_p shape_args_p shape_expr shape_expr_p shape_exprs_p shape_cmds levels_type levels_arg levels_args levels_arg_p levels_args_p levels_expr levels_expr_p levels_exprs_p levels_cmds
read_if_expr {p = p} {i = i} {ts = ts} he hf hg = record {
  get = λ P A h ns ex q u s t ls.
      let S : List Entry = follow ns (suc (length t)) u s in
      begin
      (paren_if h i (down u) S (add_fork 23 p q t) (λ l. ls (suc (lev u) ∷ l)) ts)
      (wrap 20 p q t (retype_fork 20 23 p q t)
      (next sym_e1 (down u) S
      (next sym_e2 (down u) S
      (into sym_e3 (down u) S _ ts (λ l. he.get sym_paren sym_arg1 is_e (some sym_e2) [] 0 (down u) S (retype 20 (add_fork 23 p q t)) l))
      (λ l. hf.get sym_paren sym_arg1 is_e (some sym_e1) [] _ (down u) S _ l))
      (λ l. hg.get sym_paren sym_arg1 is_e (some sym_rp) [] _ (down u) S _ l))
      refl);
}

read_and : {p i j : ℕ} {e f : TreeOf EXPR} {ts us r : List Word} → Fact EXPR e ts us → Fact EXPR f us (mark k_rpar j ∷ r) → Fact EXPR (and p e f) (mark k_lpar p ∷ mark kand i ∷ ts) r
unfolding parse enter shape_type shape_arg shape_args shape_arg_p shape_args_p shape_expr shape_expr_p shape_exprs_p shape_cmds levels_type levels_arg levels_args levels_arg_p levels_args_p levels_expr levels_expr_p levels_exprs_p levels_cmds
read_and {p = p} {i = i} {ts = ts} he hf = record {
  get = λ P A h ns ex q u s t ls.
      let S : List Entry = follow ns (suc (length t)) u s in
      begin
      (paren_and h i (down u) S (add_fork 23 p q t) (λ l. ls (suc (lev u) ∷ l)) ts)
      (wrap 21 p q t (retype_fork 21 23 p q t)
      (next sym_e1 (down u) S
      (into sym_e2 (down u) S _ ts (λ l. he.get sym_paren sym_arg1 is_e (some sym_e1) [] 0 (down u) S (retype 21 (add_fork 23 p q t)) l))
      (λ l. hf.get sym_paren sym_arg1 is_e (some sym_rp) [] _ (down u) S _ l))
      refl);
}

read_or : {p i j : ℕ} {e f : TreeOf EXPR} {ts us r : List Word} → Fact EXPR e ts us → Fact EXPR f us (mark k_rpar j ∷ r) → Fact EXPR (or p e f) (mark k_lpar p ∷ mark kor i ∷ ts) r
unfolding parse enter shape_type shape_arg shape_args shape_arg_p shape_args_p shape_expr shape_expr_p shape_exprs_p shape_cmds levels_type levels_arg levels_args levels_arg_p levels_args_p levels_expr levels_expr_p levels_exprs_p levels_cmds
read_or {p = p} {i = i} {ts = ts} he hf = record {
  get = λ P A h ns ex q u s t ls.
      let S : List Entry = follow ns (suc (length t)) u s in
      begin
      (paren_or h i (down u) S (add_fork 23 p q t) (λ l. ls (suc (lev u) ∷ l)) ts)
      (wrap 22 p q t (retype_fork 22 23 p q t)
      (next sym_e1 (down u) S
      (into sym_e2 (down u) S _ ts (λ l. he.get sym_paren sym_arg1 is_e (some sym_e1) [] 0 (down u) S (retype 22 (add_fork 23 p q t)) l))
      (λ l. hf.get sym_paren sym_arg1 is_e (some sym_rp) [] _ (down u) S _ l))
      refl);
}

read_app : {p i : ℕ} {e : TreeOf EXPR} {a : TreeOf EXPRS} {ts us r : List Word} → Fact EXPR e ts us → Fact EXPRS a us (mark k_rpar i ∷ r) → Fact EXPR (app p e a) (mark k_lpar p ∷ ts) r
unfolding parse enter shape_type shape_arg shape_args shape_arg_p shape_args_p shape_expr shape_expr_p shape_exprs_p shape_cmds levels_type levels_arg levels_args levels_arg_p levels_args_p levels_expr levels_expr_p levels_exprs_p levels_cmds
read_app {p = p} {ts = ts} he k = record {
  get = λ P A h ns ex q u s t ls.
      let S : List Entry = follow ns (suc (length t)) u s in
      begin
      (paren_app h (down u) S (add_fork 23 p q t) (λ l. ls (suc (lev u) ∷ l)) ts)
      (wrap 23 p q t refl
      (next sym_args1 (down u) S (he.get sym_paren sym_arg1 is_e (some sym_args1) (pex h) 0 (down u) S (add_fork 23 p q t) (λ l. ls (suc (lev u) ∷ l))) (λ l. k.get [] _ (down u) S _ l))
      refl);
}

read_abs : {p i : ℕ} {a : TreeOf ARGS} {e : TreeOf EXPR} {ts us r : List Word} → Fact ARGS a ts (mark k_rbr i ∷ us) → Fact EXPR e us r → Fact EXPR (abs p a e) (mark k_lbr p ∷ ts) r
unfolding parse enter shape_type shape_arg shape_args shape_arg_p shape_args_p shape_expr shape_expr_p shape_exprs_p shape_cmds levels_type levels_arg levels_args levels_arg_p levels_args_p levels_expr levels_expr_p levels_exprs_p levels_cmds
read_abs {p = p} {us = us} h k = record {
  get = λ P A i ns ex q u s t ls.
      let S : List Entry = follow ns (suc (length t)) u s in
      wrap 24 p q t refl (next sym_expr (down u) S (h.get A sym_expr (opens_list i) 0 (down u) S (add_fork 24 p q t) _ us lit) (λ l. k.get sym_paren sym_arg1 is_e none [] _ (down u) S _ l)) refl;
}

read_alloc : {p i j : ℕ} {t : TreeOf TYPE} {e : TreeOf EXPR} {ts us r : List Word} → Fact TYPE t ts us → Fact EXPR e us (mark k_rpar j ∷ r) → Fact EXPR (alloc p t e) (mark k_lpar p ∷ mark kalloc i ∷ ts) r
unfolding parse enter shape_type shape_arg shape_args shape_arg_p shape_args_p shape_expr shape_expr_p shape_exprs_p shape_cmds levels_type levels_arg levels_args levels_arg_p levels_args_p levels_expr levels_expr_p levels_exprs_p levels_cmds
read_alloc {p = p} {i = i} {ts = ts} ht he = record {
  get = λ P A h ns ex q u s t ls.
      let S : List Entry = follow ns (suc (length t)) u s in
      begin
      (paren_alloc h i (down u) S (add_fork 23 p q t) (λ l. ls (suc (lev u) ∷ l)) ts)
      (wrap 27 p q t (retype_fork 27 23 p q t)
      (next sym_e1 (down u) S
      (into sym_at (down u) S _ ts (λ l. ht.get (some sym_e1) [] 0 (down u) S (retype 27 (add_fork 23 p q t)) l))
      (λ l. he.get sym_paren sym_arg1 is_e (some sym_rp) [] _ (down u) S _ l))
      refl);
}

read_nth : {p i j : ℕ} {e f : TreeOf EXPR} {ts us r : List Word} → Fact EXPR e ts us → Fact EXPR f us (mark k_rpar j ∷ r) → Fact EXPR (nth_expr p e f) (mark k_lpar p ∷ mark knth i ∷ ts) r
unfolding parse enter shape_type shape_arg shape_args shape_arg_p shape_args_p shape_expr shape_expr_p shape_exprs_p shape_cmds levels_type levels_arg levels_args levels_arg_p levels_args_p levels_expr levels_expr_p levels_exprs_p levels_cmds
read_nth {p = p} {i = i} {ts = ts} he hf = record {
  get = λ P A h ns ex q u s t ls.
      let S : List Entry = follow ns (suc (length t)) u s in
      begin
      (paren_nth h i (down u) S (add_fork 23 p q t) (λ l. ls (suc (lev u) ∷ l)) ts)
      (wrap 28 p q t (retype_fork 28 23 p q t)
      (next sym_e1 (down u) S
      (into sym_e2 (down u) S _ ts (λ l. he.get sym_paren sym_arg1 is_e (some sym_e1) [] 0 (down u) S (retype 28 (add_fork 23 p q t)) l))
      (λ l. hf.get sym_paren sym_arg1 is_e (some sym_rp) [] _ (down u) S _ l))
      refl);
}

read_len : {p i j : ℕ} {e : TreeOf EXPR} {ts r : List Word} → Fact EXPR e ts (mark k_rpar j ∷ r) → Fact EXPR (len p e) (mark k_lpar p ∷ mark klen i ∷ ts) r
unfolding parse enter shape_type shape_arg shape_args shape_arg_p shape_args_p shape_expr shape_expr_p shape_exprs_p shape_cmds levels_type levels_arg levels_args levels_arg_p levels_args_p levels_expr levels_expr_p levels_exprs_p levels_cmds
read_len {p = p} {i = i} {ts = ts} he = record {
  get = λ P A h ns ex q u s t ls.
      let S : List Entry = follow ns (suc (length t)) u s in
      begin
      (paren_len h i (down u) S (add_fork 23 p q t) (λ l. ls (suc (lev u) ∷ l)) ts)
      (wrap 29 p q t (retype_fork 29 23 p q t)
      (into sym_e1 (down u) S _ ts (λ l. he.get sym_paren sym_arg1 is_e (some sym_rp) [] 0 (down u) S (retype 29 (add_fork 23 p q t)) l))
      refl);
}

read_vset : {p i j : ℕ} {e f g : TreeOf EXPR} {ts us vs r : List Word} → Fact EXPR e ts us → Fact EXPR f us vs → Fact EXPR g vs (mark k_rpar j ∷ r) → Fact EXPR (vset p e f g) (mark k_lpar p ∷ mark kvset i ∷ ts) r
unfolding parse enter shape_type shape_arg shape_args shape_arg_p shape_args_p shape_expr shape_expr_p shape_exprs_p shape_cmds levels_type levels_arg levels_args levels_arg_p levels_args_p levels_expr levels_expr_p levels_exprs_p levels_cmds
read_vset {p = p} {i = i} {ts = ts} he hf hg = record {
  get = λ P A h ns ex q u s t ls.
      let S : List Entry = follow ns (suc (length t)) u s in
      begin
      (paren_vset h i (down u) S (add_fork 23 p q t) (λ l. ls (suc (lev u) ∷ l)) ts)
      (wrap 30 p q t (retype_fork 30 23 p q t)
      (next sym_e1 (down u) S
      (next sym_e2 (down u) S
      (into sym_e3 (down u) S _ ts (λ l. he.get sym_paren sym_arg1 is_e (some sym_e2) [] 0 (down u) S (retype 30 (add_fork 23 p q t)) l))
      (λ l. hf.get sym_paren sym_arg1 is_e (some sym_e1) [] _ (down u) S _ l))
      (λ l. hg.get sym_paren sym_arg1 is_e (some sym_rp) [] _ (down u) S _ l))
      refl);
}

read_one_expr : {e : TreeOf EXPR} {ts r : List Word} → Fact EXPR e ts r → Fact EXPRS (one_expr e) ts r
unfolding parse enter shape_type shape_arg shape_args shape_arg_p shape_args_p shape_expr shape_expr_p shape_exprs_p shape_cmds levels_type levels_arg levels_args levels_arg_p levels_args_p levels_expr levels_expr_p levels_exprs_p levels_cmds
read_one_expr h = record { get = λ ex q u s t ls. h.get sym_paren sym_arg1 is_e (some sym_args0) ex q u s t ls }

read_more_exprs : {e : TreeOf EXPR} {a : TreeOf EXPRS} {ts us r : List Word} → Fact EXPR e ts us → Fact EXPRS a us r → Fact EXPRS (more_exprs e a) ts r
unfolding parse enter shape_type shape_arg shape_args shape_arg_p shape_args_p shape_expr shape_expr_p shape_exprs_p shape_cmds levels_type levels_arg levels_args levels_arg_p levels_args_p levels_expr levels_expr_p levels_exprs_p levels_cmds
read_more_exprs h k = record { get = λ ex q u s t ls. next sym_args0 u s (h.get sym_paren sym_arg1 is_e (some sym_args0) ex q u s t ls) (λ l. k.get Machine.args_rules _ u s _ l) }

comp : {k : Sort} {e : TreeOf k} {ts r : List Word} → Reads k e ts r → Fact k e ts r
comp (r_block h) = read_block (comp h)
comp (r_last h) = read_last (comp h)
comp (r_def_then h k) = read_def_then (comp h) (comp k)
comp (r_stat_then h k) = read_stat_then (comp h) (comp k)
comp (r_return h) = read_return (comp h)
comp (r_const h k) = read_const (comp h) (comp k)
comp (r_fun h k l) = read_fun (comp h) (comp k) (comp l)
comp (r_fun_rec h k l) = read_fun_rec (comp h) (comp k) (comp l)
comp (r_fun_block h k (r_block l)) = read_fun_block (comp h) (comp k) (begun_cmds l) (comp l)
comp (r_fun_rec_block h k (r_block l)) = read_fun_rec_block (comp h) (comp k) (begun_cmds l) (comp l)
comp (r_var h) = read_var (comp h)
comp (r_proc h k) = read_proc (comp h) (comp k)
comp (r_proc_rec h k) = read_proc_rec (comp h) (comp k)
comp r_bool = read_bool
comp r_int = read_int
comp (r_arrow h k) = read_arrow (comp h) (comp k)
comp (r_vec h) = read_vec (comp h)
comp (r_one_type h) = read_one_type (comp h)
comp (r_more_types h k) = read_more_types (comp h) (comp k)
comp (r_arg h) = read_arg (comp h)
comp (r_one_arg h) = read_one_arg (comp h)
comp (r_more_args h k) = read_more_args (comp h) (comp k)
comp (r_val_arg h) = read_val_arg (comp h)
comp (r_var_arg h) = read_var_arg (comp h)
comp (r_one_argp h) = read_one_argp (comp h)
comp (r_more_argsp h k) = read_more_argsp (comp h) (comp k)
comp (r_echo h) = read_echo (comp h)
comp (r_set h) = read_set (comp h)
comp (r_if_stat h k l) = read_if_stat (comp h) (comp k) (comp l)
comp (r_while h k) = read_while (comp h) (comp k)
comp (r_call h) = read_call (comp h)
comp (r_one_exprp h) = read_one_exprp (comp h)
comp (r_more_exprsp h k) = read_more_exprsp (comp h) (comp k)
comp (r_val h) = read_val (comp h)
comp r_adr = read_adr
comp r_num = read_num
comp r_name = read_name
comp (r_if_expr he hf hg) = read_if_expr (comp he) (comp hf) (comp hg)
comp (r_and he hf) = read_and (comp he) (comp hf)
comp (r_or he hf) = read_or (comp he) (comp hf)
comp (r_app he k) = read_app (comp he) (comp k)
comp (r_abs h k) = read_abs (comp h) (comp k)
comp (r_alloc h k) = read_alloc (comp h) (comp k)
comp (r_nth he hf) = read_nth (comp he) (comp hf)
comp (r_len he) = read_len (comp he)
comp (r_vset he hf hg) = read_vset (comp he) (comp hf) (comp hg)
comp (r_one_expr h) = read_one_expr (comp h)
comp (r_more_exprs h k) = read_more_exprs (comp h) (comp k)

-- A program is read to its end, the table is its nodes, and the levels are those that its words open.
pub complete : {b : Block} {ts : List Word} → Reads BLOCK b ts [] → whole ts ≡ through (put (shape_block b Forest.none) 0 []) (levels b)
unfolding parse put levels
complete {b} {ts = ts} h =
    let w = (comp h).get none [] 0 (ctx 0 0) [] [] (λ l. l) in
    run_enter sym_block 0 (ctx 0 0) [] [] (λ l. l) ts ∙ (w.moves ∙ ap (λ (z : List Node). through z (levels b)) (sym (w.wrote Forest.none)))
