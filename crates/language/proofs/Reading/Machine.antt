-- The reader's machine: a stack of symbols, a word at a time. An entry has a symbol, the link of the sibling before it (its number
-- and one; 0 for none), the link of the CALL that it stands in, and its level. Nothing here is believed: the laws tie it to the grammar.
use mathlib.Core.List.{List, [], ◌∷◌, ◌++◌}
use mathlib.Core.Option.{Option, none, some}
use mathlib.Core.Bool.{cond}
use Prim.Native.Nat.{ℕ, zero, suc, ◌+◌}
use lib.ListN.{length}
use lib.Dec.{eqb}
use Rattle.language.specs.Words.{Mark, k_lbr, k_rbr, k_lpar, k_rpar, k_semi, k_colon, k_comma, k_star, k_arrow, k_const, k_fun, k_rec, k_var, k_proc, k_echo, k_set, k_if, k_while, k_call, k_return, kif, kand, kor, kbool, kint, kvar, kadr, kvec, kalloc, knth, klen, kvset, Word, mark, number, named, place_word}
use Rattle.language.specs.Table.{Forest, Node, node}

-- The kinds of words as numbers.
abbrev pub code : Mark → ℕ
code k_lbr = 1
code k_rbr = 2
code k_lpar = 3
code k_rpar = 4
code k_semi = 5
code k_colon = 6
code k_comma = 7
code k_star = 8
code k_arrow = 9
code k_const = 10
code k_fun = 11
code k_rec = 12
code k_var = 13
code k_proc = 14
code k_echo = 15
code k_set = 16
code k_if = 17
code k_while = 18
code k_call = 19
code kif = 20
code kand = 21
code kor = 22
code kbool = 23
code kint = 24
code kvar = 25
code kadr = 26
code kvec = 29
code kalloc = 30
code knth = 31
code klen = 32
code kvset = 33
code k_return = 34

abbrev pub t_num : ℕ
t_num = 27

abbrev pub t_name : ℕ
t_name = 28

abbrev pub tag : Word → ℕ
tag (mark m p) = code m
tag (number p z) = t_num
tag (named x) = t_name

-- Writing the table: the link of the sibling before, a node at the end, the kind of the last node.
abbrev pub sib : ℕ → Node → Node
sib m (node k p c s) = node k p c m

unfoldable pub set_sib : ℕ → ℕ → List Node → List Node
set_sib q m [] = []
set_sib zero m (x ∷ t) = sib m x ∷ t
set_sib (suc q) m (x ∷ t) = x ∷ set_sib q m t

unfoldable pub link : ℕ → ℕ → List Node → List Node
link zero m t = t
link (suc q) m t = set_sib q m t

unfoldable pub add_leaf : (k p q : ℕ) → List Node → List Node
add_leaf k p q t = link q (length t) t ++ (node k p 0 0 ∷ [])

unfoldable pub add_fork : (k p q : ℕ) → List Node → List Node
add_fork k p q t = link q (length t) t ++ (node k p (suc (length t)) 0 ∷ [])

abbrev pub rekind : ℕ → Node → Node
rekind j (node k p c s) = node j p c s

unfoldable pub retype : ℕ → List Node → List Node
retype j [] = []
retype j (x ∷ []) = rekind j x ∷ []
retype j (x ∷ y ∷ t) = x ∷ retype j (y ∷ t)

-- A function's node whose body turns out to be a block: 3 FUN becomes 32, 4 FUN REC becomes 33. The node is found by its link.
abbrev pub with_block : Node → Node
with_block (node k p c s) = node (29 + k) p c s

unfoldable pub set_block : ℕ → List Node → List Node
set_block i [] = []
set_block zero (x ∷ t) = with_block x ∷ t
set_block (suc i) (x ∷ t) = x ∷ set_block i t

unfoldable pub blocked : ℕ → List Node → List Node
blocked zero t = t
blocked (suc i) t = set_block i t

unfoldable pub put : Forest → ℕ → List Node → List Node
put Forest.none q t = t
put (Forest.leaf k p s) q t = put s (suc (length t)) (add_leaf k p q t)
put (Forest.fork k p c s) q t = put s (suc (length t)) (put c 0 (add_fork k p q t))

pub data Sym : Type 0 where
  sym_block sym_body sym_tail sym_semi sym_cn sym_ct sym_expr sym_funh sym_fn sym_ft sym_fl sym_farg1 sym_farg0 sym_fbody sym_fopen sym_end sym_arg1 sym_arg0 sym_colon sym_type sym_vn sym_proch sym_pn sym_pl sym_argp1 sym_argp0 sym_varn : Sym
  sym_sn sym_ic sym_ib sym_wc sym_kn sym_k1 sym_k0 sym_paren sym_parenp sym_e3 sym_e2 sym_e1 sym_rp sym_args1 sym_args0 sym_an sym_ts1 sym_ts0 sym_tr sym_tp sym_at : Sym

-- the CALL or the function's head that an entry stands in, and its level
pub data Ctx : Type 0 where
  ctx : ℕ → ℕ → Ctx

abbrev pub cal : Ctx → ℕ
cal (ctx c d) = c

abbrev pub lev : Ctx → ℕ
lev (ctx c d) = d

abbrev pub down : Ctx → Ctx
down u = ctx (cal u) (suc (lev u))

pub data Entry : Type 0 where
  ent : Sym → ℕ → Ctx → Entry

pub data Act : Type 0 where
  skip : Act
  leaf fork turn lead : ℕ → Act

-- `lead`: the first command of a function's block. The bracket before it was written as an abstraction's and is a block's, and the function has a block
abbrev pub act : Act → (p q : ℕ) → Ctx → List Node → List Node
act skip p q u t = t
act (leaf k) p q u t = add_leaf k p q t
act (fork k) p q u t = add_fork k p q t
act (turn k) p q u t = retype k t
act (lead k) p q u t = add_fork k p q (blocked (cal u) (retype 1 t))

-- How an entry is pushed: as the first child; with the same sibling before it; a body, after the sibling or after the CALL; in a CALL or a function's head.
pub data Push : Type 0 where
  kid deep same body back call : Sym → Push

-- given the link of the node that is next, and the entry's two
abbrev pub place : Push → (n q : ℕ) (u : Ctx) → Entry
place (kid X) n q u = ent X 0 u
place (deep X) n q u = ent X 0 (down u)
place (same X) n q u = ent X q u
place (body X) n q u = ent X q (ctx 0 (lev u))
place (back X) n q u = ent X (cal u) (ctx 0 (lev u))
place (call X) n q u = ent X 0 (ctx n (lev u))

-- the level that a rule opens
abbrev pub opened : Option Push → Ctx → ℕ
opened none u = 0
opened (some (kid X)) u = 0
opened (some (deep X)) u = suc (lev u)
opened (some (same X)) u = 0
opened (some (body X)) u = 0
opened (some (back X)) u = 0
opened (some (call X)) u = 0

abbrev pub places : Option Push → (n q : ℕ) (u : Ctx) → List Entry → List Entry
places none n q u s = s
places (some x) n q u s = place x n q u ∷ s

-- the sibling of the next node
abbrev pub follow : Option Sym → (n : ℕ) (u : Ctx) → List Entry → List Entry
follow none n u s = s
follow (some X) n u s = ent X n u ∷ s

-- On a token of this kind: what is written, what is pushed, and what comes beside the new node.
pub data Rule : Type 0 where
  rule : ℕ → Act → Option Push → Option Sym → Rule

abbrev pub thn : Option Sym → List Rule → List Rule
thn ns [] = []
thn ns (rule k a ps _ ∷ rs) = rule k a ps ns ∷ thn ns rs

abbrev pub name_rules : List Rule
name_rules = rule t_name (leaf 19) none none ∷ []

abbrev pub type_rules : List Rule
type_rules = rule (code kbool) (leaf 15) none none ∷ rule (code kint) (leaf 16) none none ∷ rule (code k_lpar) (fork 17) (some (deep sym_tp)) none ∷ []

-- what follows a type's parenthesis, besides types
abbrev pub vec_rules : List Rule
vec_rules = rule (code kvec) (turn 26) (some (same sym_tr)) none ∷ []

abbrev pub block_rules : List Rule
block_rules = rule (code k_lbr) (fork 1) (some (deep sym_body)) none ∷ []

-- an expression; `P` is what follows its parenthesis, `A` what follows its bracket
abbrev pub ex_rules : Sym → Sym → List Rule
ex_rules P A = rule t_num (leaf 18) none none ∷ rule t_name (leaf 19) none none ∷ rule (code k_lpar) (fork 23) (some (deep P)) none ∷ rule (code k_lbr) (fork 24) (some (deep A)) none ∷ []

abbrev pub expr_rules : List Rule
expr_rules = ex_rules sym_paren sym_arg1

abbrev pub exprp_rules : List Rule
exprp_rules = ex_rules sym_parenp sym_arg1

abbrev pub arg_rules : List Rule
arg_rules = rule t_name (fork 13) (some (kid sym_colon)) none ∷ []

abbrev pub argp_rules : List Rule
argp_rules = rule t_name (fork 13) (some (kid sym_colon)) none ∷ rule (code kvar) skip (some (same sym_varn)) none ∷ []

abbrev pub paren_rules : List Rule
paren_rules =
    rule (code kif) (turn 20) (some (same sym_e3)) none ∷ rule (code kand) (turn 21) (some (same sym_e2)) none ∷ rule (code kor) (turn 22) (some (same sym_e2)) none
    ∷ rule (code kalloc) (turn 27) (some (same sym_at)) none ∷ rule (code knth) (turn 28) (some (same sym_e2)) none
    ∷ rule (code klen) (turn 29) (some (same sym_e1)) none ∷ rule (code kvset) (turn 30) (some (same sym_e3)) none ∷ []

abbrev pub adr_rules : List Rule
adr_rules = rule (code kadr) (turn 25) (some (same sym_an)) none ∷ paren_rules

abbrev pub rec_rules : ℕ → Sym → List Rule
rec_rules k X = rule (code k_rec) (turn k) (some (same X)) none ∷ []

abbrev pub args_rules : List Rule
args_rules = rule (code k_rpar) skip none none ∷ []

abbrev pub call_rules : List Rule
call_rules = rule (code k_semi) skip (some (back sym_body)) none ∷ rule (code k_rbr) skip none none ∷ []

abbrev pub body_rules : List Rule
body_rules =
    rule (code k_const) (fork 2) (some (kid sym_cn)) (some sym_semi)
    ∷ rule (code k_fun) (fork 3) (some (call sym_funh)) (some sym_semi)
    ∷ rule (code k_var) (fork 5) (some (kid sym_vn)) (some sym_semi)
    ∷ rule (code k_proc) (fork 6) (some (kid sym_proch)) (some sym_semi)
    ∷ rule (code k_echo) (fork 8) (some (kid sym_expr)) (some sym_tail)
    ∷ rule (code k_set) (fork 9) (some (kid sym_sn)) (some sym_tail)
    ∷ rule (code k_if) (fork 10) (some (kid sym_ic)) (some sym_tail)
    ∷ rule (code k_while) (fork 11) (some (kid sym_wc)) (some sym_tail)
    ∷ rule (code k_call) (fork 12) (some (call sym_kn)) none
    ∷ rule (code k_return) (fork 31) (some (kid sym_expr)) (some sym_end)
    ∷ []

-- the same where they are the first of a function's block
abbrev pub opening : Act → Act
opening skip = skip
opening (leaf k) = leaf k
opening (fork k) = lead k
opening (turn k) = turn k
opening (lead k) = lead k

abbrev pub first_rules : List Rule → List Rule
first_rules [] = []
first_rules (rule k a ps ns ∷ rs) = rule k (opening a) ps ns ∷ first_rules rs

abbrev pub rules : Sym → List Rule
rules sym_block = thn none block_rules ++ []
rules sym_body = body_rules
rules sym_tail = rule (code k_semi) skip (some (body sym_body)) none ∷ rule (code k_rbr) skip none none ∷ []
rules sym_semi = rule (code k_semi) skip (some (body sym_body)) none ∷ []
rules sym_cn = thn (some sym_ct) name_rules ++ []
rules sym_ct = thn (some sym_expr) type_rules ++ []
rules sym_expr = thn none expr_rules ++ []
rules sym_funh = thn (some sym_ft) name_rules ++ rec_rules 4 sym_fn
rules sym_fn = thn (some sym_ft) name_rules ++ []
rules sym_ft = thn (some sym_fl) type_rules ++ []
rules sym_fl = rule (code k_lbr) skip (some (same sym_farg1)) none ∷ []
rules sym_farg1 = thn (some sym_farg0) arg_rules ++ []
rules sym_farg0 = rule (code k_comma) skip (some (same sym_farg1)) none ∷ rule (code k_rbr) skip (some (same sym_fbody)) none ∷ []
rules sym_fbody = thn none (ex_rules sym_paren sym_fopen) ++ []
rules sym_fopen = thn (some sym_arg0) arg_rules ++ first_rules body_rules
rules sym_end = rule (code k_rbr) skip none none ∷ []
rules sym_arg1 = thn (some sym_arg0) arg_rules ++ []
rules sym_arg0 = rule (code k_comma) skip (some (same sym_arg1)) none ∷ rule (code k_rbr) skip (some (same sym_expr)) none ∷ []
rules sym_colon = rule (code k_colon) skip (some (same sym_type)) none ∷ []
rules sym_type = thn none type_rules ++ []
rules sym_vn = thn (some sym_type) name_rules ++ []
rules sym_proch = thn (some sym_pl) name_rules ++ rec_rules 7 sym_pn
rules sym_pn = thn (some sym_pl) name_rules ++ []
rules sym_pl = rule (code k_lbr) skip (some (same sym_argp1)) none ∷ []
rules sym_argp1 = thn (some sym_argp0) argp_rules ++ []
rules sym_argp0 = rule (code k_comma) skip (some (same sym_argp1)) none ∷ rule (code k_rbr) skip (some (same sym_block)) none ∷ []
rules sym_varn = rule t_name (fork 14) (some (kid sym_colon)) none ∷ []
rules sym_sn = thn (some sym_expr) name_rules ++ []
rules sym_ic = thn (some sym_ib) expr_rules ++ []
rules sym_ib = thn (some sym_block) block_rules ++ []
rules sym_wc = thn (some sym_block) expr_rules ++ []
rules sym_kn = thn (some sym_k1) name_rules ++ []
rules sym_k1 = thn (some sym_k0) exprp_rules ++ []
rules sym_k0 = thn (some sym_k0) exprp_rules ++ call_rules
rules sym_paren = thn (some sym_args1) expr_rules ++ paren_rules
rules sym_parenp = thn (some sym_args1) expr_rules ++ adr_rules
rules sym_e3 = thn (some sym_e2) expr_rules ++ []
rules sym_e2 = thn (some sym_e1) expr_rules ++ []
rules sym_e1 = thn (some sym_rp) expr_rules ++ []
rules sym_rp = rule (code k_rpar) skip none none ∷ []
rules sym_args1 = thn (some sym_args0) expr_rules ++ []
rules sym_args0 = thn (some sym_args0) expr_rules ++ args_rules
rules sym_an = thn (some sym_rp) name_rules ++ []
rules sym_ts1 = thn (some sym_ts0) type_rules ++ []
rules sym_ts0 = rule (code k_star) skip (some (same sym_ts1)) none ∷ rule (code k_arrow) skip (some (same sym_tr)) none ∷ []
rules sym_tr = thn (some sym_rp) type_rules ++ []
rules sym_tp = thn (some sym_ts0) type_rules ++ vec_rules
rules sym_at = thn (some sym_e1) type_rules ++ []

abbrev pub pick : ℕ → List Rule → Option Rule
pick k [] = none
pick k (rule j a ps ns ∷ rs) = cond (eqb k j) (some (rule j a ps ns)) (pick k rs)

-- All read, or stopped at the first word of these (none: at the end); with the levels that the words before opened.
pub data Parsed : Type 0 where
  through : List Node → List ℕ → Parsed
  stuck : List Word → List ℕ → Parsed

abbrev pub fire : Rule → (p q : ℕ) (u : Ctx) → List Entry → List Node → (List ℕ → List ℕ) → (List Entry → List Node → (List ℕ → List ℕ) → Parsed) → Parsed
fire (rule j a ps ns) p q u s t f go = go (places ps (suc (length t)) q u (follow ns (suc (length t)) u s)) (act a p q u t) (λ l. f (opened ps u ∷ l))

-- `f` puts the levels that were opened before those to come
unfoldable pub parse : List Word → List Entry → List Node → (List ℕ → List ℕ) → Parsed
parse [] [] t f = through t (f [])
parse [] (e ∷ s) t f = stuck [] (f [])
parse (x ∷ ts) [] t f = stuck (x ∷ ts) (f [])
parse (x ∷ ts) (ent X q u ∷ s) t f =
    elim (pick (tag x) (rules X)) [ none ↦ stuck (x ∷ ts) (f []) | some ρ ↦ fire ρ (place_word x) q u s t f (λ s' t' g. parse ts s' t' g) ]

-- The same with the rules of the top symbol written out.
unfoldable pub enter : List Rule → (q : ℕ) (u : Ctx) → List Entry → List Node → (List ℕ → List ℕ) → List Word → Parsed
enter rs q u s t f [] = stuck [] (f [])
enter rs q u s t f (x ∷ ts) =
    elim (pick (tag x) rs) [ none ↦ stuck (x ∷ ts) (f []) | some ρ ↦ fire ρ (place_word x) q u s t f (λ s' t' g. parse ts s' t' g) ]

abbrev pub start : List Entry
start = ent sym_block 0 (ctx 0 0) ∷ []

abbrev pub whole : List Word → Parsed
whole ts = parse ts start [] (λ l. l)
