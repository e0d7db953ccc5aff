-- What the machine reads, the grammar yields. `Item X ts r`: the words from `ts` to `r` may stand where the symbol X is on the stack.
use mathlib.Core.Path.{◌≡◌, refl, sym, ◌∙◌, ap, subst}
use mathlib.Core.List.{List, [], ◌∷◌, ◌++◌, map}
use mathlib.Core.Option.{Option, none, some, some-injective, none-ne-some}
use mathlib.Core.Bool.{Bool, true, false, cond}
use lib.Dec.{eqb, eqb→eq, T}
use Prim.Native.Nat.{ℕ, zero, suc}
use native.Mathlib.Omega.{arith}
use lib.IntN.{ℤ}
use lib.ListN.{length}
use Rattle.language.specs.Syntax.{Ident}
use Rattle.language.specs.Words.{Mark, k_lbr, k_rbr, k_lpar, k_rpar, k_semi, k_colon, k_comma, k_star, k_arrow, k_const, k_fun, k_rec, k_var, k_proc, k_echo, k_set, k_if, k_while, k_call, k_return, kif, kand, kor, kbool, kint, kvar, kadr, kvec, kalloc, knth, klen, kvset, Word, mark, number, named, place_word}
use Rattle.language.specs.Grammar.{Sort, BLOCK, CMDS, DEF, STAT, TYPE, TYPES, ARG, ARGS, ARGP, ARGSP, EXPR, EXPRS, EXPRP, EXPRSP, TreeOf, Reads, r_block, r_last, r_def_then, r_stat_then, r_return, r_const, r_fun, r_fun_rec, r_fun_block, r_fun_rec_block, r_var, r_proc, r_proc_rec, r_bool, r_int, r_arrow, r_vec, r_one_type, r_more_types, r_arg, r_one_arg, r_more_args, r_val_arg, r_var_arg, r_one_argp, r_more_argsp, r_echo, r_set, r_if_stat, r_while, r_call, r_one_exprp, r_more_exprsp, r_val, r_adr, r_num, r_name, r_if_expr, r_and, r_or, r_app, r_abs, r_alloc, r_nth, r_len, r_vset, r_one_expr, r_more_exprs, Program}
use Rattle.language.specs.Table.{Node}
use Rattle.language.proofs.Reading.Machine.{code, t_num, t_name, tag, Sym, sym_block, sym_body, sym_tail, sym_semi, sym_cn, sym_ct, sym_expr, sym_funh, sym_fn, sym_ft, sym_fl, sym_farg1, sym_farg0, sym_fbody, sym_fopen, sym_end, sym_arg1, sym_arg0, sym_colon, sym_type, sym_vn, sym_proch, sym_pn, sym_pl, sym_argp1, sym_argp0, sym_varn, sym_sn, sym_ic, sym_ib, sym_wc, sym_kn, sym_k1, sym_k0, sym_paren, sym_parenp, sym_e3, sym_e2, sym_e1, sym_rp, sym_args1, sym_args0, sym_an, sym_ts1, sym_ts0, sym_tr, sym_tp, sym_at, Ctx, Entry, ent, places, follow, Rule, rule, thn, name_rules, type_rules, vec_rules, block_rules, ex_rules, expr_rules, exprp_rules, arg_rules, argp_rules, paren_rules, adr_rules, rec_rules, args_rules, call_rules, body_rules, first_rules, rules, pick, Parsed, through, stuck, parse, start, whole}
use Rattle.language.proofs.Reading.Complete.{Lit, lit}
use Rattle.language.proofs.Reading.Machine

-- The kinds of words are told apart by their numbers.
nth : ℕ → List (Option Mark) → Option Mark
nth n [] = none
nth zero (m ∷ ms) = m
nth (suc n) (m ∷ ms) = nth n ms

uncode : ℕ → Option Mark
uncode zero = none
uncode (suc n) = nth n (map some (k_lbr ∷ k_rbr ∷ k_lpar ∷ k_rpar ∷ k_semi ∷ k_colon ∷ k_comma ∷ k_star ∷ k_arrow ∷ k_const ∷ k_fun ∷ k_rec ∷ k_var ∷ k_proc ∷ k_echo ∷ k_set ∷ k_if ∷ k_while ∷ k_call ∷ kif ∷ kand ∷ kor ∷ kbool ∷ kint ∷ kvar ∷ kadr ∷ []) ++ (none ∷ none ∷ map some (kvec ∷ kalloc ∷ knth ∷ klen ∷ kvset ∷ k_return ∷ [])))

uncode_code : (m : Mark) → uncode (code m) ≡ some m
unfolding uncode nth
uncode_code k_lbr = refl
uncode_code k_rbr = refl
uncode_code k_lpar = refl
uncode_code k_rpar = refl
uncode_code k_semi = refl
uncode_code k_colon = refl
uncode_code k_comma = refl
uncode_code k_star = refl
uncode_code k_arrow = refl
uncode_code k_const = refl
uncode_code k_fun = refl
uncode_code k_rec = refl
uncode_code k_var = refl
uncode_code k_proc = refl
uncode_code k_echo = refl
uncode_code k_set = refl
uncode_code k_if = refl
uncode_code k_while = refl
uncode_code k_call = refl
uncode_code kif = refl
uncode_code kand = refl
uncode_code kor = refl
uncode_code kbool = refl
uncode_code kint = refl
uncode_code kvar = refl
uncode_code kadr = refl
uncode_code kvec = refl
uncode_code kalloc = refl
uncode_code knth = refl
uncode_code klen = refl
uncode_code kvset = refl
uncode_code k_return = refl

uncode_number : uncode t_num ≡ none
unfolding uncode nth
uncode_number = refl

uncode_name : uncode t_name ≡ none
unfolding uncode nth
uncode_name = refl

code_inj : (m n : Mark) → code m ≡ code n → m ≡ n
code_inj m n e = some-injective m n (sym (uncode_code m) ∙ (ap uncode e ∙ uncode_code n))

no_code : (k : ℕ) (m : Mark) → uncode k ≡ none → k ≡ code m → ⊥
no_code k m e h = none-ne-some m (sym e ∙ (ap uncode h ∙ uncode_code m))

by_mark : (m : Mark) (P : Word → Type 0) → ((p : ℕ) → P (mark m p)) → (x : Word) → tag x ≡ code m → P x
by_mark m P h (mark n p) e = subst (λ (i : Mark). P (mark i p)) (code_inj m n (sym e)) (h p)
by_mark m P h (number p z) e = absurd (no_code t_num m uncode_number e)
by_mark m P h (named x) e = absurd (no_code t_name m uncode_name e)

by_number : (P : Word → Type 0) → ((p : ℕ) (z : ℤ) → P (number p z)) → (x : Word) → tag x ≡ t_num → P x
by_number P h (mark n p) e = absurd (no_code t_num n uncode_number (sym e))
by_number P h (number p z) e = h p z
by_number P h (named x) e = absurd (no-num e)
  where
    no-num : t_name ≡ t_num → ⊥
    no-num e = omega (arith, e)

by_name : (P : Word → Type 0) → ((x : Ident) → P (named x)) → (x : Word) → tag x ≡ t_name → P x
by_name P h (mark n p) e = absurd (no_code t_name n uncode_name (sym e))
by_name P h (number p z) e = absurd (no_name e)
  where
    no_name : t_num ≡ t_name → ⊥
    no_name e = omega (arith, e)
by_name P h (named x) e = h x

data Named : List Word → List Word → Type 0 where
  nm : {x : Ident} {r : List Word} → Named (named x ∷ r) r

data Is (k : Sort) : List Word → List Word → Type 0 where
  is : {e : TreeOf k} {ts r : List Word} → Reads k e ts r → Is k ts r

-- a function's body
data Body : List Word → List Word → Type 0 where
  by_expr : {ts r : List Word} → Is EXPR ts r → Body ts r
  by_block : {ts r : List Word} → Is BLOCK ts r → Body ts r

infixr 60 ◌⨟◌
data Then (A B : List Word → List Word → Type 0) : List Word → List Word → Type 0 where
  ◌⨟◌ : {ts m r : List Word} → A ts m → B m r → Then A B ts r

-- What may stand for a symbol. A symbol that ends what was begun before it says so: `sym_tail` takes the statement, `sym_args0` the argument.
abbrev Item : Sym → List Word → List Word → Type 0
Item sym_block = Is BLOCK
Item sym_body = Then (Is CMDS) (Lit k_rbr)
Item sym_tail = λ ts r. (z : List Word) → Is STAT z ts → Then (Is CMDS) (Lit k_rbr) z r
Item sym_semi = Then (Lit k_semi) (Then (Is CMDS) (Lit k_rbr))
Item sym_cn = Then (Named) (Then (Is TYPE) (Is EXPR))
Item sym_ct = Then (Is TYPE) (Is EXPR)
Item sym_expr = Is EXPR
Item sym_funh = λ ts r. (p : ℕ) → Is DEF (mark k_fun p ∷ ts) r
Item sym_fn = Then (Named) (Then (Is TYPE) (Then (Lit k_lbr) (Then (Is ARGS) (Then (Lit k_rbr) Body))))
Item sym_ft = Then (Is TYPE) (Then (Lit k_lbr) (Then (Is ARGS) (Then (Lit k_rbr) Body)))
Item sym_fl = Then (Lit k_lbr) (Then (Is ARGS) (Then (Lit k_rbr) Body))
Item sym_farg1 = Then (Is ARGS) (Then (Lit k_rbr) Body)
Item sym_farg0 = λ ts r. (z : List Word) → Is ARG z ts → Then (Is ARGS) (Then (Lit k_rbr) Body) z r
Item sym_fbody = Body
Item sym_fopen = λ ts r. (p : ℕ) → Body (mark k_lbr p ∷ ts) r
Item sym_end = Lit k_rbr
Item sym_arg1 = Then (Is ARGS) (Then (Lit k_rbr) (Is EXPR))
Item sym_arg0 = λ ts r. (z : List Word) → Is ARG z ts → Then (Is ARGS) (Then (Lit k_rbr) (Is EXPR)) z r
Item sym_colon = Then (Lit k_colon) (Is TYPE)
Item sym_type = Is TYPE
Item sym_vn = Then (Named) (Is TYPE)
Item sym_proch = λ ts r. (p : ℕ) → Is DEF (mark k_proc p ∷ ts) r
Item sym_pn = Then (Named) (Then (Lit k_lbr) (Then (Is ARGSP) (Then (Lit k_rbr) (Is BLOCK))))
Item sym_pl = Then (Lit k_lbr) (Then (Is ARGSP) (Then (Lit k_rbr) (Is BLOCK)))
Item sym_argp1 = Then (Is ARGSP) (Then (Lit k_rbr) (Is BLOCK))
Item sym_argp0 = λ ts r. (z : List Word) → Is ARGP z ts → Then (Is ARGSP) (Then (Lit k_rbr) (Is BLOCK)) z r
Item sym_varn = Then (Named) (Then (Lit k_colon) (Is TYPE))
Item sym_sn = Then (Named) (Is EXPR)
Item sym_ic = Then (Is EXPR) (Then (Is BLOCK) (Is BLOCK))
Item sym_ib = Then (Is BLOCK) (Is BLOCK)
Item sym_wc = Then (Is EXPR) (Is BLOCK)
Item sym_kn = Then (Named) (Then (Is EXPRSP) (λ ts r. (z : List Word) → Is STAT z ts → Then (Is CMDS) (Lit k_rbr) z r))
Item sym_k1 = Then (Is EXPRSP) (λ ts r. (z : List Word) → Is STAT z ts → Then (Is CMDS) (Lit k_rbr) z r)
Item sym_k0 = λ ts r. (y : List Word) → Is EXPRP y ts → Then (Is EXPRSP) (λ ts r. (z : List Word) → Is STAT z ts → Then (Is CMDS) (Lit k_rbr) z r) y r
Item sym_paren = λ ts r. (p : ℕ) → Is EXPR (mark k_lpar p ∷ ts) r
Item sym_parenp = λ ts r. (p : ℕ) → Is EXPRP (mark k_lpar p ∷ ts) r
Item sym_e3 = Then (Is EXPR) (Then (Is EXPR) (Then (Is EXPR) (Lit k_rpar)))
Item sym_e2 = Then (Is EXPR) (Then (Is EXPR) (Lit k_rpar))
Item sym_e1 = Then (Is EXPR) (Lit k_rpar)
Item sym_rp = Lit k_rpar
Item sym_args1 = Then (Is EXPRS) (Lit k_rpar)
Item sym_args0 = λ ts r. (z : List Word) → Is EXPR z ts → Then (Is EXPRS) (Lit k_rpar) z r
Item sym_an = Then (Named) (Lit k_rpar)
Item sym_ts1 = Then (Is TYPES) (Then (Lit k_arrow) (Then (Is TYPE) (Lit k_rpar)))
Item sym_ts0 = λ ts r. (z : List Word) → Is TYPE z ts → Then (Is TYPES) (Then (Lit k_arrow) (Then (Is TYPE) (Lit k_rpar))) z r
Item sym_tr = Then (Is TYPE) (Lit k_rpar)
Item sym_tp = λ ts r. (p : ℕ) → Is TYPE (mark k_lpar p ∷ ts) r
Item sym_at = Then (Is TYPE) (Then (Is EXPR) (Lit k_rpar))

data Nil : List Word → Type 0 where
  nil : Nil []

infixr 55 ◌▸◌
data Seq (A : List Word → List Word → Type 0) (F : List Word → Type 0) : List Word → Type 0 where
  ◌▸◌ : {ts m : List Word} → A ts m → F m → Seq A F ts

abbrev Fits : List Entry → List Word → Type 0
Fits [] = Nil
Fits (ent X q u ∷ s) = Seq (Item X) (Fits s)

-- A rule is good for X, or for what may begin a symbol.
abbrev Good : Sym → Rule → Type 0
Good X (rule k a f ns) = (x : Word) → tag x ≡ k → (n q : ℕ) (u : Ctx) (s : List Entry) (ts : List Word) → Fits (places f n q u (follow ns n u s)) ts → Fits (ent X q u ∷ s) (x ∷ ts)

abbrev Heads : (List Word → List Word → Type 0) → Rule → Type 0
Heads A (rule k a f ns) = (x : Word) → tag x ≡ k → (n q : ℕ) (u : Ctx) (s : List Entry) (ts : List Word) → Fits (places f n q u s) ts → Seq A (Fits s) (x ∷ ts)

abbrev All : (Rule → Type 0) → List Rule → Type 0
All P [] = Unit {0}
All P (x ∷ rs) = P x × All P rs

over : {A B : List Word → List Word → Type 0} {F : List Word → Type 0} {ts ts' : List Word} → ((r : List Word) → A ts r → B ts' r) → Seq A F ts → Seq B F ts'
over f (a ▸ h) = f _ a ▸ h

over2 : {A B C : List Word → List Word → Type 0} {F : List Word → Type 0} {ts ts' : List Word} → ((r : List Word) → Then A B ts r → C ts' r) → Seq A (Seq B F) ts → Seq C F ts'
over2 f (a ▸ (b ▸ h)) = f _ (a ⨟ b) ▸ h

all_append : (P : Rule → Type 0) (rs ex : List Rule) → All P rs → All P ex → All P (rs ++ ex)
all_append P [] ex h k = k
all_append P (x ∷ rs) ex h k = (h.0, all_append P rs ex h.1 k)

-- the rules of a shape A, with nothing behind it, or with Y
heads0 : (X : Sym) (A : List Word → List Word → Type 0) → ((ts r : List Word) → A ts r → Item X ts r) → (rs : List Rule) → All (Heads A) rs → All (Good X) (thn none rs)
heads0 X A j [] h = tt
heads0 X A j (rule k a f ns ∷ rs) h = (
  λ x e n q u s ts g. over (λ r b. j _ r b) (h.0 x e n q u s ts g),
  heads0 X A j rs h.1,
)

heads1 : (X Y : Sym) (A : List Word → List Word → Type 0) → ((ts r : List Word) → Then A (Item Y) ts r → Item X ts r) → (rs : List Rule) → All (Heads A) rs → All (Good X) (thn (some Y) rs)
heads1 X Y A j [] h = tt
heads1 X Y A j (rule k a f ns ∷ rs) h = (
  λ x e n q u s ts g. over2 (λ r b. j _ r b) (h.0 x e n q u (ent Y n u ∷ s) ts g),
  heads1 X Y A j rs h.1,
)

-- What each rule makes of what it pushed.
arrow_of : {p : ℕ} {ts r : List Word} → Item sym_ts1 ts r → Is TYPE (mark k_lpar p ∷ ts) r
arrow_of (is a ⨟ lit ⨟ is t ⨟ lit) = is (r_arrow a t)

vec_type : {p i : ℕ} {ts r : List Word} → Item sym_tr ts r → Is TYPE (mark k_lpar p ∷ mark kvec i ∷ ts) r
vec_type (is t ⨟ lit) = is (r_vec t)

types_more : {p : ℕ} {z ts r : List Word} → Item sym_ts1 ts r → Is TYPE z (mark k_star p ∷ ts) → Item sym_ts1 z r
types_more (is a ⨟ k) (is t) = is (r_more_types t a) ⨟ k

types_end : {p : ℕ} {z ts r : List Word} → Item sym_tr ts r → Is TYPE z (mark k_arrow p ∷ ts) → Item sym_ts1 z r
types_end k (is t) = is (r_one_type t) ⨟ lit ⨟ k

arg_of_lem : {x : Ident} {ts r : List Word} → Item sym_colon ts r → Is ARG (named x ∷ ts) r
arg_of_lem (lit ⨟ is t) = is (r_arg t)

args_more : {p : ℕ} {z ts r : List Word} → Item sym_arg1 ts r → Is ARG z (mark k_comma p ∷ ts) → Item sym_arg1 z r
args_more (is a ⨟ k) (is t) = is (r_more_args t a) ⨟ k

args_end : {p : ℕ} {z ts r : List Word} → Is EXPR ts r → Is ARG z (mark k_rbr p ∷ ts) → Item sym_arg1 z r
args_end k (is t) = is (r_one_arg t) ⨟ lit ⨟ k

fargs_more : {p : ℕ} {z ts r : List Word} → Item sym_farg1 ts r → Is ARG z (mark k_comma p ∷ ts) → Item sym_farg1 z r
fargs_more (is a ⨟ k) (is t) = is (r_more_args t a) ⨟ k

fargs_end : {p : ℕ} {z ts r : List Word} → Body ts r → Is ARG z (mark k_rbr p ∷ ts) → Item sym_farg1 z r
fargs_end k (is t) = is (r_one_arg t) ⨟ lit ⨟ k

argp_val : {x : Ident} {ts r : List Word} → Item sym_colon ts r → Is ARGP (named x ∷ ts) r
argp_val (lit ⨟ is t) = is (r_val_arg t)

argp_var : {p : ℕ} {ts r : List Word} → Item sym_varn ts r → Is ARGP (mark kvar p ∷ ts) r
argp_var (nm ⨟ lit ⨟ is t) = is (r_var_arg t)

argsp_more : {p : ℕ} {z ts r : List Word} → Item sym_argp1 ts r → Is ARGP z (mark k_comma p ∷ ts) → Item sym_argp1 z r
argsp_more (is a ⨟ k) (is t) = is (r_more_argsp t a) ⨟ k

argsp_end : {p : ℕ} {z ts r : List Word} → Is BLOCK ts r → Is ARGP z (mark k_rbr p ∷ ts) → Item sym_argp1 z r
argsp_end k (is t) = is (r_one_argp t) ⨟ lit ⨟ k

block_of : {p : ℕ} {ts r : List Word} → Item sym_body ts r → Is BLOCK (mark k_lbr p ∷ ts) r
block_of (is c ⨟ lit) = is (r_block c)

abs_of : {p : ℕ} {ts r : List Word} → Item sym_arg1 ts r → Is EXPR (mark k_lbr p ∷ ts) r
abs_of (is a ⨟ lit ⨟ is e) = is (r_abs a e)

val_of : {ts r : List Word} → Is EXPR ts r → Is EXPRP ts r
val_of (is e) = is (r_val e)

app_of : {p : ℕ} {ts r : List Word} → Then (Is EXPR) (Item sym_args1) ts r → Is EXPR (mark k_lpar p ∷ ts) r
app_of (is e ⨟ is a ⨟ lit) = is (r_app e a)

if_of : {p i : ℕ} {ts r : List Word} → Item sym_e3 ts r → Is EXPR (mark k_lpar p ∷ mark kif i ∷ ts) r
if_of (is e ⨟ is f ⨟ is g ⨟ lit) = is (r_if_expr e f g)

and_of : {p i : ℕ} {ts r : List Word} → Item sym_e2 ts r → Is EXPR (mark k_lpar p ∷ mark kand i ∷ ts) r
and_of (is e ⨟ is f ⨟ lit) = is (r_and e f)

or_of : {p i : ℕ} {ts r : List Word} → Item sym_e2 ts r → Is EXPR (mark k_lpar p ∷ mark kor i ∷ ts) r
or_of (is e ⨟ is f ⨟ lit) = is (r_or e f)

alloc_of : {p i : ℕ} {ts r : List Word} → Item sym_at ts r → Is EXPR (mark k_lpar p ∷ mark kalloc i ∷ ts) r
alloc_of (is t ⨟ is e ⨟ lit) = is (r_alloc t e)

nth_of : {p i : ℕ} {ts r : List Word} → Item sym_e2 ts r → Is EXPR (mark k_lpar p ∷ mark knth i ∷ ts) r
nth_of (is e ⨟ is f ⨟ lit) = is (r_nth e f)

len_of : {p i : ℕ} {ts r : List Word} → Item sym_e1 ts r → Is EXPR (mark k_lpar p ∷ mark klen i ∷ ts) r
len_of (is e ⨟ lit) = is (r_len e)

vset_of : {p i : ℕ} {ts r : List Word} → Item sym_e3 ts r → Is EXPR (mark k_lpar p ∷ mark kvset i ∷ ts) r
vset_of (is e ⨟ is f ⨟ is g ⨟ lit) = is (r_vset e f g)

adr_of : {p i : ℕ} {ts r : List Word} → Item sym_an ts r → Is EXPRP (mark k_lpar p ∷ mark kadr i ∷ ts) r
adr_of (nm ⨟ lit) = is r_adr

exprs_more : {z ts r : List Word} → Item sym_args1 ts r → Is EXPR z ts → Item sym_args1 z r
exprs_more (is a ⨟ k) (is e) = is (r_more_exprs e a) ⨟ k

exprs_end : {p : ℕ} {z r : List Word} → Is EXPR z (mark k_rpar p ∷ r) → Item sym_args1 z r
exprs_end (is e) = is (r_one_expr e) ⨟ lit

call_more : {z ts r : List Word} → Item sym_k1 ts r → Is EXPRP z ts → Item sym_k1 z r
call_more (is a ⨟ k) (is e) = is (r_more_exprsp e a) ⨟ k

stat_more : {p : ℕ} {z ts r : List Word} → Item sym_body ts r → Is STAT z (mark k_semi p ∷ ts) → Item sym_body z r
stat_more (is c ⨟ k) (is a) = is (r_stat_then a c) ⨟ k

stat_end : {p : ℕ} {z r : List Word} → Is STAT z (mark k_rbr p ∷ r) → Item sym_body z r
stat_end (is a) = is (r_last a) ⨟ lit

call_semi : {p : ℕ} {z ts r : List Word} → Item sym_body ts r → Is EXPRP z (mark k_semi p ∷ ts) → Item sym_k1 z r
call_semi k (is e) = is (r_one_exprp e) ⨟ (λ z a. stat_more k a)

call_end : {p : ℕ} {z r : List Word} → Is EXPRP z (mark k_rbr p ∷ r) → Item sym_k1 z r
call_end (is e) = is (r_one_exprp e) ⨟ (λ z a. stat_end a)

def_then : {z ts r : List Word} → Is DEF z ts → Item sym_semi ts r → Item sym_body z r
def_then (is d) (lit ⨟ is c ⨟ k) = is (r_def_then d c) ⨟ k

const_of : {p : ℕ} {ts r : List Word} → Item sym_cn ts r → Is DEF (mark k_const p ∷ ts) r
const_of (nm ⨟ is t ⨟ is e) = is (r_const t e)

fun_of_lem : {p : ℕ} {ts r : List Word} → Item sym_fn ts r → Is DEF (mark k_fun p ∷ ts) r
fun_of_lem (nm ⨟ is t ⨟ lit ⨟ is a ⨟ lit ⨟ by_expr (is e)) = is (r_fun t a e)
fun_of_lem (nm ⨟ is t ⨟ lit ⨟ is a ⨟ lit ⨟ by_block (is b)) = is (r_fun_block t a b)

funrec_of : {p i : ℕ} {ts r : List Word} → Item sym_fn ts r → Is DEF (mark k_fun p ∷ mark k_rec i ∷ ts) r
funrec_of (nm ⨟ is t ⨟ lit ⨟ is a ⨟ lit ⨟ by_expr (is e)) = is (r_fun_rec t a e)
funrec_of (nm ⨟ is t ⨟ lit ⨟ is a ⨟ lit ⨟ by_block (is b)) = is (r_fun_rec_block t a b)

var_of : {p : ℕ} {ts r : List Word} → Item sym_vn ts r → Is DEF (mark k_var p ∷ ts) r
var_of (nm ⨟ is t) = is (r_var t)

proc_of_lem : {p : ℕ} {ts r : List Word} → Item sym_pn ts r → Is DEF (mark k_proc p ∷ ts) r
proc_of_lem (nm ⨟ lit ⨟ is a ⨟ lit ⨟ is b) = is (r_proc a b)

procrec_of : {p i : ℕ} {ts r : List Word} → Item sym_pn ts r → Is DEF (mark k_proc p ∷ mark k_rec i ∷ ts) r
procrec_of (nm ⨟ lit ⨟ is a ⨟ lit ⨟ is b) = is (r_proc_rec a b)

echo_of : {p : ℕ} {ts r : List Word} → Is EXPR ts r → Is STAT (mark k_echo p ∷ ts) r
echo_of (is e) = is (r_echo e)

set_of : {p : ℕ} {ts r : List Word} → Item sym_sn ts r → Is STAT (mark k_set p ∷ ts) r
set_of (nm ⨟ is e) = is (r_set e)

cond_of : {p : ℕ} {ts r : List Word} → Item sym_ic ts r → Is STAT (mark k_if p ∷ ts) r
cond_of (is e ⨟ is b ⨟ is c) = is (r_if_stat e b c)

while_of : {p : ℕ} {ts r : List Word} → Item sym_wc ts r → Is STAT (mark k_while p ∷ ts) r
while_of (is e ⨟ is b) = is (r_while e b)

call_of : {p : ℕ} {ts r : List Word} → Item sym_kn ts r → Item sym_body (mark k_call p ∷ ts) r
call_of (nm ⨟ is a ⨟ k) = k _ (is (r_call a))

-- the two ends of a definition and of a statement
a_def : {A : List Word → List Word → Type 0} {x : Word} {F : List Word → Type 0} {ts : List Word} → ((r : List Word) → A ts r → Is DEF (x ∷ ts) r)
    → Seq A (Seq (Item sym_semi) F) ts → Seq (Item sym_body) F (x ∷ ts)
a_def f (a ▸ b ▸ h) = def_then (f _ a) b ▸ h

a_stat : {A : List Word → List Word → Type 0} {x : Word} {F : List Word → Type 0} {ts : List Word} → ((r : List Word) → A ts r → Is STAT (x ∷ ts) r)
    → Seq A (Seq (Item sym_tail) F) ts → Seq (Item sym_body) F (x ∷ ts)
a_stat f (a ▸ b ▸ h) = b _ (f _ a) ▸ h

a_return : {p : ℕ} {F : List Word → Type 0} {ts : List Word} → Seq (Is EXPR) (Seq (Item sym_end) F) ts → Seq (Item sym_body) F (mark k_return p ∷ ts)
a_return (is e ▸ lit ▸ h) = (is (r_return e) ⨟ lit) ▸ h

name_heads : All (Heads (Named)) name_rules
name_heads = ((by_name _ (λ x n q u s ts h. nm ▸ h)), tt)

type_heads : All (Heads (Is TYPE)) type_rules
type_heads = ((by_mark kbool _ (λ p n q u s ts h. is r_bool ▸ h)), ((by_mark kint _ (λ p n q u s ts h. is r_int ▸ h)), ((by_mark k_lpar _ (λ p n q u s ts h. over (λ r a. a p) h)), tt)))

block_heads : All (Heads (Is BLOCK)) block_rules
block_heads = ((by_mark k_lbr _ (λ p n q u s ts h. over (λ r a. block_of a) h)), tt)

expr_heads : All (Heads (Is EXPR)) expr_rules
expr_heads = (
  (by_number _ (λ p z n q u s ts h. is r_num ▸ h)),
  ((by_name _ (λ x n q u s ts h. is r_name ▸ h)), ((by_mark k_lpar _ (λ p n q u s ts h. over (λ r a. a p) h)), ((by_mark k_lbr _ (λ p n q u s ts h. over (λ r a. abs_of a) h)), tt))),
)

body_heads : All (Heads Body) (ex_rules sym_paren sym_fopen)
body_heads = (
  (by_number _ (λ p z n q u s ts h. by_expr (is r_num) ▸ h)),
  (
    (by_name _ (λ x n q u s ts h. by_expr (is r_name) ▸ h)),
    ((by_mark k_lpar _ (λ p n q u s ts h. over (λ r a. by_expr (a p)) h)), ((by_mark k_lbr _ (λ p n q u s ts h. over (λ r a. a p) h)), tt)),
  ),
)

exprp_heads : All (Heads (Is EXPRP)) exprp_rules
exprp_heads = (
  (by_number _ (λ p z n q u s ts h. is (r_val r_num) ▸ h)),
  ((by_name _ (λ x n q u s ts h. is (r_val r_name) ▸ h)), ((by_mark k_lpar _ (λ p n q u s ts h. over (λ r a. a p) h)), ((by_mark k_lbr _ (λ p n q u s ts h. over (λ r a. val_of (abs_of a)) h)), tt))),
)

arg_heads : All (Heads (Is ARG)) arg_rules
arg_heads = ((by_name _ (λ x n q u s ts h. over (λ r a. arg_of_lem a) h)), tt)

argp_heads : All (Heads (Is ARGP)) argp_rules
argp_heads = ((by_name _ (λ x n q u s ts h. over (λ r a. argp_val a) h)), ((by_mark kvar _ (λ p n q u s ts h. over (λ r a. argp_var a) h)), tt))

-- a shape and the next, where that is what the symbol stands for
pure0 : (X : Sym) (A : List Word → List Word → Type 0) (rs : List Rule) → ((ts r : List Word) → A ts r → Item X ts r) → All (Heads A) rs → All (Good X) (thn none rs ++ [])
pure0 X A rs j h = all_append (Good X) (thn none rs) [] (heads0 X A j rs h) tt

pure1 : (X Y : Sym) (A : List Word → List Word → Type 0) (rs : List Rule) → ((ts r : List Word) → Then A (Item Y) ts r → Item X ts r) → All (Heads A) rs → All (Good X) (thn (some Y) rs ++ [])
pure1 X Y A rs j h = all_append (Good X) (thn (some Y) rs) [] (heads1 X Y A j rs h) tt

paren_good : All (Good sym_paren) paren_rules
paren_good = (
  (by_mark kif _ (λ p n q u s ts h. over (λ r a i. if_of a) h)),
  (
    (by_mark kand _ (λ p n q u s ts h. over (λ r a i. and_of a) h)),
    (
      (by_mark kor _ (λ p n q u s ts h. over (λ r a i. or_of a) h)),
      (
        (by_mark kalloc _ (λ p n q u s ts h. over (λ r a i. alloc_of a) h)),
        (
          (by_mark knth _ (λ p n q u s ts h. over (λ r a i. nth_of a) h)),
          ((by_mark klen _ (λ p n q u s ts h. over (λ r a i. len_of a) h)), ((by_mark kvset _ (λ p n q u s ts h. over (λ r a i. vset_of a) h)), tt)),
        ),
      ),
    ),
  ),
)

parenp_good : All (Good sym_parenp) adr_rules
parenp_good = (
  (by_mark kadr _ (λ p n q u s ts h. over (λ r a i. adr_of a) h)),
  (
    (by_mark kif _ (λ p n q u s ts h. over (λ r a i. val_of (if_of a)) h)),
    (
      (by_mark kand _ (λ p n q u s ts h. over (λ r a i. val_of (and_of a)) h)),
      (
        (by_mark kor _ (λ p n q u s ts h. over (λ r a i. val_of (or_of a)) h)),
        (
          (by_mark kalloc _ (λ p n q u s ts h. over (λ r a i. val_of (alloc_of a)) h)),
          (
            (by_mark knth _ (λ p n q u s ts h. over (λ r a i. val_of (nth_of a)) h)),
            ((by_mark klen _ (λ p n q u s ts h. over (λ r a i. val_of (len_of a)) h)), ((by_mark kvset _ (λ p n q u s ts h. over (λ r a i. val_of (vset_of a)) h)), tt)),
          ),
        ),
      ),
    ),
  ),
)

body_good : All (Good sym_body) body_rules
body_good = (
  (by_mark k_const _ (λ p n q u s ts h. a_def (λ r a. const_of a) h)),
  (
    (by_mark k_fun _ (λ p n q u s ts h. a_def (λ r a. a p) h)),
    (
      (by_mark k_var _ (λ p n q u s ts h. a_def (λ r a. var_of a) h)),
      (
        (by_mark k_proc _ (λ p n q u s ts h. a_def (λ r a. a p) h)),
        (
          (by_mark k_echo _ (λ p n q u s ts h. a_stat (λ r a. echo_of a) h)),
          (
            (by_mark k_set _ (λ p n q u s ts h. a_stat (λ r a. set_of a) h)),
            (
              (by_mark k_if _ (λ p n q u s ts h. a_stat (λ r a. cond_of a) h)),
              ((by_mark k_while _ (λ p n q u s ts h. a_stat (λ r a. while_of a) h)), ((by_mark k_call _ (λ p n q u s ts h. over (λ r a. call_of a) h)), ((by_mark k_return _ (λ p n q u s ts h. a_return h)), tt))),
            ),
          ),
        ),
      ),
    ),
  ),
)

-- what is good for commands is good for the first of a function's block
first_good : (rs : List Rule) → All (Good sym_body) rs → All (Good sym_fopen) (first_rules rs)
first_good [] h = tt
first_good (rule k a f ns ∷ rs) h = (λ x e n q u s ts g. over (λ r b p. by_block (block_of b)) (h.0 x e n q u s ts g), first_good rs h.1)

good : (X : Sym) → All (Good X) (rules X)
good sym_block = pure0 sym_block (Is BLOCK) block_rules (λ ts r a. a) block_heads
good sym_body = body_good
good sym_tail = ((by_mark k_semi _ (λ p n q u s ts h. over (λ r a z b. stat_more a b) h)), ((by_mark k_rbr _ (λ p n q u s ts h. (λ z b. stat_end b) ▸ h)), tt))
good sym_semi = ((by_mark k_semi _ (λ p n q u s ts h. over (λ r a. lit ⨟ a) h)), tt)
good sym_cn = pure1 sym_cn sym_ct (Named) name_rules (λ ts r a. a) name_heads
good sym_ct = pure1 sym_ct sym_expr (Is TYPE) type_rules (λ ts r a. a) type_heads
good sym_expr = pure0 sym_expr (Is EXPR) expr_rules (λ ts r a. a) expr_heads
good sym_funh = all_append (Good sym_funh) (thn (some sym_ft) name_rules) (rec_rules 4 sym_fn) (heads1 sym_funh sym_ft (Named) (λ ts r a p. fun_of_lem a) name_rules name_heads) ((by_mark k_rec _ (λ p n q u s ts h. over (λ r a i. funrec_of a) h)), tt)
good sym_fn = pure1 sym_fn sym_ft (Named) name_rules (λ ts r a. a) name_heads
good sym_ft = pure1 sym_ft sym_fl (Is TYPE) type_rules (λ ts r a. a) type_heads
good sym_fl = ((by_mark k_lbr _ (λ p n q u s ts h. over (λ r a. lit ⨟ a) h)), tt)
good sym_farg1 = pure1 sym_farg1 sym_farg0 (Is ARG) arg_rules (λ ts r a. elim a [ b ⨟ k ↦ k _ b ]) arg_heads
good sym_farg0 = ((by_mark k_comma _ (λ p n q u s ts h. over (λ r a z b. fargs_more a b) h)), ((by_mark k_rbr _ (λ p n q u s ts h. over (λ r a z b. fargs_end a b) h)), tt))
good sym_fbody = pure0 sym_fbody Body (ex_rules sym_paren sym_fopen) (λ ts r a. a) body_heads
good sym_fopen =
    all_append (Good sym_fopen) (thn (some sym_arg0) arg_rules) (first_rules body_rules)
    (heads1 sym_fopen sym_arg0 (Is ARG) (λ ts r a. elim a [ b ⨟ k ↦ λ p. by_expr (abs_of (k _ b)) ]) arg_rules arg_heads)
    (first_good body_rules body_good)
good sym_end = ((by_mark k_rbr _ (λ p n q u s ts h. lit ▸ h)), tt)
good sym_arg1 = pure1 sym_arg1 sym_arg0 (Is ARG) arg_rules (λ ts r a. elim a [ b ⨟ k ↦ k _ b ]) arg_heads
good sym_arg0 = ((by_mark k_comma _ (λ p n q u s ts h. over (λ r a z b. args_more a b) h)), ((by_mark k_rbr _ (λ p n q u s ts h. over (λ r a z b. args_end a b) h)), tt))
good sym_colon = ((by_mark k_colon _ (λ p n q u s ts h. over (λ r a. lit ⨟ a) h)), tt)
good sym_type = pure0 sym_type (Is TYPE) type_rules (λ ts r a. a) type_heads
good sym_vn = pure1 sym_vn sym_type (Named) name_rules (λ ts r a. a) name_heads
good sym_proch = all_append (Good sym_proch) (thn (some sym_pl) name_rules) (rec_rules 7 sym_pn) (heads1 sym_proch sym_pl (Named) (λ ts r a p. proc_of_lem a) name_rules name_heads) ((by_mark k_rec _ (λ p n q u s ts h. over (λ r a i. procrec_of a) h)), tt)
good sym_pn = pure1 sym_pn sym_pl (Named) name_rules (λ ts r a. a) name_heads
good sym_pl = ((by_mark k_lbr _ (λ p n q u s ts h. over (λ r a. lit ⨟ a) h)), tt)
good sym_argp1 = pure1 sym_argp1 sym_argp0 (Is ARGP) argp_rules (λ ts r a. elim a [ b ⨟ k ↦ k _ b ]) argp_heads
good sym_argp0 = ((by_mark k_comma _ (λ p n q u s ts h. over (λ r a z b. argsp_more a b) h)), ((by_mark k_rbr _ (λ p n q u s ts h. over (λ r a z b. argsp_end a b) h)), tt))
good sym_varn = ((by_name _ (λ x n q u s ts h. over (λ r a. nm ⨟ a) h)), tt)
good sym_sn = pure1 sym_sn sym_expr (Named) name_rules (λ ts r a. a) name_heads
good sym_ic = pure1 sym_ic sym_ib (Is EXPR) expr_rules (λ ts r a. a) expr_heads
good sym_ib = pure1 sym_ib sym_block (Is BLOCK) block_rules (λ ts r a. a) block_heads
good sym_wc = pure1 sym_wc sym_block (Is EXPR) expr_rules (λ ts r a. a) expr_heads
good sym_kn = pure1 sym_kn sym_k1 (Named) name_rules (λ ts r a. a) name_heads
good sym_k1 = pure1 sym_k1 sym_k0 (Is EXPRP) exprp_rules (λ ts r a. elim a [ b ⨟ k ↦ k _ b ]) exprp_heads
good sym_k0 =
    all_append
    (Good sym_k0)
    (thn (some sym_k0) exprp_rules)
    call_rules
    (heads1 sym_k0 sym_k0 (Is EXPRP) (λ ts r a. elim a [ b ⨟ k ↦ λ y e. call_more (k _ b) e ]) exprp_rules exprp_heads)
    ((by_mark k_semi _ (λ p n q u s ts h. over (λ r a y e. call_semi a e) h)), ((by_mark k_rbr _ (λ p n q u s ts h. (λ y e. call_end e) ▸ h)), tt))
good sym_paren = all_append (Good sym_paren) (thn (some sym_args1) expr_rules) paren_rules (heads1 sym_paren sym_args1 (Is EXPR) (λ ts r a p. app_of a) expr_rules expr_heads) paren_good
good sym_parenp = all_append (Good sym_parenp) (thn (some sym_args1) expr_rules) adr_rules (heads1 sym_parenp sym_args1 (Is EXPR) (λ ts r a p. val_of (app_of a)) expr_rules expr_heads) parenp_good
good sym_e3 = pure1 sym_e3 sym_e2 (Is EXPR) expr_rules (λ ts r a. a) expr_heads
good sym_e2 = pure1 sym_e2 sym_e1 (Is EXPR) expr_rules (λ ts r a. a) expr_heads
good sym_e1 = pure1 sym_e1 sym_rp (Is EXPR) expr_rules (λ ts r a. a) expr_heads
good sym_rp = ((by_mark k_rpar _ (λ p n q u s ts h. lit ▸ h)), tt)
good sym_args1 = pure1 sym_args1 sym_args0 (Is EXPR) expr_rules (λ ts r a. elim a [ b ⨟ k ↦ k _ b ]) expr_heads
good sym_args0 =
    all_append
    (Good sym_args0)
    (thn (some sym_args0) expr_rules)
    args_rules
    (heads1 sym_args0 sym_args0 (Is EXPR) (λ ts r a. elim a [ b ⨟ k ↦ λ y e. exprs_more (k _ b) e ]) expr_rules expr_heads)
    ((by_mark k_rpar _ (λ p n q u s ts h. (λ y e. exprs_end e) ▸ h)), tt)
good sym_an = pure1 sym_an sym_rp (Named) name_rules (λ ts r a. a) name_heads
good sym_ts1 = pure1 sym_ts1 sym_ts0 (Is TYPE) type_rules (λ ts r a. elim a [ b ⨟ k ↦ k _ b ]) type_heads
good sym_ts0 = ((by_mark k_star _ (λ p n q u s ts h. over (λ r a z b. types_more a b) h)), ((by_mark k_arrow _ (λ p n q u s ts h. over (λ r a z b. types_end a b) h)), tt))
good sym_tr = pure1 sym_tr sym_rp (Is TYPE) type_rules (λ ts r a. a) type_heads
good sym_tp =
    all_append (Good sym_tp) (thn (some sym_ts0) type_rules) vec_rules
    (heads1 sym_tp sym_ts0 (Is TYPE) (λ ts r a. elim a [ b ⨟ k ↦ λ p. arrow_of (k _ b) ]) type_rules type_heads)
    ((by_mark kvec _ (λ p n q u s ts h. over (λ r a i. vec_type a) h)), tt)
good sym_at = pure1 sym_at sym_e1 (Is TYPE) type_rules (λ ts r a. a) type_heads

abbrev Best : Word → Sym → Rule → Type 0
Best x X (rule j a f ns) = (n q : ℕ) (u : Ctx) (s : List Entry) (ts : List Word) → Fits (places f n q u (follow ns n u s)) ts → Fits (ent X q u ∷ s) (x ∷ ts)

-- The rule that is picked is good for the word that it was picked for.
picked : (x : Word) (X : Sym) (rs : List Rule) → All (Good X) rs → (ρ : Rule) → pick (tag x) rs ≡ some ρ → Best x X ρ
picked x X [] h ρ e = absurd (none-ne-some ρ e)
picked x X (rule j a f ns ∷ rs) h ρ e = go (eqb (tag x) j) refl e (λ e'. picked x X rs h.1 ρ e')
  where
    go : (b : Bool) → eqb (tag x) j ≡ b → cond b (some (rule j a f ns)) (pick (tag x) rs) ≡ some ρ → (pick (tag x) rs ≡ some ρ → Best x X ρ) → Best x X ρ
    go true t e' ih = subst (Best x X) (some-injective (rule j a f ns) ρ e') (h.0 x (eqb→eq (tag x) j (subst T (sym t) tt)))
    go false t e' ih = ih e'

no_stop : {ts : List Word} {l o : List ℕ} {t : List Node} → stuck ts l ≡ through t o → ⊥
no_stop e = subst (λ (r : Parsed). elim r as (λ _. Type 0) [ through t o ↦ ⊥ | stuck ts l ↦ Unit {0} ]) e tt

fits : (ts : List Word) (s : List Entry) (t : List Node) (ls : List ℕ → List ℕ) (t' : List Node) (o : List ℕ) → parse ts s t ls ≡ through t' o → Fits s ts
unfolding parse
fits [] [] t ls t' o e = nil
fits [] (x ∷ s) t ls t' o e = absurd (no_stop e)
fits (x ∷ ts) [] t ls t' o e = absurd (no_stop e)
fits (x ∷ ts) (ent X q u ∷ s) t ls t' o e = go (pick (tag x) (rules X)) refl e (λ s' tab l e'. fits ts s' tab l t' o e')
  where
    go : (c : Option Rule)
        → pick (tag x) (rules X) ≡ c
        → elim c as (λ _. Parsed) [ none ↦ stuck (x ∷ ts) (ls []) | some ρ ↦ Machine.fire ρ (place_word x) q u s t ls (λ s' t' l. parse ts s' t' l) ] ≡ through t' o
        → ((s' : List Entry) (tab : List Node) (l : List ℕ → List ℕ) → parse ts s' tab l ≡ through t' o → Fits s' ts)
        → Fits (ent X q u ∷ s) (x ∷ ts)
    go none c e' ih = absurd (no_stop e')
    go (some (rule j a f ns)) c e' ih = picked x X (rules X) (good X) (rule j a f ns) c (suc (length t)) q u s ts (ih _ _ _ e')

-- What is read to the end is a program.
pub sound : (ts : List Word) (t : List Node) (o : List ℕ) → whole ts ≡ through t o → Program ts
sound ts t o e = go (fits ts start [] (λ l. l) t o e)
  where
    go : {z : List Word} → Fits start z → Program z
    go (is {e = b} h ▸ nil) = (b, h)
