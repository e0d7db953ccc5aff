-- The judge is right about what it accepts, and about the place where it refuses.
use mathlib.Core.Path.{◌≡◌, refl, sym, ◌∙◌, ap₂, subst}
use mathlib.Core.Logic.{◌↔◌, ◌⊎◌, inl, inr}
use Prim.Native.Nat.{ℕ}
use mathlib.Core.Bool.{Bool, true, false}
use mathlib.Core.List.{List, [], ◌∷◌, ◌++◌}
use mathlib.Core.Option.{Option, none, some}
use lib.Dec.{T}
use Rattle.language.specs.Syntax.{Name, at, TypeTree, bool, int, arrow, vec, TypeTrees, one_type, more_types, ArgP, Expr, num, name, if_expr, and, or, app, abs, alloc, nth_expr, len, vset, Exprs, one_expr, more_exprs, ExprP, val, adr, Cmds, last, def_then, stat_then, Def, const, fun, fun_rec, fun_block, fun_rec_block, var, proc, proc_rec, Stat, echo, set, if_stat, while, call, return, Block, block}
use Rattle.language.specs.Places.{place_expr, place_param, place_stat, place_block}
use Rattle.language.specs.Answers.{Refusal, TYPE, Result, fine, refuse}
use Rattle.language.specs.Names.{Op, Meaning, literal, operator, free, meaning, head_operator}
use Rattle.language.specs.Types.{Ty, base, fn, vec_of, Tys, tnil, tcons, BOOL, INT, type_of, Par, value, ref, Entity, plain, procedure, Ctx, find, extend, values, param_type, param_name, declared, Flow, never, may, always, takes}
use Rattle.language.specs.Typing.{Free, Formed, AllFormed, Declarable, Single, DeclarableAfter, AllDeclarable, among, HasE, NUM, LITERAL, IDV, IDR, IF, AND, OR, PRIM, APP, ABS, ALLOC, NTH, LEN, VSET, HasEs, ONE, MORE, HasA, REF, VAL, HasAs, NO_ARGS, ARGS, Either, both_never, both_always, never_may, never_always, may_never, may_may, may_always, always_never, always_may, GoesOn, Before, after_never, after_may, then_always, HasB, BLOC, HasC, DECS, STATS, END, HasD, CONST, FUN, FUNREC, VAR, PROC, PROCREC, HasS, FUNP, FUNRECP, ECHO, SET, IFS, WHILE, CALL, RET, Typable}
use Rattle.language.specs.Order.{JudgedNode, expr_node, adr_node, vec_node, param_node, single_node, def_node, stat_node, followed_node, block_node, prog_node, place_node, refusal_node, Typed, after_def, nodes_type, nodes_types, nodes_after, nodes_params, nodes_head, nodes_expr, nodes_exprs, nodes_arg, nodes_args, nodes_block, nodes_cmds, nodes_def, nodes_stat, nodes_prog, FirstBad, here, later, TypeRefused}
use Rattle.language.proofs.Typing.Judge.{and_then, judged, only, passes, single, andb, same_type, same_types, is_free, is_base, is_element_type, name_type, if_type, bools_type, prim_type, app_type, alloc_type, nth_type, len_type, vset_type, judge_app, judge_type, judge_types, judge_after, judge_params, judge_expr, judge_exprs, type_referred, call_pars, fits_ref, fits_call, as_ref, judge_arg, judge_args, is_never, goes_on, either_flow, sequel, judge_block, judge_cmds, judge_def, judge_stat, judge}
use Rattle.language.proofs.Typing.SameType.{andb_l, andb_r, same_type_is, same_types_is, same_pars_is, never_is, always_is, goes_is, goes_in, free_is, base_is, element_in, element_is, declarable_in, declarable_is}
use Rattle.language.proofs.Typing.Unique.{Is, is, IsO, is_o, is_pass, complete_type, complete_params, complete_expr, complete_exprs, complete_arg, complete_args, complete_block, complete_def, complete_stat, unique_flows, unique_stat, complete_prog}

pub data AllTyped : List JudgedNode → Type 0 where
  all_nil : AllTyped []
  all_cons : {n : JudgedNode} {l : List JudgedNode} → Typed n → AllTyped l → AllTyped (n ∷ l)

-- a verdict over the nodes R: fine, and P of the result and all are typed; or what is said at the first that is not
pub data View {A : Type 0} (P : A → Type 0) (R : List JudgedNode) : Result A → Type 0 where
  vfine : {a : A} → P a → AllTyped R → View P R (fine a)
  vbad : {r : Refusal} {q : ℕ} → FirstBad R r q → View P R (refuse r q)

all_app : {l m : List JudgedNode} → AllTyped l → AllTyped m → AllTyped (l ++ m)
all_app all_nil k = k
all_app (all_cons h r) k = all_cons h (all_app r k)

first_app : {l : List JudgedNode} (m : List JudgedNode) {r : Refusal} {q : ℕ} → FirstBad l r q → FirstBad (l ++ m) r q
first_app m (here h) = here h
first_app m (later h k) = later h (first_app m k)

later_app : {l m : List JudgedNode} {r : Refusal} {q : ℕ} → AllTyped l → FirstBad m r q → FirstBad (l ++ m) r q
later_app all_nil k = k
later_app (all_cons h r) k = later h (later_app r k)

shift : {B : Type 0} {Q : B → Type 0} {R R' : List JudgedNode} {o : Result B} → AllTyped R → View Q R' o → View Q (R ++ R') o
shift al (vfine q al') = vfine q (all_app al al')
shift al (vbad f) = vbad (later_app al f)

-- a part, and then the rest
seq : {A B : Type 0} {P : A → Type 0} {Q : B → Type 0} {R R' : List JudgedNode} {o : Result A} {k : A → Result B} → View P R o →
    ((a : A) → P a → View Q R' (k a)) → View Q (R ++ R') (and_then o k)
unfolding and_then
seq (vfine {a = a} p al) f = shift al (f a p)
seq {R' = R'} (vbad b) f = vbad (first_app R' b)

-- the same, with what the part came to
seq_is : {A B : Type 0} {P : A → Type 0} {Q : B → Type 0} {R R' : List JudgedNode} {o : Result A} {k : A → Result B} → View P R o →
    ((a : A) → P a → Is a o → View Q R' (k a)) → View Q (R ++ R') (and_then o k)
unfolding and_then
seq_is (vfine {a = a} p al) f = shift al (f a p is)
seq_is {R' = R'} (vbad b) f = vbad (first_app R' b)

-- a part, and then a result of it
seq_fine : {A B : Type 0} {P : A → Type 0} {Q : B → Type 0} {R : List JudgedNode} {o : Result A} (f : A → B) → View P R o → ((a : A) → P a → Q (f a)) →
    View Q R (and_then o λ a. fine (f a))
unfolding and_then
seq_fine f (vfine {a = a} p al) g = vfine (g a p) al
seq_fine f (vbad b) g = vbad b

no_is : {A : Type 0} {t : A} {r : Refusal} {p : ℕ} → Is t (refuse r p) → ⊥
no_is = elim [ ]

no_is_o : {A : Type 0} {t : A} → IsO t none → ⊥
no_is_o = elim [ ]

map_view : {A : Type 0} {P Q : A → Type 0} {R : List JudgedNode} {o : Result A} → ((a : A) → P a → Q a) → View P R o → View Q R o
map_view f (vfine p al) = vfine (f _ p) al
map_view f (vbad b) = vbad b

-- what is said at a node that cannot be typed
abbrev said : (A : Type 0) → JudgedNode → Result A
said A n = refuse (refusal_node n) (place_node n)

-- the node's own rule, with what the node is given
own : {A : Type 0} {P : A → Type 0} (n : JudgedNode) (p : ℕ) (o : Option A) → said A n ≡ refuse TYPE p →
    ((a : A) → IsO a o → P a) → ((a : A) → P a → Typed n) → (Typed n → (a : A) × Is a (judged p o)) → View P (n ∷ []) (judged p o)
unfolding judged
own {P = P} n p none q f t g = subst (λ o. View P (n ∷ []) o) q (vbad (here (λ h. no_is (g h).1)))
own n p (some a) q f t g = vfine (f a is_o) (all_cons (t a (f a is_o)) all_nil)

-- the same for a node that only has to pass a test
pass : {X : Type 0} (n : JudgedNode) (p : ℕ) (b : Bool) → said (Unit {0}) n ≡ refuse TYPE p → (T b → X) → (X → Typed n) → (Typed n → Is tt (passes p b)) →
    View (λ (u : Unit {0}). X) (n ∷ []) (passes p b)
unfolding passes judged only
pass n p true q f t g = vfine (f tt) (all_cons (t (f tt)) all_nil)
pass {X = X} n p false q f t g = subst (λ o. View (λ (u : Unit {0}). X) (n ∷ []) o) q (vbad (here (λ h. no_is (g h))))

-- past a part that is fine
peel : {A B : Type 0} {a : A} {b : B} {o : Result A} (k : A → Result B) → Is a o → Is b (and_then o k) → Is b (k a)
unfolding and_then
peel k is h = h

only_inv : {A : Type 0} {a : A} {o : Option A} (b : Bool) → IsO a (only b o) → T b × IsO a o
unfolding only
only_inv true h = (tt, h)
only_inv false h = absurd (no_is_o h)

is_o_uniq : {A : Type 0} {a b : A} → IsO a (some b) → b ≡ a
is_o_uniq is_o = refl

-- ---- each own rule gives what its typing rule says

-- a part of the type that the rule wants
as_type : {Γ : Ctx} {e : Expr} {t : Ty} (u : Ty) → T (same_type t u) → HasE Γ e t → HasE Γ e u
as_type {Γ} {e} {t} u b h = subst (λ t. HasE Γ e t) (same_type_is t u b) h

as_types : {Γ : Ctx} {es : Exprs} {ts : Tys} (us : Tys) → T (same_types ts us) → HasEs Γ es ts → HasEs Γ es us
as_types {Γ} {es} {ts} us b h = subst (λ ts. HasEs Γ es ts) (same_types_is ts us b) h

name_own : {Γ : Ctx} {p : ℕ} {x : Name} {t : Ty} (m : Meaning) (o : Option Entity) → meaning x ≡ m → find Γ x ≡ o → IsO t (name_type m o) →
    HasE Γ (name (at p x)) t
name_own (literal b) o e f is_o = LITERAL e
name_own (operator g) o e f h = absurd (no_is_o h)
name_own free none e f h = absurd (no_is_o h)
name_own free (some (plain (value t))) e f is_o = IDV f
name_own free (some (plain (ref t))) e f is_o = IDR f
name_own free (some (procedure qs)) e f h = absurd (no_is_o h)

if_own : {Γ : Ctx} {p : ℕ} {a b c : Expr} {ta tb tc t : Ty} → HasE Γ a ta → HasE Γ b tb → HasE Γ c tc → IsO t (if_type ta tb tc) → HasE Γ (if_expr p a b c) t
if_own {Γ} {p} {a} {b} {c} {ta} {tb} {tc} ha hb hc i =
    let u = only_inv (same_type ta BOOL) i in let v = only_inv (same_type tc tb) u.1 in
    subst (λ t. HasE Γ (if_expr p a b c) t) (is_o_uniq v.1) (IF (as_type BOOL u.0 ha) hb (as_type tb v.0 hc))

bools_own : {Γ : Ctx} {a b e : Expr} {ta tb t : Ty} → (HasE Γ a BOOL → HasE Γ b BOOL → HasE Γ e BOOL) → HasE Γ a ta → HasE Γ b tb → IsO t (bools_type ta tb) →
    HasE Γ e t
bools_own {Γ} {a} {b} {e} {ta} {tb} rule ha hb i =
    let u = only_inv (same_type ta BOOL) i in let v = only_inv (same_type tb BOOL) u.1 in
    subst (λ t. HasE Γ e t) (is_o_uniq v.1) (rule (as_type BOOL u.0 ha) (as_type BOOL v.0 hb))

prim_own : {Γ : Ctx} {p : ℕ} {f : Expr} {o : Op} {es : Exprs} {ts : Tys} {t : Ty} → head_operator f ≡ some o → HasEs Γ es ts → IsO t (prim_type o ts) →
    HasE Γ (app p f es) t
prim_own {Γ} {p} {f} {o} {es} {ts} e h i =
    let u = only_inv (same_types ts (takes o)) i in subst (λ t. HasE Γ (app p f es) t) (is_o_uniq u.1) (PRIM e (as_types (takes o) u.0 h))

app_own : {Γ : Ctx} {p : ℕ} {f : Expr} {es : Exprs} (tf : Ty) {us : Tys} {t : Ty} → HasE Γ f tf → HasEs Γ es us → IsO t (app_type tf us) → HasE Γ (app p f es) t
app_own (base b) hf hs i = absurd (no_is_o i)
app_own (vec_of r) hf hs i = absurd (no_is_o i)
app_own {Γ} {p} {f} {es} (fn ts r) {us} hf hs i =
    let u = only_inv (same_types us ts) i in subst (λ t. HasE Γ (app p f es) t) (is_o_uniq u.1) (APP hf (as_types ts u.0 hs))

alloc_own : {Γ : Ctx} {p : ℕ} (t : TypeTree) {e : Expr} {u r : Ty} → Formed t → HasE Γ e u → IsO r (alloc_type (type_of t) u) → HasE Γ (alloc p t e) r
alloc_own {Γ} {p} t {e} {u} f h i =
    let x = only_inv (is_element_type (type_of t)) i in let y = only_inv (same_type u INT) x.1 in
    subst (λ r. HasE Γ (alloc p t e) r) (is_o_uniq y.1) (ALLOC (f, element_is (type_of t) x.0) (as_type INT y.0 h))

nth_own : {Γ : Ctx} {p : ℕ} {a b : Expr} (ta : Ty) {tb t : Ty} → HasE Γ a ta → HasE Γ b tb → IsO t (nth_type ta tb) → HasE Γ (nth_expr p a b) t
nth_own (base k) ha hb i = absurd (no_is_o i)
nth_own (fn ts r) ha hb i = absurd (no_is_o i)
nth_own {Γ} {p} {a} {b} (vec_of r) {tb} ha hb i =
    let u = only_inv (same_type tb INT) i in subst (λ t. HasE Γ (nth_expr p a b) t) (is_o_uniq u.1) (NTH ha (as_type INT u.0 hb))

len_own : {Γ : Ctx} {p : ℕ} {a : Expr} (ta : Ty) {t : Ty} → HasE Γ a ta → IsO t (len_type ta) → HasE Γ (len p a) t
len_own (base k) ha i = absurd (no_is_o i)
len_own (fn ts r) ha i = absurd (no_is_o i)
len_own {Γ} {p} {a} (vec_of r) ha i = subst (λ t. HasE Γ (len p a) t) (is_o_uniq i) (LEN ha)

vset_own : {Γ : Ctx} {p : ℕ} {a b c : Expr} (ta : Ty) {tb tc t : Ty} → HasE Γ a ta → HasE Γ b tb → HasE Γ c tc → IsO t (vset_type ta tb tc) → HasE Γ (vset p a b c) t
vset_own (base k) ha hb hc i = absurd (no_is_o i)
vset_own (fn ts r) ha hb hc i = absurd (no_is_o i)
vset_own {Γ} {p} {a} {b} {c} (vec_of r) {tb} {tc} ha hb hc i =
    let u = only_inv (same_type tb INT) i in let v = only_inv (same_type tc r) u.1 in
    subst (λ t. HasE Γ (vset p a b c) t) (is_o_uniq v.1) (VSET ha (as_type INT u.0 hb) (as_type r v.0 hc))

mutual
  unfolding judge_type nodes_type

  view_type : (t : TypeTree) → View (λ u. Formed t) (nodes_type t) (judge_type t)
  view_type (bool p) = vfine tt all_nil
  view_type (int p) = vfine tt all_nil
  view_type (arrow p ts t) = seq (view_types ts) λ u g. map_view (λ v h. (g, h)) (view_type t)
  view_type (vec p t) = seq (view_type t) λ u h.
      pass (vec_node p t) p _ refl (λ b. (h, element_is (type_of t) b)) (λ k. k) (λ k. is_pass _ _ (element_in (type_of t) k.1))

  view_types : (ts : TypeTrees) → View (λ u. AllFormed ts) (nodes_types ts) (judge_types ts)
  view_types (one_type t) = view_type t
  view_types (more_types t ts) = seq (view_type t) λ u g. map_view (λ v h. (g, h)) (view_types ts)

-- a parameter's name among those before it
view_single : (xs : List Name) (a : ArgP) (b : Bool) → among (param_name a) xs ≡ b → View (λ u. Single xs a) (single_node xs a ∷ []) (single (place_param a) b)
unfolding single
view_single xs a true e = vbad (here {n = single_node xs a} (λ h. subst T (sym e ∙ h) tt))
view_single xs a false e = vfine e (all_cons {n = single_node xs a} e all_nil)

view_after : (xs : List Name) (ps : List ArgP) → View (λ u. DeclarableAfter xs ps) (nodes_after xs ps) (judge_after xs ps)
unfolding judge_after
view_after xs [] = vfine tt all_nil
view_after xs (a ∷ ps) = seq (view_type (param_type a)) λ t f. seq (pass {X = Declarable a} (param_node a) (place_param a) _ refl (declarable_is a f) (λ h. h) (λ h. is_pass _ _ (declarable_in a h)))
    λ u h. seq (view_single xs a _ refl) λ v k. map_view (λ w hs. (h, k, hs)) (view_after _ ps)

view_params : (ps : List ArgP) → View (λ u. AllDeclarable ps) (nodes_params ps) (judge_params ps)
view_params ps = view_after [] ps

exp : {Γ : Ctx} {e : Expr} (o : Option Ty) → ((t : Ty) → IsO t o → HasE Γ e t) → ((t : Ty) → HasE Γ e t → Is t (judged (place_expr e) o)) →
    View (HasE Γ e) (expr_node Γ e ∷ []) (judged (place_expr e) o)
exp {Γ} {e} o f g = own (expr_node Γ e) (place_expr e) o refl f (λ t h. (t, h)) (λ h. (h.0, g h.0 h.1))

-- an application, by its head
view_app : {Γ : Ctx} (p : ℕ) (f : Expr) (es : Exprs) (g : Option Op) → head_operator f ≡ g → View (HasE Γ f) (nodes_expr Γ f) (judge_expr Γ f) →
    View (HasEs Γ es) (nodes_exprs Γ es) (judge_exprs Γ es) →
    ((t : Ty) → HasE Γ (app p f es) t → Is t (judge_app p g (judge_expr Γ f) (judge_exprs Γ es))) →
    View (HasE Γ (app p f es)) (nodes_head g (nodes_expr Γ f) ++ (nodes_exprs Γ es ++ (expr_node Γ (app p f es) ∷ []))) (judge_app p g (judge_expr Γ f) (judge_exprs Γ es))
view_app p f es (some o) e vf vs c = seq vs λ ts hs. exp _ (λ t i. prim_own e hs i) (λ t h. peel _ (complete_exprs es hs) (c t h))
view_app p f es none e vf vs c =
    seq vf λ tf hf. seq vs λ ts hs. exp _ (λ t i. app_own tf hf hs i) (λ t h. peel _ (complete_exprs es hs) (peel _ (complete_expr f hf) (c t h)))

mutual
  unfolding judge_expr nodes_expr

  pub view_expr : (e : Expr) (Γ : Ctx) → View (HasE Γ e) (nodes_expr Γ e) (judge_expr Γ e)
  view_expr (num p n) Γ = vfine NUM (all_cons {n = expr_node Γ (num p n)} (_, NUM) all_nil)
  view_expr (name (at p x)) Γ = exp _ (λ t i. name_own (meaning x) (find Γ x) refl refl i) (λ t h. complete_expr (name (at p x)) h)
  view_expr (if_expr p a b c) Γ = seq (view_expr a Γ) λ ta ha. seq (view_expr b Γ) λ tb hb. seq (view_expr c Γ) λ tc hc.
      exp _ (λ t i. if_own ha hb hc i) (λ t h. peel _ (complete_expr c hc) (peel _ (complete_expr b hb) (peel _ (complete_expr a ha) (complete_expr (if_expr p a b c) h))))
  view_expr (and p a b) Γ = seq (view_expr a Γ) λ ta ha. seq (view_expr b Γ) λ tb hb.
      exp _ (λ t i. bools_own AND ha hb i) (λ t h. peel _ (complete_expr b hb) (peel _ (complete_expr a ha) (complete_expr (and p a b) h)))
  view_expr (or p a b) Γ = seq (view_expr a Γ) λ ta ha. seq (view_expr b Γ) λ tb hb.
      exp _ (λ t i. bools_own OR ha hb i) (λ t h. peel _ (complete_expr b hb) (peel _ (complete_expr a ha) (complete_expr (or p a b) h)))
  view_expr (app p f es) Γ = view_app p f es (head_operator f) refl (view_expr f Γ) (view_exprs es Γ) (λ t h. complete_expr (app p f es) h)
  view_expr (abs p ps e) Γ = seq (view_params (values ps)) λ u g. seq (view_expr e (extend (declared (values ps)) Γ)) λ tb hb.
      exp _ (λ t i. subst (λ t. HasE Γ (abs p ps e) t) (is_o_uniq i) (ABS g hb)) (λ t h. peel _ (complete_expr e hb) (peel _ (complete_params (values ps) g) (complete_expr (abs p ps e) h)))
  view_expr (alloc p t e) Γ = seq (view_type t) λ u f. seq (view_expr e Γ) λ te he.
      exp _ (λ r i. alloc_own t f he i) (λ r h. peel _ (complete_expr e he) (peel _ (complete_type t f) (complete_expr (alloc p t e) h)))
  view_expr (nth_expr p a b) Γ = seq (view_expr a Γ) λ ta ha. seq (view_expr b Γ) λ tb hb.
      exp _ (λ t i. nth_own ta ha hb i) (λ t h. peel _ (complete_expr b hb) (peel _ (complete_expr a ha) (complete_expr (nth_expr p a b) h)))
  view_expr (len p a) Γ = seq (view_expr a Γ) λ ta ha. exp _ (λ t i. len_own ta ha i) (λ t h. peel _ (complete_expr a ha) (complete_expr (len p a) h))
  view_expr (vset p a b c) Γ = seq (view_expr a Γ) λ ta ha. seq (view_expr b Γ) λ tb hb. seq (view_expr c Γ) λ tc hc.
      exp _ (λ t i. vset_own ta ha hb hc i) (λ t h. peel _ (complete_expr c hc) (peel _ (complete_expr b hb) (peel _ (complete_expr a ha) (complete_expr (vset p a b c) h))))

  pub view_exprs : (es : Exprs) (Γ : Ctx) → View (HasEs Γ es) (nodes_exprs Γ es) (judge_exprs Γ es)
  view_exprs (one_expr e) Γ = seq_fine (λ t. tcons t tnil) (view_expr e Γ) λ t h. ONE h
  view_exprs (more_exprs e es) Γ = seq (view_expr e Γ) λ t h. seq_fine (λ ts. tcons t ts) (view_exprs es Γ) λ ts hs. MORE h hs

-- ---- commands

ref_own : {Γ : Ctx} {p r : ℕ} {x : Name} {q : Par} (o : Option Entity) → find Γ x ≡ o → IsO q (as_ref (type_referred o)) → HasA Γ (adr p (at r x)) q
ref_own none e h = absurd (no_is_o h)
ref_own (some (plain (value t))) e h = absurd (no_is_o h)
ref_own (some (plain (ref t))) e is_o = REF e
ref_own (some (procedure qs)) e h = absurd (no_is_o h)

view_arg : (a : ExprP) (Γ : Ctx) → View (HasA Γ a) (nodes_arg Γ a) (judge_arg Γ a)
unfolding judge_arg
view_arg (val e) Γ = seq_fine value (view_expr e Γ) λ t h. VAL h
view_arg (adr p (at r x)) Γ =
    own (adr_node Γ p (at r x)) p _ refl (λ q i. ref_own (find Γ x) refl i) (λ q h. (q, h)) (λ h. (h.0, complete_arg (adr p (at r x)) h.1))

view_args : (as' : List ExprP) (Γ : Ctx) → View (HasAs Γ as') (nodes_args Γ as') (judge_args Γ as')
unfolding judge_args
view_args [] Γ = vfine NO_ARGS all_nil
view_args (a ∷ as') Γ = seq (view_arg a Γ) λ q h. seq_fine (λ qs. q ∷ qs) (view_args as' Γ) λ qs hs. ARGS h hs

set_own : {Γ : Ctx} {p q : ℕ} {x : Name} {e : Expr} {t : Ty} (o : Option Entity) → find Γ x ≡ o → HasE Γ e t → T (fits_ref (type_referred o) t) →
    HasS Γ (set p (at q x) e) never
set_own none f h b = absurd b
set_own (some (plain (value u))) f h b = absurd b
set_own (some (plain (ref u))) f h b = SET f (as_type u b h)
set_own (some (procedure qs)) f h b = absurd b

call_own : {Γ : Ctx} {p q : ℕ} {x : Name} {as' : List ExprP} {rs : List Par} (o : Option Entity) → find Γ x ≡ o → HasAs Γ as' rs →
    T (fits_call (call_pars o) rs) → HasS Γ (call p (at q x) as') never
call_own none f h b = absurd b
call_own (some (plain q)) f h b = absurd b
call_own {Γ} {as' = as'} {rs = rs} (some (procedure qs)) f h b = CALL f (subst (λ rs. HasAs Γ as' rs) (same_pars_is rs qs b) h)

-- a definition's own test: its name is free and its part has its type
typed_def : {X : Type 0} {Γ : Ctx} {e : Expr} (x : Name) (v t : Ty) → (Free x → HasE Γ e t → X) → HasE Γ e v →
    T (andb (is_free (meaning x)) (same_type v t)) → X
typed_def x v t rule h b = rule (free_is x (andb_l (is_free (meaning x)) (same_type v t) b)) (as_type t (andb_r (is_free (meaning x)) (same_type v t) b) h)

-- the same where its part is a block
block_def : {X : Type 0} {Γ : Ctx} {b : Block} (x : Name) (f g : Flow) (test : Bool) → (T test → f ≡ g) → (Free x → HasB Γ b g → X) → HasB Γ b f →
    T (andb (is_free (meaning x)) test) → X
block_def {Γ = Γ} {b = b} x f g test i rule h t =
    rule (free_is x (andb_l (is_free (meaning x)) test t)) (subst (λ f. HasB Γ b f) (i (andb_r (is_free (meaning x)) test t)) h)

-- what goes together
only_own : {A : Type 0} (X : A → Type 0) {a : A} (b : Bool) → (T b → X a) → (c : A) → IsO c (only b (some a)) → X c
only_own X b f c i = let u = only_inv b i in subst X (is_o_uniq u.1) (f u.0)

same_own : (X : Ty → Flow → Type 0) {f : Flow} (t u : Ty) → X t f → (h : Flow) → IsO h (only (same_type t u) (some f)) → X u h
same_own X {f} t u x h i = only_own (X u) (same_type t u) (λ b. subst (λ t. X t f) (same_type_is t u b) x) h i

either_own : (f g h : Flow) → IsO h (either_flow f g) → Either f g h
either_own never never h is_o = both_never
either_own never (may t) h is_o = never_may
either_own never (always t) h is_o = never_always
either_own (may t) never h is_o = may_never
either_own (may t) (may u) h i = same_own (λ u h. Either (may t) (may u) h) t u may_may h i
either_own (may t) (always u) h i = same_own (λ u h. Either (may t) (always u) h) t u may_always h i
either_own (always t) never h is_o = always_never
either_own (always t) (may u) h i = same_own (λ u h. Either (always t) (may u) h) t u always_may h i
either_own (always t) (always u) h i = same_own (λ u h. Either (always t) (always u) h) t u both_always h i

sequel_own : (f : Flow) (o : Option Flow) (h : Flow) → IsO h (sequel f o) → (g : Flow) × IsO g o × Before f g × (g ≡ h)
sequel_own f none h i = absurd (no_is_o i)
sequel_own never (some g) h is_o = (g, is_o, after_never, refl)
sequel_own (may t) (some never) h i = absurd (no_is_o i)
sequel_own (may t) (some (may u)) h i =
    (may u, is_o, same_own (λ v h. Before (may v) (may u)) u t after_may h i, only_own (λ h. may u ≡ h) (same_type u t) (λ b. refl) h i)
sequel_own (may t) (some (always u)) h i =
    (always u, is_o, same_own (λ v h. Before (may v) (always u)) u t then_always h i, only_own (λ h. always u ≡ h) (same_type u t) (λ b. refl) h i)
sequel_own (always t) (some g) h i = absurd (no_is_o i)

st : {Γ : Ctx} {c : Stat} (o : Option Flow) → ((f : Flow) → IsO f o → HasS Γ c f) → ((f : Flow) → HasS Γ c f → Is f (judged (place_stat c) o)) →
    View (HasS Γ c) (stat_node Γ c ∷ []) (judged (place_stat c) o)
st {Γ} {c} o f g = own (stat_node Γ c) (place_stat c) o refl f (λ h k. (h, k)) (λ k. (k.0, g k.0 k.1))

-- commands, and how they return where they go together
abbrev CmdsAs : Ctx → Cmds → Option Flow → Type 0
CmdsAs Γ cs o = (f : Flow) → IsO f o → HasC Γ cs f

mutual
  unfolding judge_cmds nodes_cmds

  pub view_block : (b : Block) (Γ : Ctx) → View (HasB Γ b) (nodes_block Γ b) (judge_block Γ b)
  view_block (block p cs) Γ = seq_is (view_cmds cs Γ) λ o h e.
      own (block_node Γ (block p cs)) p o refl (λ f i. BLOC (h f i)) (λ f k. (f, k)) (λ k. (k.0, peel _ e (complete_block (block p cs) k.1)))

  pub view_cmds : (cs : Cmds) (Γ : Ctx) → View (CmdsAs Γ cs) (nodes_cmds Γ cs) (judge_cmds Γ cs)
  view_cmds (def_then d cs) Γ = seq (view_def d Γ) λ u h. map_view (λ o hs f i. DECS h (hs f i)) (view_cmds cs (after_def d Γ))
  view_cmds (stat_then c cs) Γ = seq (view_stat c Γ) λ f h.
      seq (pass {X = GoesOn f} (followed_node Γ c) (place_stat c) _ refl (goes_is f) (λ g. (f, h, g)) (λ k. is_pass _ _ (subst (λ f. T (goes_on f)) (unique_stat c k.1 h) (goes_in k.0 k.2)))) λ u g.
      seq_fine (λ o. sequel f o) (view_cmds cs Γ) λ o hs j i. let w = sequel_own f o j i in subst (λ j. HasC Γ (stat_then c cs) j) w.3 (STATS h (hs w.0 w.1) w.2)
  view_cmds (last c) Γ = seq_fine (λ f. some f) (view_stat c Γ) λ f h g i. subst (λ g. HasC Γ (last c) g) (is_o_uniq i) (END h)

  pub view_def : (d : Def) (Γ : Ctx) → View (λ u. HasD Γ d (after_def d Γ)) (nodes_def Γ d) (judge_def Γ d)
  view_def (const p (at q x) t e) Γ = seq (view_type t) λ w c. seq (view_expr e Γ) λ v h.
      pass (def_node Γ (const p (at q x) t e)) p _ refl (typed_def x v (type_of t) (λ f d. CONST f c d) h) (λ k. (_, k))
      (λ k. peel _ (complete_expr e h) (peel _ (complete_type t c) (complete_def (const p (at q x) t e) k.1)))
  view_def (fun p (at q x) t ps e) Γ = seq (view_type t) λ w c. seq (view_params (values ps)) λ u g. seq (view_expr e _) λ v h.
      pass (def_node Γ (fun p (at q x) t ps e)) p _ refl (typed_def x v (type_of t) (λ f d. FUN f c g d) h) (λ k. (_, k))
      (λ k. peel _ (complete_expr e h) (peel _ (complete_params (values ps) g) (peel _ (complete_type t c) (complete_def (fun p (at q x) t ps e) k.1))))
  view_def (fun_rec p (at q x) t ps e) Γ = seq (view_type t) λ w c. seq (view_params (values ps)) λ u g. seq (view_expr e _) λ v h.
      pass (def_node Γ (fun_rec p (at q x) t ps e)) p _ refl (typed_def x v (type_of t) (λ f d. FUNREC f c g d) h) (λ k. (_, k))
      (λ k. peel _ (complete_expr e h) (peel _ (complete_params (values ps) g) (peel _ (complete_type t c) (complete_def (fun_rec p (at q x) t ps e) k.1))))
  view_def (fun_block p (at q x) t ps b) Γ = seq (view_type t) λ w c. seq (view_params (values ps)) λ u g. seq (view_block b _) λ f h.
      pass (def_node Γ (fun_block p (at q x) t ps b)) p _ refl (block_def x f (always (type_of t)) _ (always_is f (type_of t)) (λ n d. FUNP n c g d) h) (λ k. (_, k))
      (λ k. peel _ (complete_block b h) (peel _ (complete_params (values ps) g) (peel _ (complete_type t c) (complete_def (fun_block p (at q x) t ps b) k.1))))
  view_def (fun_rec_block p (at q x) t ps b) Γ = seq (view_type t) λ w c. seq (view_params (values ps)) λ u g. seq (view_block b _) λ f h.
      pass (def_node Γ (fun_rec_block p (at q x) t ps b)) p _ refl (block_def x f (always (type_of t)) _ (always_is f (type_of t)) (λ n d. FUNRECP n c g d) h) (λ k. (_, k))
      (λ k. peel _ (complete_block b h) (peel _ (complete_params (values ps) g) (peel _ (complete_type t c) (complete_def (fun_rec_block p (at q x) t ps b) k.1))))
  view_def (var p (at q x) t) Γ = seq (view_type t) λ w c. pass (def_node Γ (var p (at q x) t)) p _ refl
      (λ b. VAR (free_is x (andb_l (is_free (meaning x)) (is_base (type_of t)) b)) (base_is (type_of t) (andb_r (is_free (meaning x)) (is_base (type_of t)) b)))
      (λ k. (_, k)) (λ k. peel _ (complete_type t c) (complete_def (var p (at q x) t) k.1))
  view_def (proc p (at q x) ps b) Γ = seq (view_params ps) λ u g. seq (view_block b _) λ f h.
      pass (def_node Γ (proc p (at q x) ps b)) p _ refl (block_def x f never _ (never_is f) (λ n d. PROC n g d) h) (λ k. (_, k))
      (λ k. peel _ (complete_block b h) (peel _ (complete_params ps g) (complete_def (proc p (at q x) ps b) k.1)))
  view_def (proc_rec p (at q x) ps b) Γ = seq (view_params ps) λ u g. seq (view_block b _) λ f h.
      pass (def_node Γ (proc_rec p (at q x) ps b)) p _ refl (block_def x f never _ (never_is f) (λ n d. PROCREC n g d) h) (λ k. (_, k))
      (λ k. peel _ (complete_block b h) (peel _ (complete_params ps g) (complete_def (proc_rec p (at q x) ps b) k.1)))

  pub view_stat : (c : Stat) (Γ : Ctx) → View (HasS Γ c) (nodes_stat Γ c) (judge_stat Γ c)
  view_stat (echo p e) Γ = seq (view_expr e Γ) λ t h.
      st _ (only_own (HasS Γ (echo p e)) (same_type t INT) (λ b. ECHO (as_type INT b h))) (λ f k. peel _ (complete_expr e h) (complete_stat (echo p e) k))
  view_stat (set p (at q x) e) Γ = seq (view_expr e Γ) λ t h.
      st _ (only_own (HasS Γ (set p (at q x) e)) (fits_ref (type_referred (find Γ x)) t) (λ b. set_own (find Γ x) refl h b))
      (λ f k. peel _ (complete_expr e h) (complete_stat (set p (at q x) e) k))
  view_stat (if_stat p e a b) Γ = seq (view_expr e Γ) λ t h. seq (view_block a Γ) λ f k. seq (view_block b Γ) λ g l.
      st _ (λ j i. let w = only_inv (same_type t BOOL) i in IFS (as_type BOOL w.0 h) k l (either_own f g j w.1))
      (λ j m. peel _ (complete_block b l) (peel _ (complete_block a k) (peel _ (complete_expr e h) (complete_stat (if_stat p e a b) m))))
  view_stat (while p e b) Γ = seq (view_expr e Γ) λ t h. seq (view_block b Γ) λ f k.
      st _ (only_own (HasS Γ (while p e b)) (same_type t BOOL) (λ q. WHILE (as_type BOOL q h) k))
      (λ j m. peel _ (complete_block b k) (peel _ (complete_expr e h) (complete_stat (while p e b) m)))
  view_stat (call p (at q x) as') Γ = seq (view_args as' Γ) λ qs h.
      st _ (only_own (HasS Γ (call p (at q x) as')) (fits_call (call_pars (find Γ x)) qs) (λ b. call_own (find Γ x) refl h b))
      (λ f k. peel _ (complete_args as' h) (complete_stat (call p (at q x) as') k))
  view_stat (return p e) Γ = seq (view_expr e Γ) λ t h.
      st _ (λ f i. subst (λ f. HasS Γ (return p e) f) (is_o_uniq i) (RET h)) (λ f k. peel _ (complete_expr e h) (complete_stat (return p e) k))

pub view_prog : (b : Block) → View (λ u. Typable b) (nodes_prog b) (judge b)
view_prog b = seq (view_block b []) λ f h.
    pass (prog_node b) (place_block b) _ refl (λ t. subst (λ f. HasB [] b f) (never_is f t) h) (λ k. k)
    (λ k. is_pass _ _ (subst (λ f. T (is_never f)) (unique_flows [] b never f k h) tt))

-- ---- verdicts

first_unique : {l : List JudgedNode} {r r' : Refusal} {q q' : ℕ} → FirstBad l r q → FirstBad l r' q' → (r ≡ r') × (q ≡ q')
first_unique (here h) (here k) = (refl, refl)
first_unique (here h) (later t k) = absurd (h t)
first_unique (later t h) (here k) = absurd (k t)
first_unique (later t h) (later u k) = first_unique h k

all_no_first : {l : List JudgedNode} {r : Refusal} {q : ℕ} → AllTyped l → FirstBad l r q → ⊥
all_no_first all_nil h = elim h [ ]
all_no_first (all_cons t al) (here h) = h t
all_no_first (all_cons t al) (later u h) = all_no_first al h

is_eq : {A : Type 0} {a : A} {o : Result A} → Is a o → o ≡ fine a
is_eq is = refl

fine_view : {X : Type 0} {R : List JudgedNode} → View (λ (u : Unit {0}). X) R (fine tt) → X
fine_view (vfine x al) = x

bad_view : {X : Type 0} {R : List JudgedNode} {r : Refusal} {q : ℕ} → View (λ (u : Unit {0}). X) R (refuse r q) → FirstBad R r q
bad_view (vbad h) = h

view_bad : {X : Type 0} {R : List JudgedNode} {r : Refusal} {q : ℕ} {o : Result (Unit {0})} → View (λ (u : Unit {0}). X) R o → FirstBad R r q → o ≡ refuse r q
view_bad (vfine x al) h = absurd (all_no_first al h)
view_bad (vbad k) h = let e = first_unique k h in ap₂ refuse e.0 e.1

view_one : {X : Type 0} {R : List JudgedNode} {o : Result (Unit {0})} → View (λ (u : Unit {0}). X) R o → X ⊎ ((r : Refusal) × (q : ℕ) × FirstBad R r q)
view_one (vfine x al) = inl x
view_one (vbad {r = r} {q = q} h) = inr (r, q, h)

view_both : {X : Type 0} {R : List JudgedNode} {r : Refusal} {q : ℕ} {o : Result (Unit {0})} → View (λ (u : Unit {0}). X) R o → Is tt o → FirstBad R r q → ⊥
view_both (vfine x al) i h = all_no_first al h
view_both (vbad k) i h = no_is i

pub judge_accepts : (b : Block) → (judge b ≡ fine tt) ↔ Typable b
judge_accepts b = ((λ e. fine_view (subst (λ o. View (λ u. Typable b) (nodes_prog b) o) e (view_prog b))), (λ h. is_eq (complete_prog b h)))

pub judge_refuses : (b : Block) (r : Refusal) (q : ℕ) → (judge b ≡ refuse r q) ↔ TypeRefused b r q
judge_refuses b r q = ((λ e. bad_view (subst (λ o. View (λ u. Typable b) (nodes_prog b) o) e (view_prog b))), (λ h. view_bad (view_prog b) h))

pub one_verdict : (b : Block) →
    (Typable b ⊎ ((r : Refusal) × (q : ℕ) × TypeRefused b r q)) × ((r : Refusal) (q : ℕ) → Typable b → TypeRefused b r q → ⊥) ×
    ((r r' : Refusal) (q q' : ℕ) → TypeRefused b r q → TypeRefused b r' q' → (r ≡ r') × (q ≡ q'))
one_verdict b = (view_one (view_prog b), (λ r q t h. view_both (view_prog b) (complete_prog b t) h), (λ r r' q q' h k. first_unique h k))
