-- The judge accepts what has a typing, and types are unique.
use mathlib.Core.Path.{◌≡◌, refl, sym, subst}
use Prim.Native.Nat.{ℕ}
use mathlib.Core.Bool.{Bool, true, false}
use mathlib.Core.List.{List, [], ◌∷◌}
use mathlib.Core.Option.{Option, none, some, none-ne-some}
use lib.Dec.{T}
use Rattle.language.specs.Syntax.{Name, at, TypeTree, bool, int, arrow, vec, TypeTrees, one_type, more_types, ArgP, Expr, num, name, if_expr, and, or, app, abs, alloc, nth_expr, len, vset, Exprs, one_expr, more_exprs, ExprP, val, adr, Cmds, last, def_then, stat_then, Def, const, fun, fun_rec, fun_block, fun_rec_block, var, proc, proc_rec, Stat, echo, set, if_stat, while, call, return, Block, block}
use Rattle.language.specs.Answers.{Result, fine}
use Rattle.language.specs.Names.{Op, Meaning, literal, operator, free, lookup, meaning, unless_nine, head_operator}
use Rattle.language.specs.Types.{Ty, base, fn, Tys, BOOL, INT, type_of, Par, ref, Entity, plain, procedure, Ctx, find, values, Flow, never, always, takes, result}
use Rattle.language.specs.Typing.{Free, Formed, AllFormed, DeclarableAfter, AllDeclarable, HasE, NUM, LITERAL, IDV, IDR, IF, AND, OR, PRIM, APP, ABS, ALLOC, NTH, LEN, VSET, HasEs, ONE, MORE, HasA, REF, VAL, HasAs, NO_ARGS, ARGS, Either, both_never, both_always, never_may, never_always, may_never, may_may, may_always, always_never, always_may, Before, after_never, after_may, then_always, HasB, BLOC, HasC, DECS, STATS, END, HasD, CONST, FUN, FUNREC, VAR, PROC, PROCREC, HasS, FUNP, FUNRECP, ECHO, SET, IFS, WHILE, CALL, RET}
use Rattle.language.specs.Order.{after_def}
use Rattle.language.proofs.Typing.Names.{head_typed}
use Rattle.language.proofs.Typing.Judge.{and_then, judged, only, passes, single, andb, same_type, is_free, is_base, type_read, name_type, judge_app, judge_type, judge_types, judge_after, judge_params, judge_expr, judge_exprs, type_referred, call_pars, fits_ref, fits_call, as_ref, judge_arg, judge_args, is_never, is_always, goes_on, either_flow, sequel, judge_block, judge_cmds, judge_def, judge_stat, judge}
use Rattle.language.proofs.Typing.SameType.{andb_in, same_type_refl, same_types_refl, same_pars_refl, free_in, base_in, element_in, base_formed, param_formed, declarable_in}

-- a result that is there, and is a
pub data Is {A : Type 0} (a : A) : Result A → Type 0 where
  is : Is a (fine a)

pub data IsO {A : Type 0} (a : A) : Option A → Type 0 where
  is_o : IsO a (some a)

pub is_then : {A B : Type 0} {a : A} {b : B} {o : Result A} (k : A → Result B) → Is a o → Is b (k a) → Is b (and_then o k)
unfolding and_then
is_then k is h = h

pub is_judged : {A : Type 0} {a : A} {o : Option A} (p : ℕ) → IsO a o → Is a (judged p o)
unfolding judged
is_judged p is_o = is

is_only : {A : Type 0} {a : A} {o : Option A} (b : Bool) → T b → IsO a o → IsO a (only b o)
unfolding only
is_only true t h = h
is_only false t h = absurd t

pub is_pass : (p : ℕ) (b : Bool) → T b → Is tt (passes p b)
unfolding passes
is_pass p b t = is_judged p (is_only b t is_o)

literal_in : {b : Bool} (m : Meaning) (o : Option Entity) → m ≡ literal b → IsO BOOL (name_type m o)
literal_in {b} m o e = subst (λ m. IsO BOOL (name_type m o)) (sym e) is_o

-- a bound name reads as its value's type
bound_in : {τ : Entity} {t : Ty} (m : Meaning) (o : Option Entity) → unless_nine m o ≡ some τ → IsO t (type_read (some τ)) →
    IsO t (name_type m (unless_nine m o))
bound_in (literal b) o e h = absurd (none-ne-some _ e)
bound_in (operator f) o e h = absurd (none-ne-some _ e)
bound_in {t = t} free o e h = subst (λ o. IsO t (type_read o)) (sym e) h

mutual
  unfolding judge_type

  pub complete_type : (t : TypeTree) → Formed t → Is tt (judge_type t)
  complete_type (bool p) h = is
  complete_type (int p) h = is
  complete_type (arrow p ts t) h = is_then _ (complete_types ts h.0) (complete_type t h.1)
  complete_type (vec p t) h = is_then _ (complete_type t h.0) (is_pass _ _ (element_in (type_of t) h.1))

  pub complete_types : (ts : TypeTrees) → AllFormed ts → Is tt (judge_types ts)
  complete_types (one_type t) h = complete_type t h
  complete_types (more_types t ts) h = is_then _ (complete_type t h.0) (complete_types ts h.1)

pub is_single : (p : ℕ) (b : Bool) → b ≡ false → Is tt (single p b)
unfolding single
is_single p true h = absurd (subst T h tt)
is_single p false h = is

complete_after : (xs : List Name) (ps : List ArgP) → DeclarableAfter xs ps → Is tt (judge_after xs ps)
unfolding judge_after
complete_after xs [] h = is
complete_after xs (a ∷ ps) h =
    is_then _ (complete_type _ (param_formed a h.0)) (is_then _ (is_pass _ _ (declarable_in a h.0)) (is_then _ (is_single _ _ h.1) (complete_after _ ps h.2)))

pub complete_params : (ps : List ArgP) → AllDeclarable ps → Is tt (judge_params ps)
complete_params ps h = complete_after [] ps h

prim_in : (p : ℕ) (f : Result Ty) {es : Result Tys} {o : Op} (g : Option Op) → g ≡ some o → Is (takes o) es → Is (base (result o)) (judge_app p g f es)
prim_in p f {es} {o} g e h =
    subst (λ g. Is (base (result o)) (judge_app p g f es)) (sym e) (is_then _ h (is_judged _ (is_only _ (same_types_refl (takes o)) is_o)))

app_in : (p : ℕ) {ts : Tys} {t : Ty} {f : Result Ty} {es : Result Tys} (g : Option Op) → g ≡ none → Is (fn ts t) f → Is ts es → Is t (judge_app p g f es)
app_in p {ts} {t} {f} {es} g e h k =
    subst (λ g. Is t (judge_app p g f es)) (sym e) (is_then _ h (is_then _ k (is_judged _ (is_only _ (same_types_refl ts) is_o))))

mutual
  unfolding judge_expr

  pub complete_expr : (e : Expr) {Γ : Ctx} {t : Ty} → HasE Γ e t → Is t (judge_expr Γ e)
  complete_expr (num p n) NUM = is
  complete_expr (name (at p x)) {Γ} (LITERAL e) = is_judged _ (literal_in (meaning x) (find Γ x) e)
  complete_expr (name (at p x)) {Γ} (IDV e) = is_judged _ (bound_in (meaning x) (lookup Γ x) e is_o)
  complete_expr (name (at p x)) {Γ} (IDR e) = is_judged _ (bound_in (meaning x) (lookup Γ x) e is_o)
  complete_expr (if_expr p a b c) (IF {t = t} da db dc) =
      is_then _ (complete_expr a da) (is_then _ (complete_expr b db) (is_then _ (complete_expr c dc) (is_judged _ (is_only _ (same_type_refl BOOL) (is_only _ (same_type_refl t) is_o)))))
  complete_expr (and p a b) (AND da db) =
      is_then _ (complete_expr a da) (is_then _ (complete_expr b db) (is_judged _ (is_only _ (same_type_refl BOOL) (is_only _ (same_type_refl BOOL) is_o))))
  complete_expr (or p a b) (OR da db) =
      is_then _ (complete_expr a da) (is_then _ (complete_expr b db) (is_judged _ (is_only _ (same_type_refl BOOL) (is_only _ (same_type_refl BOOL) is_o))))
  complete_expr (app p f es) {Γ} (PRIM e ds) = prim_in p (judge_expr Γ f) (head_operator f) e (complete_exprs es ds)
  complete_expr (app p f es) (APP d ds) = app_in p (head_operator f) (head_typed f d) (complete_expr f d) (complete_exprs es ds)
  complete_expr (abs p ps e) (ABS g d) = is_then _ (complete_params (values ps) g) (is_then _ (complete_expr e d) (is_judged _ is_o))
  complete_expr (alloc p t e) (ALLOC f d) =
      is_then _ (complete_type t f.0) (is_then _ (complete_expr e d) (is_judged _ (is_only _ (element_in (type_of t) f.1) (is_only _ (same_type_refl INT) is_o))))
  complete_expr (nth_expr p a b) (NTH da db) = is_then _ (complete_expr a da) (is_then _ (complete_expr b db) (is_judged _ (is_only _ (same_type_refl INT) is_o)))
  complete_expr (len p a) (LEN d) = is_then _ (complete_expr a d) (is_judged _ is_o)
  complete_expr (vset p a b c) (VSET {t = t} da db dc) =
      is_then _ (complete_expr a da) (is_then _ (complete_expr b db) (is_then _ (complete_expr c dc) (is_judged _ (is_only _ (same_type_refl INT) (is_only _ (same_type_refl t) is_o)))))

  pub complete_exprs : (es : Exprs) {Γ : Ctx} {ts : Tys} → HasEs Γ es ts → Is ts (judge_exprs Γ es)
  complete_exprs (one_expr e) (ONE d) = is_then _ (complete_expr e d) is
  complete_exprs (more_exprs e es) (MORE d ds) = is_then _ (complete_expr e d) (is_then _ (complete_exprs es ds) is)

-- types are unique
is_unique : {A : Type 0} {a b : A} {o : Result A} → Is a o → Is b o → a ≡ b
is_unique is is = refl

pub unique_types : (Γ : Ctx) (e : Expr) (t u : Ty) → HasE Γ e t → HasE Γ e u → t ≡ u
unique_types Γ e t u h k = is_unique (complete_expr e h) (complete_expr e k)

ref_in : {o : Option Entity} {t : Ty} → o ≡ some (plain (ref t)) → IsO (ref t) (as_ref (type_referred o))
ref_in {t = t} e = subst (λ o. IsO (ref t) (as_ref (type_referred o))) (sym e) is_o

pub complete_arg : (a : ExprP) {Γ : Ctx} {q : Par} → HasA Γ a q → Is q (judge_arg Γ a)
unfolding judge_arg
complete_arg (val e) (VAL h) = is_then _ (complete_expr e h) is
complete_arg (adr p (at q x)) (REF e) = is_judged _ (ref_in e)

pub complete_args : (as' : List ExprP) {Γ : Ctx} {qs : List Par} → HasAs Γ as' qs → Is qs (judge_args Γ as')
unfolding judge_args
complete_args [] NO_ARGS = is
complete_args (a ∷ as') (ARGS h hs) = is_then _ (complete_arg a h) (is_then _ (complete_args as' hs) is)

set_in : {o : Option Entity} {t : Ty} → o ≡ some (plain (ref t)) → T (fits_ref (type_referred o) t)
set_in {t = t} e = subst (λ o. T (fits_ref (type_referred o) t)) (sym e) (same_type_refl t)

call_in : {o : Option Entity} {qs : List Par} → o ≡ some (procedure qs) → T (fits_call (call_pars o) qs)
call_in {qs = qs} e = subst (λ o. T (fits_call (call_pars o) qs)) (sym e) (same_pars_refl qs)

is_fine : {A : Type 0} {a : A} {o : Option A} → IsO a o → Is (some a) (fine o)
is_fine is_o = is

-- what goes together
pub either_in : {f g h : Flow} → Either f g h → IsO h (either_flow f g)
either_in both_never = is_o
either_in (both_always {t}) = is_only _ (same_type_refl t) is_o
either_in never_may = is_o
either_in never_always = is_o
either_in may_never = is_o
either_in (may_may {t}) = is_only _ (same_type_refl t) is_o
either_in (may_always {t}) = is_only _ (same_type_refl t) is_o
either_in always_never = is_o
either_in (always_may {t}) = is_only _ (same_type_refl t) is_o

sequel_in : {f g : Flow} → Before f g → IsO g (sequel f (some g))
sequel_in after_never = is_o
sequel_in (after_may {t}) = is_only _ (same_type_refl t) is_o
sequel_in (then_always {t}) = is_only _ (same_type_refl t) is_o

before_goes : {f g : Flow} → Before f g → T (goes_on f)
before_goes after_never = tt
before_goes after_may = tt
before_goes then_always = tt

pub def_ctx : (d : Def) {Γ Δ : Ctx} → HasD Γ d Δ → Δ ≡ after_def d Γ
def_ctx (const p (at q x) t e) (CONST f w h) = refl
def_ctx (fun p (at q x) t ps e) (FUN f w g h) = refl
def_ctx (fun_rec p (at q x) t ps e) (FUNREC f w g h) = refl
def_ctx (fun_block p (at q x) t ps b) (FUNP f w g h) = refl
def_ctx (fun_rec_block p (at q x) t ps b) (FUNRECP f w g h) = refl
def_ctx (var p (at q x) t) (VAR f i) = refl
def_ctx (proc p (at q x) ps b) (PROC f g h) = refl
def_ctx (proc_rec p (at q x) ps b) (PROCREC f g h) = refl

-- a definition of a free name and of its type
defines : (p : ℕ) (x : Name) (t : Ty) → Free x → Is tt (passes p (andb (is_free (meaning x)) (same_type t t)))
defines p x t f = is_pass _ _ (andb_in (is_free (meaning x)) (same_type t t) (free_in x f) (same_type_refl t))

-- a function whose block always returns its type
defines_block : (p : ℕ) (x : Name) (t : Ty) → Free x → Is tt (passes p (andb (is_free (meaning x)) (is_always (always t) t)))
defines_block p x t f = is_pass _ _ (andb_in (is_free (meaning x)) (same_type t t) (free_in x f) (same_type_refl t))

-- a procedure whose block never returns
defines_proc : (p : ℕ) (x : Name) → Free x → Is tt (passes p (andb (is_free (meaning x)) (is_never never)))
defines_proc p x f = is_pass _ _ (andb_in (is_free (meaning x)) true (free_in x f) tt)

mutual
  unfolding judge_cmds

  pub complete_block : (b : Block) {Γ : Ctx} {f : Flow} → HasB Γ b f → Is f (judge_block Γ b)
  complete_block (block p cs) (BLOC h) = is_then _ (complete_cmds cs h) (is_judged _ is_o)

  pub complete_cmds : (cs : Cmds) {Γ : Ctx} {f : Flow} → HasC Γ cs f → Is (some f) (judge_cmds Γ cs)
  complete_cmds (def_then d cs) {f = f} (DECS h hs) = is_then _ (complete_def d h) (complete_cmds cs (subst (λ Δ. HasC Δ cs f) (def_ctx d h) hs))
  complete_cmds (stat_then c cs) (STATS h hs b) =
      is_then _ (complete_stat c h) (is_then _ (is_pass _ _ (before_goes b)) (is_then _ (complete_cmds cs hs) (is_fine (sequel_in b))))
  complete_cmds (last c) (END h) = is_then _ (complete_stat c h) is

  pub complete_def : (d : Def) {Γ Δ : Ctx} → HasD Γ d Δ → Is tt (judge_def Γ d)
  complete_def (const p (at q x) t e) (CONST f w h) = is_then _ (complete_type t w) (is_then _ (complete_expr e h) (defines p x (type_of t) f))
  complete_def (fun p (at q x) t ps e) (FUN f w g h) =
      is_then _ (complete_type t w) (is_then _ (complete_params (values ps) g) (is_then _ (complete_expr e h) (defines p x (type_of t) f)))
  complete_def (fun_rec p (at q x) t ps e) (FUNREC f w g h) =
      is_then _ (complete_type t w) (is_then _ (complete_params (values ps) g) (is_then _ (complete_expr e h) (defines p x (type_of t) f)))
  complete_def (fun_block p (at q x) t ps b) (FUNP f w g h) =
      is_then _ (complete_type t w) (is_then _ (complete_params (values ps) g) (is_then _ (complete_block b h) (defines_block p x (type_of t) f)))
  complete_def (fun_rec_block p (at q x) t ps b) (FUNRECP f w g h) =
      is_then _ (complete_type t w) (is_then _ (complete_params (values ps) g) (is_then _ (complete_block b h) (defines_block p x (type_of t) f)))
  complete_def (var p (at q x) t) (VAR f i) =
      is_then _ (complete_type t (base_formed t i)) (is_pass _ _ (andb_in (is_free (meaning x)) (is_base (type_of t)) (free_in x f) (base_in (type_of t) i)))
  complete_def (proc p (at q x) ps b) (PROC f g h) = is_then _ (complete_params ps g) (is_then _ (complete_block b h) (defines_proc p x f))
  complete_def (proc_rec p (at q x) ps b) (PROCREC f g h) = is_then _ (complete_params ps g) (is_then _ (complete_block b h) (defines_proc p x f))

  pub complete_stat : (c : Stat) {Γ : Ctx} {f : Flow} → HasS Γ c f → Is f (judge_stat Γ c)
  complete_stat (echo p e) (ECHO h) = is_then _ (complete_expr e h) (is_judged _ (is_only _ (same_type_refl INT) is_o))
  complete_stat (set p (at q x) e) (SET f h) = is_then _ (complete_expr e h) (is_judged _ (is_only _ (set_in f) is_o))
  complete_stat (if_stat p e a b) (IFS h k l i) =
      is_then _ (complete_expr e h) (is_then _ (complete_block a k) (is_then _ (complete_block b l) (is_judged _ (is_only _ (same_type_refl BOOL) (either_in i)))))
  complete_stat (while p e b) (WHILE h k) = is_then _ (complete_expr e h) (is_then _ (complete_block b k) (is_judged _ (is_only _ (same_type_refl BOOL) is_o)))
  complete_stat (call p (at q x) as') (CALL f h) = is_then _ (complete_args as' h) (is_judged _ (is_only _ (call_in f) is_o))
  complete_stat (return p e) (RET h) = is_then _ (complete_expr e h) (is_judged _ is_o)

-- commands return in one way
pub unique_flows : (Γ : Ctx) (b : Block) (f g : Flow) → HasB Γ b f → HasB Γ b g → f ≡ g
unique_flows Γ b f g h k = is_unique (complete_block b h) (complete_block b k)

pub unique_stat : (c : Stat) {Γ : Ctx} {f g : Flow} → HasS Γ c f → HasS Γ c g → f ≡ g
unique_stat c h k = is_unique (complete_stat c h) (complete_stat c k)

pub complete_prog : (b : Block) → HasB [] b never → Is tt (judge b)
complete_prog b h = is_then _ (complete_block b h) (is_pass _ _ tt)
