-- The judge, executable: a type, or the refusal and the place of the first node whose own rule cannot be met.
-- Nothing here is to be believed: `judge_accepts` and `judge_refuses` of Judged tie it to the typing rules.
use Prim.Native.Nat.{ℕ}
use mathlib.Core.Bool.{Bool, true, false}
use mathlib.Core.List.{List, [], ◌∷◌}
use mathlib.Core.Option.{Option, none, some}
use Rattle.language.specs.Syntax.{Name, at, TypeTree, bool, int, arrow, vec, TypeTrees, one_type, more_types, ArgP, val_arg, var_arg, Expr, num, name, if_expr, and, or, app, abs, alloc, nth_expr, len, vset, Exprs, one_expr, more_exprs, ExprP, val, adr, Cmds, last, def_then, stat_then, Def, const, fun, fun_rec, fun_block, fun_rec_block, var, proc, proc_rec, Stat, echo, set, if_stat, while, call, return, Block, block}
use Rattle.language.specs.Places.{place_param, place_stat, place_block}
use Rattle.language.specs.Answers.{TYPE, DOUBLE, Result, fine, refuse}
use Rattle.language.specs.Names.{Op, Meaning, literal, operator, free, meaning, head_operator}
use Rattle.language.specs.Types.{Base, boolean, integer, Ty, base, fn, vec_of, Tys, tnil, tcons, BOOL, INT, type_of, Par, value, ref, Entity, plain, procedure, Ctx, find, extend, values, pars, param_type, param_name, declared, arg_types, fun_type, Flow, never, may, always, takes, result}
use Rattle.language.specs.Typing.{looped, among}
use Rattle.language.specs.Order.{after_def}

module _ {A B : Type 0} where
  unfoldable pub and_then : Result A → (A → Result B) → Result B
  and_then (fine a) k = k a
  and_then (refuse r p) k = refuse r p

module _ {A : Type 0} where
  -- a node's own rule
  unfoldable pub judged : ℕ → Option A → Result A
  judged p none = refuse TYPE p
  judged p (some a) = fine a

  unfoldable pub only : Bool → Option A → Option A
  only true o = o
  only false o = none

-- a node that only has to pass a test
unfoldable pub passes : ℕ → Bool → Result (Unit {0})
passes p b = judged p (only b (some tt))

-- a parameter that must not be named like one before it
unfoldable pub single : ℕ → Bool → Result (Unit {0})
single p true = refuse DOUBLE p
single p false = fine tt

abbrev pub andb : Bool → Bool → Bool
andb true b = b
andb false b = false

abbrev pub same_base : Base → Base → Bool
same_base boolean boolean = true
same_base boolean integer = false
same_base integer boolean = false
same_base integer integer = true

unfoldable mutual
  pub same_type : Ty → Ty → Bool
  same_type (base a) (base b) = same_base a b
  same_type (base a) (fn us u) = false
  same_type (base a) (vec_of u) = false
  same_type (fn ts t) (base b) = false
  same_type (fn ts t) (fn us u) = andb (same_types ts us) (same_type t u)
  same_type (fn ts t) (vec_of u) = false
  same_type (vec_of t) (base b) = false
  same_type (vec_of t) (fn us u) = false
  same_type (vec_of t) (vec_of u) = same_type t u

  pub same_types : Tys → Tys → Bool
  same_types tnil tnil = true
  same_types tnil (tcons u us) = false
  same_types (tcons t ts) tnil = false
  same_types (tcons t ts) (tcons u us) = andb (same_type t u) (same_types ts us)

abbrev pub same_par : Par → Par → Bool
same_par (value t) (value u) = same_type t u
same_par (value t) (ref u) = false
same_par (ref t) (value u) = false
same_par (ref t) (ref u) = same_type t u

abbrev pub same_pars : List Par → List Par → Bool
same_pars [] [] = true
same_pars [] (r ∷ rs) = false
same_pars (q ∷ qs) [] = false
same_pars (q ∷ qs) (r ∷ rs) = andb (same_par q r) (same_pars qs rs)

abbrev pub is_free : Meaning → Bool
is_free (literal b) = false
is_free (operator o) = false
is_free free = true

abbrev pub is_base : Ty → Bool
is_base (base b) = true
is_base (fn ts t) = false
is_base (vec_of t) = false

abbrev pub is_element_type : Ty → Bool
is_element_type (base b) = true
is_element_type (fn ts t) = false
is_element_type (vec_of t) = true

abbrev pub declarable : ArgP → Bool
declarable (val_arg (at p x) t) = is_free (meaning x)
declarable (var_arg (at p x) t) = andb (is_free (meaning x)) (is_base (type_of t))

abbrev pub type_read : Option Entity → Option Ty
type_read none = none
type_read (some (plain (value t))) = some t
type_read (some (plain (ref t))) = some t
type_read (some (procedure qs)) = none

abbrev pub name_type : Meaning → Option Entity → Option Ty
name_type (literal b) o = some BOOL
name_type (operator f) o = none
name_type free o = type_read o

abbrev pub if_type : Ty → Ty → Ty → Option Ty
if_type a b c = only (same_type a BOOL) (only (same_type c b) (some b))

abbrev pub bools_type : Ty → Ty → Option Ty
bools_type a b = only (same_type a BOOL) (only (same_type b BOOL) (some BOOL))

abbrev pub prim_type : Op → Tys → Option Ty
prim_type o ts = only (same_types ts (takes o)) (some (base (result o)))

abbrev pub app_type : Ty → Tys → Option Ty
app_type (base b) us = none
app_type (fn ts t) us = only (same_types us ts) (some t)
app_type (vec_of t) us = none

-- blocks of cells
abbrev pub alloc_type : Ty → Ty → Option Ty
alloc_type t u = only (is_element_type t) (only (same_type u INT) (some (vec_of t)))

abbrev pub nth_type : Ty → Ty → Option Ty
nth_type (base b) u = none
nth_type (fn ts t) u = none
nth_type (vec_of t) u = only (same_type u INT) (some t)

abbrev pub len_type : Ty → Option Ty
len_type (base b) = none
len_type (fn ts t) = none
len_type (vec_of t) = some INT

abbrev pub vset_type : Ty → Ty → Ty → Option Ty
vset_type (base b) u v = none
vset_type (fn ts t) u v = none
vset_type (vec_of t) u v = only (same_type u INT) (only (same_type v t) (some (vec_of t)))

abbrev pub judge_app : ℕ → Option Op → Result Ty → Result Tys → Result Ty
judge_app p (some o) f es = and_then es λ ts. judged p (prim_type o ts)
judge_app p none f es = and_then f λ tf. and_then es λ ts. judged p (app_type tf ts)

-- a type that is written
unfoldable mutual
  pub judge_type : TypeTree → Result (Unit {0})
  judge_type (bool p) = fine tt
  judge_type (int p) = fine tt
  judge_type (arrow p ts t) = and_then (judge_types ts) λ u. judge_type t
  judge_type (vec p t) = and_then (judge_type t) λ u. passes p (is_element_type (type_of t))

  pub judge_types : TypeTrees → Result (Unit {0})
  judge_types (one_type t) = judge_type t
  judge_types (more_types t ts) = and_then (judge_type t) λ u. judge_types ts

unfoldable pub judge_after : List Name → List ArgP → Result (Unit {0})
judge_after xs [] = fine tt
judge_after xs (a ∷ ps) =
    and_then (judge_type (param_type a)) λ t. and_then (passes (place_param a) (declarable a)) λ u. and_then (single (place_param a) (among (param_name a) xs)) λ v. judge_after (param_name a ∷ xs) ps

abbrev pub judge_params : List ArgP → Result (Unit {0})
judge_params ps = judge_after [] ps

unfoldable mutual
  pub judge_expr : Ctx → Expr → Result Ty
  judge_expr Γ (num p n) = fine INT
  judge_expr Γ (name (at p x)) = judged p (name_type (meaning x) (find Γ x))
  judge_expr Γ (if_expr p a b c) = and_then (judge_expr Γ a) λ ta. and_then (judge_expr Γ b) λ tb. and_then (judge_expr Γ c) λ tc. judged p (if_type ta tb tc)
  judge_expr Γ (and p a b) = and_then (judge_expr Γ a) λ ta. and_then (judge_expr Γ b) λ tb. judged p (bools_type ta tb)
  judge_expr Γ (or p a b) = and_then (judge_expr Γ a) λ ta. and_then (judge_expr Γ b) λ tb. judged p (bools_type ta tb)
  judge_expr Γ (app p f es) = judge_app p (head_operator f) (judge_expr Γ f) (judge_exprs Γ es)
  judge_expr Γ (abs p ps e) =
      and_then (judge_params (values ps)) λ u. and_then (judge_expr (extend (declared (values ps)) Γ) e) λ t. judged p (some (fn (arg_types ps) t))
  judge_expr Γ (alloc p t e) = and_then (judge_type t) λ u. and_then (judge_expr Γ e) λ te. judged p (alloc_type (type_of t) te)
  judge_expr Γ (nth_expr p a b) = and_then (judge_expr Γ a) λ ta. and_then (judge_expr Γ b) λ tb. judged p (nth_type ta tb)
  judge_expr Γ (len p a) = and_then (judge_expr Γ a) λ ta. judged p (len_type ta)
  judge_expr Γ (vset p a b c) = and_then (judge_expr Γ a) λ ta. and_then (judge_expr Γ b) λ tb. and_then (judge_expr Γ c) λ tc. judged p (vset_type ta tb tc)

  pub judge_exprs : Ctx → Exprs → Result Tys
  judge_exprs Γ (one_expr e) = and_then (judge_expr Γ e) λ t. fine (tcons t tnil)
  judge_exprs Γ (more_exprs e es) = and_then (judge_expr Γ e) λ t. and_then (judge_exprs Γ es) λ ts. fine (tcons t ts)

-- the target of SET or adr, and of CALL
abbrev pub type_referred : Option Entity → Option Ty
type_referred none = none
type_referred (some (plain (value t))) = none
type_referred (some (plain (ref t))) = some t
type_referred (some (procedure qs)) = none

abbrev pub call_pars : Option Entity → Option (List Par)
call_pars none = none
call_pars (some (plain q)) = none
call_pars (some (procedure qs)) = some qs

abbrev pub fits_ref : Option Ty → Ty → Bool
fits_ref none t = false
fits_ref (some u) t = same_type t u

abbrev pub fits_call : Option (List Par) → List Par → Bool
fits_call none rs = false
fits_call (some qs) rs = same_pars rs qs

abbrev pub as_ref : Option Ty → Option Par
as_ref none = none
as_ref (some t) = some (ref t)

unfoldable pub judge_arg : Ctx → ExprP → Result Par
judge_arg Γ (val e) = and_then (judge_expr Γ e) λ t. fine (value t)
judge_arg Γ (adr p (at q x)) = judged p (as_ref (type_referred (find Γ x)))

unfoldable pub judge_args : Ctx → List ExprP → Result (List Par)
judge_args Γ [] = fine []
judge_args Γ (a ∷ as') = and_then (judge_arg Γ a) λ q. and_then (judge_args Γ as') λ qs. fine (q ∷ qs)

-- how commands return
abbrev pub is_never : Flow → Bool
is_never never = true
is_never (may t) = false
is_never (always t) = false

abbrev pub is_always : Flow → Ty → Bool
is_always never u = false
is_always (may t) u = false
is_always (always t) u = same_type t u

abbrev pub goes_on : Flow → Bool
goes_on never = true
goes_on (may t) = true
goes_on (always t) = false

abbrev pub either_flow : Flow → Flow → Option Flow
either_flow never never = some never
either_flow never (may t) = some (may t)
either_flow never (always t) = some (may t)
either_flow (may t) never = some (may t)
either_flow (may t) (may u) = only (same_type t u) (some (may t))
either_flow (may t) (always u) = only (same_type t u) (some (may t))
either_flow (always t) never = some (may t)
either_flow (always t) (may u) = only (same_type t u) (some (may t))
either_flow (always t) (always u) = only (same_type t u) (some (always t))

-- a statement and the commands behind it; none where they do not go together, which is for their block to say
abbrev pub sequel : Flow → Option Flow → Option Flow
sequel f none = none
sequel never (some g) = some g
sequel (may t) (some never) = none
sequel (may t) (some (may u)) = only (same_type u t) (some (may u))
sequel (may t) (some (always u)) = only (same_type u t) (some (always u))
sequel (always t) (some g) = none

unfoldable mutual
  pub judge_block : Ctx → Block → Result Flow
  judge_block Γ (block p cs) = and_then (judge_cmds Γ cs) λ o. judged p o

  pub judge_cmds : Ctx → Cmds → Result (Option Flow)
  judge_cmds Γ (def_then d cs) = and_then (judge_def Γ d) λ u. judge_cmds (after_def d Γ) cs
  judge_cmds Γ (stat_then c cs) =
      and_then (judge_stat Γ c) λ f. and_then (passes (place_stat c) (goes_on f)) λ u. and_then (judge_cmds Γ cs) λ o. fine (sequel f o)
  judge_cmds Γ (last c) = and_then (judge_stat Γ c) λ f. fine (some f)

  pub judge_def : Ctx → Def → Result (Unit {0})
  judge_def Γ (const p (at q x) t e) = and_then (judge_type t) λ w. and_then (judge_expr Γ e) λ u. passes p (andb (is_free (meaning x)) (same_type u (type_of t)))
  judge_def Γ (fun p (at q x) t ps e) =
      and_then (judge_type t) λ w. and_then (judge_params (values ps)) λ v. and_then (judge_expr (extend (declared (values ps)) Γ) e) λ u.
      passes p (andb (is_free (meaning x)) (same_type u (type_of t)))
  judge_def Γ (fun_rec p (at q x) t ps e) =
      and_then (judge_type t) λ w. and_then (judge_params (values ps)) λ v. and_then (judge_expr ((x, plain (value (fun_type ps t))) ∷ extend (declared (values ps)) Γ) e) λ u.
      passes p (andb (is_free (meaning x)) (same_type u (type_of t)))
  judge_def Γ (fun_block p (at q x) t ps b) =
      and_then (judge_type t) λ w. and_then (judge_params (values ps)) λ v. and_then (judge_block (extend (declared (values ps)) Γ) b) λ f.
      passes p (andb (is_free (meaning x)) (is_always f (type_of t)))
  judge_def Γ (fun_rec_block p (at q x) t ps b) =
      and_then (judge_type t) λ w. and_then (judge_params (values ps)) λ v. and_then (judge_block ((x, plain (value (fun_type ps t))) ∷ extend (declared (values ps)) Γ) b) λ f.
      passes p (andb (is_free (meaning x)) (is_always f (type_of t)))
  judge_def Γ (var p (at q x) t) = and_then (judge_type t) λ w. passes p (andb (is_free (meaning x)) (is_base (type_of t)))
  judge_def Γ (proc p (at q x) ps b) = and_then (judge_params ps) λ v. and_then (judge_block (extend (declared ps) Γ) b) λ f. passes p (andb (is_free (meaning x)) (is_never f))
  judge_def Γ (proc_rec p (at q x) ps b) =
      and_then (judge_params ps) λ v. and_then (judge_block ((x, procedure (pars ps)) ∷ extend (declared ps) Γ) b) λ f.
      passes p (andb (is_free (meaning x)) (is_never f))

  pub judge_stat : Ctx → Stat → Result Flow
  judge_stat Γ (echo p e) = and_then (judge_expr Γ e) λ t. judged p (only (same_type t INT) (some never))
  judge_stat Γ (set p (at q x) e) = and_then (judge_expr Γ e) λ t. judged p (only (fits_ref (type_referred (find Γ x)) t) (some never))
  judge_stat Γ (if_stat p e a b) =
      and_then (judge_expr Γ e) λ t. and_then (judge_block Γ a) λ f. and_then (judge_block Γ b) λ g. judged p (only (same_type t BOOL) (either_flow f g))
  judge_stat Γ (while p e b) = and_then (judge_expr Γ e) λ t. and_then (judge_block Γ b) λ f. judged p (only (same_type t BOOL) (some (looped f)))
  judge_stat Γ (call p (at q x) as') = and_then (judge_args Γ as') λ qs. judged p (only (fits_call (call_pars (find Γ x)) qs) (some never))
  judge_stat Γ (return p e) = and_then (judge_expr Γ e) λ t. judged p (some (always t))

-- a program, judged from no names, and once more as a program
abbrev pub judge : Block → Result (Unit {0})
judge b = and_then (judge_block [] b) λ f. passes (place_block b) (is_never f)
