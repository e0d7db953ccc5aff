-- 128 levels are always enough to compare an expression's type, in a text of at most 64.
use mathlib.Core.Path.{◌≡◌, sym, subst}
use Prim.Native.Nat.{ℕ, zero, suc, ◌+◌, ◌≤◌}
use native.Mathlib.Nat.{le_refl, le_of_suc-le-suc, not-suc-le-zero}
use native.Mathlib.Omega.{arith}
use mathlib.Core.Bool.{Bool, true, false, cond}
use mathlib.Core.List.{List, [], ◌∷◌, ◌++◌}
use mathlib.Core.Option.{Option, none, some, none-ne-some, some-injective}
use Rattle.language.specs.Syntax.{Name, at, TypeTree, bool, int, arrow, vec, TypeTrees, one_type, more_types, Arg, arg, ArgP, val_arg, var_arg, Expr, num, name, if_expr, and, or, app, abs, alloc, nth_expr, len, vset, Exprs, one_expr, more_exprs, ExprP, val, adr, Cmds, last, def_then, stat_then, Def, const, fun, fun_rec, fun_block, fun_rec_block, var, proc, proc_rec, Stat, echo, set, if_stat, while, call, return, Block, block}
use Rattle.language.specs.Bytes.{same_bytes}
use Rattle.language.specs.Names.{Op, Meaning, literal, operator, free, lookup, meaning, unless_nine, head_operator}
use Rattle.language.specs.Types.{Ty, base, fn, vec_of, Tys, tnil, tcons, type_of, types_of, Par, value, ref, Entity, plain, procedure, Ctx, find, extend, values, par, param_type, declared, arg_types, fun_type, Flow, never, may, always}
use Rattle.language.specs.Typing.{HasE, NUM, LITERAL, IDV, IDR, IF, AND, OR, PRIM, APP, ABS, Either, both_never, both_always, never_may, never_always, may_never, may_may, may_always, always_never, always_may, looped, HasB, BLOC, HasC, DECS, STATS, HasS, END, ECHO, SET, IFS, WHILE, CALL, RET, ALLOC, NTH, LEN, VSET}
use Rattle.language.specs.Order.{JudgedNode, expr_node, adr_node, vec_node, param_node, single_node, def_node, stat_node, followed_node, block_node, prog_node, after_def, nodes_type, nodes_types, nodes_after, nodes_params, nodes_head, nodes_expr, nodes_exprs, nodes_arg, nodes_args, nodes_block, nodes_cmds, nodes_def, nodes_stat, nodes_prog}
use Rattle.language.specs.Claims.{Opened, TyFits, TysFit, FlowFits, AllNodes, no_node, one_more, Comparable}
use Rattle.language.proofs.Typing.Unique.{def_ctx}
use Rattle.language.proofs.Typing.Nesting.{FitsType, FitsTypes, FitsParam, FitsParams, FitsExpr, FitsExprs, FitsArg, FitsArgs, FitsBlock, FitsCmds, FitsDef, FitsStat}

-- more levels fit as well
opened_up : (a b : ℕ) {P Q : ℕ → Type 0} → a ≤ b → ((m n : ℕ) → m ≤ n → P m → Q n) → Opened a P → Opened b Q
opened_up zero b le f h = absurd h
opened_up (suc a) zero le f h = absurd (not-suc-le-zero le)
opened_up (suc a) (suc b) le f h = f a b (le_of_suc-le-suc le) h

mutual
  ty_up : (t : Ty) (a b : ℕ) → a ≤ b → TyFits t a → TyFits t b
  ty_up (base k) a b le h = tt
  ty_up (fn ts t) a b le h = opened_up a b le (λ m n l k. (tys_up ts m n l k.0, ty_up t m n l k.1)) h
  ty_up (vec_of t) a b le h = opened_up a b le (λ m n l k. ty_up t m n l k) h

  tys_up : (ts : Tys) (a b : ℕ) → a ≤ b → TysFit ts a → TysFit ts b
  tys_up tnil a b le h = tt
  tys_up (tcons t ts) a b le h = (ty_up t a b le h.0, tys_up ts a b le h.1)

-- a type fits as its tree does
mutual
  type_fits : (t : TypeTree) (n : ℕ) → FitsType t n → TyFits (type_of t) n
  type_fits (bool p) n h = tt
  type_fits (int p) n h = tt
  type_fits (arrow p ts t) zero h = h
  type_fits (arrow p ts t) (suc n) h = (types_fit ts n h.0, type_fits t n h.1)
  type_fits (vec p t) zero h = h
  type_fits (vec p t) (suc n) h = type_fits t n h

  types_fit : (ts : TypeTrees) (n : ℕ) → FitsTypes ts n → TysFit (types_of ts) n
  types_fit (one_type t) n h = (type_fits t n h, tt)
  types_fit (more_types t ts) n h = (type_fits t n h.0, types_fit ts n h.1)

args_fit : (ps : List Arg) (n : ℕ) → FitsParams (values ps) n → TysFit (arg_types ps) n
args_fit [] n h = tt
args_fit (arg x t ∷ ps) n h = (type_fits t n h.0, args_fit ps n h.1)

-- names whose types fit 64 levels
pub data EntityFits : Entity → Type 0 where
  value_fits : {t : Ty} → TyFits t 64 → EntityFits (plain (value t))
  ref_fits : {t : Ty} → TyFits t 64 → EntityFits (plain (ref t))
  proc_fits : {qs : List Par} → EntityFits (procedure qs)

pub data CtxFits : Ctx → Type 0 where
  no_names : CtxFits []
  name_fits : {x : Name} {τ : Entity} {Γ : Ctx} → EntityFits τ → CtxFits Γ → CtxFits ((x, τ) ∷ Γ)

lookup_fits : {Γ : Ctx} {τ : Entity} (x : Name) → CtxFits Γ → lookup Γ x ≡ some τ → EntityFits τ
lookup_fits x no_names e = absurd (none-ne-some _ e)
lookup_fits {τ = τ} x (name_fits {x = y} {τ = τ'} {Γ = Γ} h c) e = go (same_bytes y x) (lookup_fits x c) e
  where
    go : (b : Bool) → (lookup Γ x ≡ some τ → EntityFits τ) → cond b (some τ') (lookup Γ x) ≡ some τ → EntityFits τ
    go true rec e = subst (λ τ. EntityFits τ) (some-injective _ _ e) h
    go false rec e = rec e

find_fits : {Γ : Ctx} {τ : Entity} (x : Name) → CtxFits Γ → find Γ x ≡ some τ → EntityFits τ
find_fits {Γ} {τ} x c e = go (meaning x) e
  where
    go : (m : Meaning) → unless_nine m (lookup Γ x) ≡ some τ → EntityFits τ
    go (literal b) e = absurd (none-ne-some _ e)
    go (operator o) e = absurd (none-ne-some _ e)
    go free e = lookup_fits x c e

value_of : {t : Ty} → EntityFits (plain (value t)) → TyFits t 64
value_of (value_fits h) = h

ref_of : {t : Ty} → EntityFits (plain (ref t)) → TyFits t 64
ref_of (ref_fits h) = h

param_fits : (a : ArgP) (n : ℕ) → n ≤ 64 → FitsParam a n → EntityFits (plain (par a))
param_fits (val_arg x t) n le h = value_fits (ty_up (type_of t) n 64 le (type_fits t n h))
param_fits (var_arg x t) n le h = ref_fits (ty_up (type_of t) n 64 le (type_fits t n h))

params_fit : (ps : List ArgP) (n : ℕ) {Γ : Ctx} → n ≤ 64 → FitsParams ps n → CtxFits Γ → CtxFits (extend (declared ps) Γ)
params_fit [] n le h c = c
params_fit (a ∷ ps) n le h c = params_fit ps n le h.1 (name_fits (param_fits a n le h.0) c)

-- a function's result fits where the function's type does
result_fits : (ts : Tys) (t : Ty) (a b : ℕ) → a ≤ b → TyFits (fn ts t) a → TyFits t b
result_fits ts t zero b le h = absurd h
result_fits ts t (suc a) b le h = ty_up t a b (omega arith) h.1

function_fits : (ts : Tys) (t : Ty) (a b : ℕ) → b ≡ suc a → TysFit ts a → TyFits t a → TyFits (fn ts t) b
function_fits ts t a b e h k = subst (λ b. TyFits (fn ts t) b) (sym e) (h, k)

-- the same for what a block is of
element_fits : (t : Ty) (a b : ℕ) → a ≤ b → TyFits (vec_of t) a → TyFits t b
element_fits t zero b le h = absurd h
element_fits t (suc a) b le h = ty_up t a b (omega arith) h

vec_fits : (t : Ty) (a b : ℕ) → b ≡ suc a → TyFits t a → TyFits (vec_of t) b
vec_fits t a b e h = subst (λ b. TyFits (vec_of t) b) (sym e) h

-- an expression of n levels has a type of no more than n + 64
expr_fits : (e : Expr) (n : ℕ) {Γ : Ctx} {t : Ty} → n ≤ 63 → CtxFits Γ → FitsExpr e n → HasE Γ e t → TyFits t (n + 64)
expr_fits (num p k) n le c f NUM = tt
expr_fits (name (at p x)) n le c f (LITERAL e) = tt
expr_fits (name (at p x)) n {t = t} le c f (IDV e) = ty_up t 64 (n + 64) (omega arith) (value_of (find_fits x c e))
expr_fits (name (at p x)) n {t = t} le c f (IDR e) = ty_up t 64 (n + 64) (omega arith) (ref_of (find_fits x c e))
expr_fits (if_expr p a b d) zero le c f h = absurd f
expr_fits (if_expr p a b d) (suc n) {t = t} le c f (IF ha hb hd) = ty_up t (n + 64) (suc n + 64) (omega arith) (expr_fits b n (omega (arith, le)) c f.1 hb)
expr_fits (and p a b) n le c f (AND ha hb) = tt
expr_fits (or p a b) n le c f (OR ha hb) = tt
expr_fits (app p g es) n le c f (PRIM e ds) = tt
expr_fits (app p g es) zero le c f (APP d ds) = absurd f
expr_fits (app p g es) (suc n) {t = t} le c f (APP {ts = ts} d ds) = result_fits ts t (n + 64) (suc n + 64) (omega arith) (expr_fits g n (omega (arith, le)) c f.0 d)
expr_fits (abs p ps e) zero le c f h = absurd f
expr_fits (abs p ps e) (suc n) le c f (ABS {t = t} g d) =
    function_fits (arg_types ps) t (n + 64) (suc n + 64) (omega arith) (tys_up (arg_types ps) n (n + 64) (omega arith) (args_fit ps n f.0))
    (expr_fits e n (omega (arith, le)) (params_fit (values ps) n (omega (arith, le)) f.0 c) f.1 d)
expr_fits (alloc p t e) zero le c f h = absurd f
expr_fits (alloc p t e) (suc n) le c f (ALLOC g d) =
    vec_fits (type_of t) (n + 64) (suc n + 64) (omega arith) (ty_up (type_of t) n (n + 64) (omega arith) (type_fits t n f.0))
expr_fits (nth_expr p a b) zero le c f h = absurd f
expr_fits (nth_expr p a b) (suc n) {t = t} le c f (NTH ha hb) = element_fits t (n + 64) (suc n + 64) (omega arith) (expr_fits a n (omega (arith, le)) c f.0 ha)
expr_fits (len p a) n le c f (LEN h) = tt
expr_fits (vset p a b d) zero le c f h = absurd f
expr_fits (vset p a b d) (suc n) le c f (VSET {t = t} ha hb hd) =
    ty_up (vec_of t) (n + 64) (suc n + 64) (omega arith) (expr_fits a n (omega (arith, le)) c f.0 ha)

comparable : (e : Expr) (n : ℕ) {Γ : Ctx} → n ≤ 63 → CtxFits Γ → FitsExpr e n → Comparable (expr_node Γ e)
comparable e n le c f t h = ty_up t (n + 64) 128 (omega (arith, le)) (expr_fits e n le c f h)

-- ---- every node

all_both : {l m : List JudgedNode} → AllNodes Comparable l → AllNodes Comparable m → AllNodes Comparable (l ++ m)
all_both no_node k = k
all_both (one_more h r) k = one_more h (all_both r k)

one_node : (n : JudgedNode) → Comparable n → AllNodes Comparable (n ∷ [])
one_node n h = one_more {n = n} h no_node

mutual
  unfolding nodes_type

  all_type : (t : TypeTree) → AllNodes Comparable (nodes_type t)
  all_type (bool p) = no_node
  all_type (int p) = no_node
  all_type (arrow p ts t) = all_both (all_types ts) (all_type t)
  all_type (vec p t) = all_both (all_type t) (one_node (vec_node p t) tt)

  all_types : (ts : TypeTrees) → AllNodes Comparable (nodes_types ts)
  all_types (one_type t) = all_type t
  all_types (more_types t ts) = all_both (all_type t) (all_types ts)

all_after : (xs : List Name) (ps : List ArgP) → AllNodes Comparable (nodes_after xs ps)
all_after xs [] = no_node
all_after xs (a ∷ ps) = all_both (all_type (param_type a)) (one_more {n = param_node a} tt (one_more {n = single_node xs a} tt (all_after _ ps)))

all_params : (ps : List ArgP) → AllNodes Comparable (nodes_params ps)
all_params ps = all_after [] ps

all_head : (g : Option Op) (l : List JudgedNode) → AllNodes Comparable l → AllNodes Comparable (nodes_head g l)
all_head none l h = h
all_head (some o) l h = no_node

mutual
  unfolding nodes_expr

  all_expr : (e : Expr) (n : ℕ) (Γ : Ctx) → n ≤ 63 → CtxFits Γ → FitsExpr e n → AllNodes Comparable (nodes_expr Γ e)
  all_expr (num p k) n Γ le c f = (one_node (expr_node Γ (num p k)) (comparable (num p k) n le c f))
  all_expr (name x) n Γ le c f = (one_node (expr_node Γ (name x)) (comparable (name x) n le c f))
  all_expr (if_expr p a b d) zero Γ le c f = absurd f
  all_expr (if_expr p a b d) (suc n) Γ le c f = let l : n ≤ 63 = omega (arith, le) in
      all_both (all_expr a n Γ l c f.0) (all_both (all_expr b n Γ l c f.1)
      (all_both (all_expr d n Γ l c f.2) (one_node (expr_node Γ (if_expr p a b d)) (comparable (if_expr p a b d) (suc n) le c f))))
  all_expr (and p a b) zero Γ le c f = absurd f
  all_expr (and p a b) (suc n) Γ le c f = let l : n ≤ 63 = omega (arith, le) in
      all_both (all_expr a n Γ l c f.0) (all_both (all_expr b n Γ l c f.1) (one_node (expr_node Γ (and p a b)) (comparable (and p a b) (suc n) le c f)))
  all_expr (or p a b) zero Γ le c f = absurd f
  all_expr (or p a b) (suc n) Γ le c f = let l : n ≤ 63 = omega (arith, le) in
      all_both (all_expr a n Γ l c f.0) (all_both (all_expr b n Γ l c f.1) (one_node (expr_node Γ (or p a b)) (comparable (or p a b) (suc n) le c f)))
  all_expr (app p g es) zero Γ le c f = absurd f
  all_expr (app p g es) (suc n) Γ le c f = let l : n ≤ 63 = omega (arith, le) in
      all_both (all_head (head_operator g) (nodes_expr Γ g) (all_expr g n Γ l c f.0))
      (all_both (all_exprs es n Γ l c f.1) (one_node (expr_node Γ (app p g es)) (comparable (app p g es) (suc n) le c f)))
  all_expr (abs p ps e) zero Γ le c f = absurd f
  all_expr (abs p ps e) (suc n) Γ le c f =
      all_both (all_params (values ps))
      (all_both
      (all_expr e n (extend (declared (values ps)) Γ) (omega (arith, le)) (params_fit (values ps) n (omega (arith, le)) f.0 c) f.1) (one_node (expr_node Γ (abs p ps e)) (comparable (abs p ps e) (suc n) le c f)))
  all_expr (alloc p t e) zero Γ le c f = absurd f
  all_expr (alloc p t e) (suc n) Γ le c f = let l : n ≤ 63 = omega (arith, le) in
      all_both (all_type t) (all_both (all_expr e n Γ l c f.1) (one_node (expr_node Γ (alloc p t e)) (comparable (alloc p t e) (suc n) le c f)))
  all_expr (nth_expr p a b) zero Γ le c f = absurd f
  all_expr (nth_expr p a b) (suc n) Γ le c f = let l : n ≤ 63 = omega (arith, le) in
      all_both (all_expr a n Γ l c f.0) (all_both (all_expr b n Γ l c f.1) (one_node (expr_node Γ (nth_expr p a b)) (comparable (nth_expr p a b) (suc n) le c f)))
  all_expr (len p a) zero Γ le c f = absurd f
  all_expr (len p a) (suc n) Γ le c f = let l : n ≤ 63 = omega (arith, le) in
      all_both (all_expr a n Γ l c f) (one_node (expr_node Γ (len p a)) (comparable (len p a) (suc n) le c f))
  all_expr (vset p a b d) zero Γ le c f = absurd f
  all_expr (vset p a b d) (suc n) Γ le c f = let l : n ≤ 63 = omega (arith, le) in
      all_both (all_expr a n Γ l c f.0) (all_both (all_expr b n Γ l c f.1)
      (all_both (all_expr d n Γ l c f.2) (one_node (expr_node Γ (vset p a b d)) (comparable (vset p a b d) (suc n) le c f))))

  all_exprs : (es : Exprs) (n : ℕ) (Γ : Ctx) → n ≤ 63 → CtxFits Γ → FitsExprs es n → AllNodes Comparable (nodes_exprs Γ es)
  all_exprs (one_expr e) n Γ le c f = all_expr e n Γ le c f
  all_exprs (more_exprs e es) n Γ le c f = all_both (all_expr e n Γ le c f.0) (all_exprs es n Γ le c f.1)

all_arg : (a : ExprP) (n : ℕ) (Γ : Ctx) → n ≤ 63 → CtxFits Γ → FitsArg a n → AllNodes Comparable (nodes_arg Γ a)
all_arg (val e) n Γ le c f = all_expr e n Γ le c f
all_arg (adr p x) n Γ le c f = one_node (adr_node Γ p x) tt

all_args_lem : (as' : List ExprP) (n : ℕ) (Γ : Ctx) → n ≤ 63 → CtxFits Γ → FitsArgs as' n → AllNodes Comparable (nodes_args Γ as')
all_args_lem [] n Γ le c f = no_node
all_args_lem (a ∷ as') n Γ le c f = all_both (all_arg a n Γ le c f.0) (all_args_lem as' n Γ le c f.1)

-- what a definition binds
fun_fits : (ps : List Arg) (t : TypeTree) (n : ℕ) → n ≤ 63 → FitsType t n → FitsParams (values ps) n → EntityFits (plain (value (fun_type ps t)))
fun_fits ps t n le h k = value_fits {t = fun_type ps t} (tys_up (arg_types ps) n 63 le (args_fit ps n k), ty_up (type_of t) n 63 le (type_fits t n h))

after_fits : (d : Def) (n : ℕ) {Γ : Ctx} → n ≤ 63 → CtxFits Γ → FitsDef d n → CtxFits (after_def d Γ)
after_fits (const p (at q x) t e) n le c f = name_fits (value_fits (ty_up (type_of t) n 64 (omega (arith, le)) (type_fits t n f.0))) c
after_fits (fun p (at q x) t ps e) n le c f = name_fits (fun_fits ps t n le f.0 f.1) c
after_fits (fun_rec p (at q x) t ps e) n le c f = name_fits (fun_fits ps t n le f.0 f.1) c
after_fits (fun_block p (at q x) t ps b) n le c f = name_fits (fun_fits ps t n le f.0 f.1) c
after_fits (fun_rec_block p (at q x) t ps b) n le c f = name_fits (fun_fits ps t n le f.0 f.1) c
after_fits (var p (at q x) t) n le c f = name_fits (ref_fits (ty_up (type_of t) n 64 (omega (arith, le)) (type_fits t n f))) c
after_fits (proc p (at q x) ps b) n le c f = name_fits proc_fits c
after_fits (proc_rec p (at q x) ps b) n le c f = name_fits proc_fits c

-- what is returned has the type of an expression
either_fits : {f g h : Flow} → Either f g h → FlowFits f 128 → FlowFits g 128 → FlowFits h 128
either_fits both_never a b = tt
either_fits both_always a b = a
either_fits never_may a b = b
either_fits never_always a b = b
either_fits may_never a b = a
either_fits may_may a b = a
either_fits may_always a b = a
either_fits always_never a b = a
either_fits always_may a b = a

looped_fits : (f : Flow) → FlowFits f 128 → FlowFits (looped f) 128
looped_fits never h = tt
looped_fits (may t) h = h
looped_fits (always t) h = h

mutual
  block_returns : (b : Block) (n : ℕ) {Γ : Ctx} (f : Flow) → n ≤ 64 → CtxFits Γ → FitsBlock b n → HasB Γ b f → FlowFits f 128
  block_returns (block p cs) zero f le c k h = absurd k
  block_returns (block p cs) (suc n) f le c k (BLOC h) = cmds_return cs n f (le_of_suc-le-suc le) c k h

  cmds_return : (cs : Cmds) (n : ℕ) {Γ : Ctx} (f : Flow) → n ≤ 63 → CtxFits Γ → FitsCmds cs n → HasC Γ cs f → FlowFits f 128
  cmds_return (def_then d cs) n f le c k (DECS h hs) = cmds_return cs n f le (subst (λ Δ. CtxFits Δ) (sym (def_ctx d h)) (after_fits d n le c k.0)) k.1 hs
  cmds_return (stat_then s cs) n f le c k (STATS h hs b) = cmds_return cs n f le c k.1 hs
  cmds_return (last s) n f le c k (END h) = stat_returns s n f le c k h

  stat_returns : (s : Stat) (n : ℕ) {Γ : Ctx} (f : Flow) → n ≤ 63 → CtxFits Γ → FitsStat s n → HasS Γ s f → FlowFits f 128
  stat_returns (echo p e) n f le c k (ECHO h) = tt
  stat_returns (set p (at q x) e) n f le c k (SET i h) = tt
  stat_returns (if_stat p e a b) n f le c k (IFS {f = u} {g = v} h ha hb i) =
      either_fits i (block_returns a n u (omega (arith, le)) c k.1 ha) (block_returns b n v (omega (arith, le)) c k.2 hb)
  stat_returns (while p e b) n f le c k (WHILE {f = u} h hb) = looped_fits u (block_returns b n u (omega (arith, le)) c k.1 hb)
  stat_returns (call p (at q x) as') n f le c k (CALL i h) = tt
  stat_returns (return p e) n f le c k (RET {t = t} h) = comparable e n le c k t h

a_stat : (s : Stat) (n : ℕ) {Γ : Ctx} → n ≤ 63 → CtxFits Γ → FitsStat s n → AllNodes Comparable (stat_node Γ s ∷ [])
a_stat s n {Γ} le c f = one_node (stat_node Γ s) (λ g h. stat_returns s n g le c f h)

mutual
  unfolding nodes_cmds

  all_block : (b : Block) (n : ℕ) (Γ : Ctx) → n ≤ 64 → CtxFits Γ → FitsBlock b n → AllNodes Comparable (nodes_block Γ b)
  all_block (block p cs) zero Γ le c f = absurd f
  all_block (block p cs) (suc n) Γ le c f =
      all_both (all_cmds cs n Γ (le_of_suc-le-suc le) c f) (one_node (block_node Γ (block p cs)) (λ g h. block_returns (block p cs) (suc n) g le c f h))

  all_cmds : (cs : Cmds) (n : ℕ) (Γ : Ctx) → n ≤ 63 → CtxFits Γ → FitsCmds cs n → AllNodes Comparable (nodes_cmds Γ cs)
  all_cmds (def_then d cs) n Γ le c f = all_both (all_def d n Γ le c f.0) (all_cmds cs n (after_def d Γ) le (after_fits d n le c f.0) f.1)
  all_cmds (stat_then s cs) n Γ le c f = all_both (all_stat s n Γ le c f.0) (one_more {n = followed_node Γ s} tt (all_cmds cs n Γ le c f.1))
  all_cmds (last s) n Γ le c f = all_stat s n Γ le c f

  all_def : (d : Def) (n : ℕ) (Γ : Ctx) → n ≤ 63 → CtxFits Γ → FitsDef d n → AllNodes Comparable (nodes_def Γ d)
  all_def (const p x t e) n Γ le c f = all_both (all_type t) (all_both (all_expr e n Γ le c f.1) (one_node (def_node Γ (const p x t e)) tt))
  all_def (fun p x t ps e) n Γ le c f = all_both (all_type t) (all_both (all_params (values ps))
      (all_both (all_expr e n _ le (params_fit (values ps) n (omega (arith, le)) f.1 c) f.2) (one_node (def_node Γ (fun p x t ps e)) tt)))
  all_def (fun_rec p (at q x) t ps e) n Γ le c f = all_both (all_type t) (all_both (all_params (values ps))
      (all_both
      (all_expr e n _ le (name_fits (fun_fits ps t n le f.0 f.1) (params_fit (values ps) n (omega (arith, le)) f.1 c)) f.2) (one_node (def_node Γ (fun_rec p (at q x) t ps e)) tt)))
  all_def (fun_block p x t ps b) n Γ le c f = all_both (all_type t) (all_both (all_params (values ps))
      (all_both (all_block b n _ (omega (arith, le)) (params_fit (values ps) n (omega (arith, le)) f.1 c) f.2) (one_node (def_node Γ (fun_block p x t ps b)) tt)))
  all_def (fun_rec_block p (at q x) t ps b) n Γ le c f = all_both (all_type t) (all_both (all_params (values ps))
      (all_both
      (all_block b n _ (omega (arith, le)) (name_fits (fun_fits ps t n le f.0 f.1) (params_fit (values ps) n (omega (arith, le)) f.1 c)) f.2) (one_node (def_node Γ (fun_rec_block p (at q x) t ps b)) tt)))
  all_def (var p x t) n Γ le c f = all_both (all_type t) (one_node (def_node Γ (var p x t)) tt)
  all_def (proc p x ps b) n Γ le c f = all_both (all_params ps)
      (all_both (all_block b n _ (omega (arith, le)) (params_fit ps n (omega (arith, le)) f.0 c) f.1) (one_node (def_node Γ (proc p x ps b)) tt))
  all_def (proc_rec p (at q x) ps b) n Γ le c f = all_both (all_params ps)
      (all_both
      (all_block b n _ (omega (arith, le)) (name_fits proc_fits (params_fit ps n (omega (arith, le)) f.0 c)) f.1) (one_node (def_node Γ (proc_rec p (at q x) ps b)) tt))

  all_stat : (s : Stat) (n : ℕ) (Γ : Ctx) → n ≤ 63 → CtxFits Γ → FitsStat s n → AllNodes Comparable (nodes_stat Γ s)
  all_stat (echo p e) n Γ le c f = all_both (all_expr e n Γ le c f) (a_stat (echo p e) n le c f)
  all_stat (set p x e) n Γ le c f = all_both (all_expr e n Γ le c f) (a_stat (set p x e) n le c f)
  all_stat (if_stat p e a b) n Γ le c f = all_both (all_expr e n Γ le c f.0)
      (all_both (all_block a n Γ (omega (arith, le)) c f.1) (all_both (all_block b n Γ (omega (arith, le)) c f.2) (a_stat (if_stat p e a b) n le c f)))
  all_stat (while p e b) n Γ le c f = all_both (all_expr e n Γ le c f.0) (all_both (all_block b n Γ (omega (arith, le)) c f.1) (a_stat (while p e b) n le c f))
  all_stat (call p x as') n Γ le c f = all_both (all_args_lem as' n Γ le c f) (a_stat (call p x as') n le c f)
  all_stat (return p e) n Γ le c f = all_both (all_expr e n Γ le c f) (a_stat (return p e) n le c f)

pub types_fit_128 : (b : Block) → FitsBlock b 64 → AllNodes Comparable (nodes_prog b)
types_fit_128 b f = all_both (all_block b 64 [] (le_refl 64) no_names f) (one_node (prog_node b) tt)
