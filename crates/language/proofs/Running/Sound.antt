-- A typable program never reaches a state that no rule fits.
use mathlib.Core.Path.{◌≡◌, refl, sym, ap, subst}
use Prim.Native.Nat.{ℕ, zero, suc, ◌+◌, ◌<◌}
use native.Mathlib.Nat.{le_of_suc-le-suc, not-suc-le-zero}
use native.Mathlib.Omega.{arith}
use mathlib.Core.Bool.{Bool, true, false, cond}
use mathlib.Core.List.{List, [], ◌∷◌, ◌++◌}
use mathlib.Core.Option.{Option, none, some, none-ne-some, some-injective}
use lib.Dec.{T, ltb, ltb→lt}
use lib.IntN.{ℤ, pos, negsuc, ◌+ℤ◌, ◌-ℤ◌, ◌*ℤ◌}
use lib.Signed.{lt_z}
use lib.ListN.{length, replicate}
use Rattle.language.specs.Syntax.{Name, Arg, arg, ArgP, Expr, Exprs, ExprP, Cmds, Def, Stat, Block}
use Rattle.language.specs.Bytes.{same_bytes}
use Rattle.language.specs.Answers.{LimitStop, CELLS, ErrorStop, SIZE, INDEX}
use Rattle.language.specs.Names.{Op, not, eq, lt, add, sub, mul, div, Meaning, literal, operator, free, lookup, meaning, unless_nine, head_operator}
use Rattle.language.specs.Numbers.{in_range, quotient, Computed, amount, fails, ranged, same_number, bit, as_bit, negated}
use Rattle.language.specs.Types.{Base, boolean, integer, Ty, base, fn, vec_of, Tys, tnil, tcons, BOOL, INT, type_of, Par, value, ref, Entity, plain, procedure, Ctx, find, extend, values, par, pars, param_name, param_names, declared, arg_types, Flow, never, may, always, takes, result}
use Rattle.language.specs.Typing.{HasE, NUM, LITERAL, IDV, IDR, IF, AND, OR, PRIM, APP, ABS, ALLOC, NTH, LEN, VSET, HasEs, ONE, MORE, HasA, REF, VAL, HasAs, NO_ARGS, ARGS, Either, both_never, both_always, never_may, never_always, may_never, may_may, may_always, always_never, always_may, looped, Before, after_never, after_may, then_always, HasB, BLOC, HasC, DECS, STATS, END, HasD, CONST, FUN, FUNREC, VAR, PROC, PROCREC, HasS, FUNP, FUNRECP, ECHO, SET, IFS, WHILE, CALL, RET, Typable}
use Rattle.language.specs.Limits.{Limits}
use Rattle.language.specs.Rules.{Val, in_z, in_f, in_fr, in_p, in_pr, in_a, in_b, Env, empty, bound, Cell, State, Returned, Why, stop, no_rule, Outcome, ok, halt, bind, need, unless_returned, otherwise, within, branch, take_unit, with_cells, make, lookup_env, look, bind_all, nth, behind, fresh, store, as_number, as_truth, as_address, as_block, as_size, cell_in, operate, Entered, entering, also, Body, an_expr, a_block, open_function, open_procedure, give, give_cell, Level, exprs, args, cmds, in_block, in_body, read, name_rule, apply_rule, alloc_rule, element_rule, expr_rule, arg_rule, def_rule, rounds, stat_rule, step, level, start, run, ended}
use Rattle.language.specs.Claims.{NoRule}
use Rattle.language.proofs.Typing.Names.{Has, has, head_typed}

-- ---- what typing says of values

-- what each cell may hold
abbrev pub StoreT : Type 0
StoreT = List Ty

-- a store that has grown: what was known of a cell still holds
pub record Ext (S S' : StoreT) : Type 0 where
  pub keeps : (a : ℕ) (t : Ty) → nth S a ≡ some t → nth S' a ≡ some t

abbrev pub IsBit : ℤ → Type 0
IsBit (pos zero) = Unit {0}
IsBit (pos (suc zero)) = Unit {0}
IsBit (pos (suc (suc n))) = ⊥
IsBit (negsuc n) = ⊥

abbrev pub NumOf : Base → ℤ → Type 0
NumOf integer n = Unit {0}
NumOf boolean n = IsBit n

abbrev pub values_of : Tys → List Entity
values_of tnil = []
values_of (tcons t ts) = plain (value t) ∷ values_of ts

abbrev pub plains : List Par → List Entity
plains [] = []
plains (q ∷ qs) = plain q ∷ plains qs

abbrev pub names_in : List (Name × Entity) → List Name
names_in [] = []
names_in (d ∷ ds) = d.0 ∷ names_in ds

abbrev pub entities_in : List (Name × Entity) → List Entity
entities_in [] = []
entities_in (d ∷ ds) = d.1 ∷ entities_in ds

-- the cells of a block are all of its type
abbrev pub BlockT : StoreT → Ty → ℕ × ℕ → Type 0
BlockT S t k = (i : ℕ) → i < k.1 → nth S (k.0 + i) ≡ some t

mutual
  pub data VT (S : StoreT) : Val → Entity → Type 0 where
    v_z : {n : ℤ} {b : Base} → NumOf b n → VT S (in_z n) (plain (value (base b)))
    v_f : {xs : List Name} {e : Expr} {ρ : Env} {ts : Tys} {t : Ty} (Γ : Ctx) (ds : List (Name × Entity)) → EnvT S ρ Γ →
        names_in ds ≡ xs → entities_in ds ≡ values_of ts → HasE (extend ds Γ) e t → VT S (in_f e xs ρ) (plain (value (fn ts t)))
    v_fr : {f : Name} {xs : List Name} {e : Expr} {ρ : Env} {ts : Tys} {t : Ty} (Γ : Ctx) (ds : List (Name × Entity)) → EnvT S ρ Γ →
        names_in ds ≡ xs → entities_in ds ≡ values_of ts → HasE ((f, plain (value (fn ts t))) ∷ extend ds Γ) e t → VT S (in_fr e f xs ρ) (plain (value (fn ts t)))
    v_p : {xs : List Name} {c : Block} {ρ : Env} {qs : List Par} (Γ : Ctx) (ds : List (Name × Entity)) → EnvT S ρ Γ →
        names_in ds ≡ xs → entities_in ds ≡ plains qs → HasB (extend ds Γ) c never → VT S (in_p c xs ρ) (procedure qs)
    v_pr : {f : Name} {xs : List Name} {c : Block} {ρ : Env} {qs : List Par} (Γ : Ctx) (ds : List (Name × Entity)) → EnvT S ρ Γ →
        names_in ds ≡ xs → entities_in ds ≡ plains qs → HasB ((f, procedure qs) ∷ extend ds Γ) c never → VT S (in_pr c f xs ρ) (procedure qs)
    v_fp : {xs : List Name} {c : Block} {ρ : Env} {ts : Tys} {t : Ty} (Γ : Ctx) (ds : List (Name × Entity)) → EnvT S ρ Γ →
        names_in ds ≡ xs → entities_in ds ≡ values_of ts → HasB (extend ds Γ) c (always t) → VT S (in_p c xs ρ) (plain (value (fn ts t)))
    v_fpr : {f : Name} {xs : List Name} {c : Block} {ρ : Env} {ts : Tys} {t : Ty} (Γ : Ctx) (ds : List (Name × Entity)) → EnvT S ρ Γ →
        names_in ds ≡ xs → entities_in ds ≡ values_of ts → HasB ((f, plain (value (fn ts t))) ∷ extend ds Γ) c (always t) → VT S (in_pr c f xs ρ) (plain (value (fn ts t)))
    v_a : {a : ℕ} {t : Ty} → nth S a ≡ some t → VT S (in_a a) (plain (ref t))
    v_b : {a n : ℕ} {t : Ty} → BlockT S t (a, n) → VT S (in_b a n) (plain (value (vec_of t)))

  pub data EnvT (S : StoreT) : Env → Ctx → Type 0 where
    tnone : EnvT S empty []
    tbound : {x : Name} {v : Val} {τ : Entity} {ρ : Env} {Γ : Ctx} → VT S v τ → EnvT S ρ Γ → EnvT S (bound x v ρ) ((x, τ) ∷ Γ)

pub data VTs (S : StoreT) : List Val → List Entity → Type 0 where
  vnil : VTs S [] []
  vcons : {v : Val} {vs : List Val} {τ : Entity} {τs : List Entity} → VT S v τ → VTs S vs τs → VTs S (v ∷ vs) (τ ∷ τs)

-- a cell is unset, or holds a value of its type
pub data CellT (S : StoreT) (t : Ty) : Option Val → Type 0 where
  unset : CellT S t none
  holds : {v : Val} → VT S v (plain (value t)) → CellT S t (some v)

pub data CellsT (S : StoreT) : StoreT → List Cell → Type 0 where
  cnil : CellsT S [] []
  ccons : {t : Ty} {R : StoreT} {c : Cell} {cs : List Cell} → CellT S t c.holds → CellsT S R cs → CellsT S (t ∷ R) (c ∷ cs)

abbrev pub StoreOk : StoreT → List Cell → Type 0
StoreOk S cs = CellsT S S cs

module _ {S S' : StoreT} (le : Ext S S') where
  mutual
    vt_ext : {v : Val} {τ : Entity} → VT S v τ → VT S' v τ
    vt_ext (v_z h) = v_z h
    vt_ext (v_f Γ ds h p q d) = v_f Γ ds (env_ext h) p q d
    vt_ext (v_fr Γ ds h p q d) = v_fr Γ ds (env_ext h) p q d
    vt_ext (v_p Γ ds h p q d) = v_p Γ ds (env_ext h) p q d
    vt_ext (v_pr Γ ds h p q d) = v_pr Γ ds (env_ext h) p q d
    vt_ext (v_fp Γ ds h p q d) = v_fp Γ ds (env_ext h) p q d
    vt_ext (v_fpr Γ ds h p q d) = v_fpr Γ ds (env_ext h) p q d
    vt_ext (v_a h) = v_a (le.keeps _ _ h)
    vt_ext (v_b h) = v_b (λ i l. le.keeps _ _ (h i l))

    env_ext : {ρ : Env} {Γ : Ctx} → EnvT S ρ Γ → EnvT S' ρ Γ
    env_ext tnone = tnone
    env_ext (tbound h r) = tbound (vt_ext h) (env_ext r)

  cell_ext : {t : Ty} {c : Option Val} → CellT S t c → CellT S' t c
  cell_ext unset = unset
  cell_ext (holds h) = holds (vt_ext h)

  cells_ext : {R : StoreT} {cs : List Cell} → CellsT S R cs → CellsT S' R cs
  cells_ext cnil = cnil
  cells_ext (ccons h r) = ccons (cell_ext h) (cells_ext r)

ext_refl : {S : StoreT} → Ext S S
ext_refl = record { keeps = λ a b h. h }

ext_trans : {S S₁ S₂ : StoreT} → Ext S S₁ → Ext S₁ S₂ → Ext S S₂
ext_trans f g = record { keeps = λ a b h. g.keeps a b (f.keeps a b h) }

-- ---- outcomes that some rule gives

abbrev pub Ruled : Why → Type 0
Ruled (stop w) = Unit {0}
Ruled no_rule = ⊥

-- with what P says of the result
pub data Good {A : Type 0} (P : StoreT → A → Type 0) (S : StoreT) : Outcome A → Type 0 where
  good : {a : A} {s : State} (S' : StoreT) → Ext S S' → StoreOk S' s.cells → P S' a → Good P S (ok a s)
  ruled : {w : Why} {p : ℕ} {s : State} → Ruled w → Good P S (halt w p s)

weaken : {B : Type 0} {Q : StoreT → B → Type 0} {S S' : StoreT} {o : Outcome B} → Ext S S' → Good Q S' o → Good Q S o
weaken le (good S₁ le₁ h q) = good S₁ (ext_trans le le₁) h q
weaken le (ruled r) = ruled r

module _ {A B : Type 0} {P : StoreT → A → Type 0} {Q : StoreT → B → Type 0} {S : StoreT} where
  good_bind : {o : Outcome A} {k : A → State → Outcome B} → Good P S o →
      ((S' : StoreT) (a : A) (s : State) → Ext S S' → StoreOk S' s.cells → P S' a → Good Q S' (k a s)) → Good Q S (bind o k)
  unfolding bind
  good_bind (good {a = a} {s = s} S₁ le h p) f = weaken le (f S₁ a s le h p)
  good_bind (ruled r) f = ruled r

module _ {A B : Type 0} {P : A → Type 0} {Q : StoreT → B → Type 0} {S : StoreT} where
  good_need : {o : Option A} (p : ℕ) (s : State) {k : A → Outcome B} → Has P o → ((a : A) → P a → Good Q S (k a)) → Good Q S (need o p s k)
  unfolding need
  good_need p s (has {a = a} h) f = f a h

module _ {A B : Type 0} {Q : StoreT → B → Type 0} {S : StoreT} where
  good_otherwise : (o : Option A) (x : ErrorStop) (p : ℕ) (s : State) {k : A → Outcome B} → ((a : A) → o ≡ some a → Good Q S (k a)) → Good Q S (otherwise o x p s k)
  unfolding otherwise
  good_otherwise none x p s f = ruled tt
  good_otherwise (some a) x p s f = f a refl

module _ {B : Type 0} {Q : StoreT → B → Type 0} {S : StoreT} where
  good_within : (b : Bool) (l : LimitStop) (p : ℕ) (s : State) {o : Outcome B} → Good Q S o → Good Q S (within b l p s o)
  unfolding within
  good_within true l p s g = g
  good_within false l p s g = ruled tt

  good_branch : (b : Bool) {o o' : Outcome B} → Good Q S o → Good Q S o' → Good Q S (branch b o o')
  unfolding branch
  good_branch true g g' = g
  good_branch false g g' = g'

abbrev pub IsV : Entity → StoreT → Val → Type 0
IsV τ S v = VT S v τ

abbrev pub IsVs : List Entity → StoreT → List Val → Type 0
IsVs τs S vs = VTs S vs τs

abbrev pub IsEnv : Ctx → StoreT → Env → Type 0
IsEnv Γ S ρ = EnvT S ρ Γ

-- what was returned is what the commands say: nothing, or a value of their type
pub data Gave (S : StoreT) : Flow → Returned → Type 0 where
  nothing : Gave S never none
  not_yet : {t : Ty} → Gave S (may t) none
  by_chance : {t : Ty} {v : Val} → VT S v (plain (value t)) → Gave S (may t) (some v)
  by_right : {t : Ty} {v : Val} → VT S v (plain (value t)) → Gave S (always t) (some v)

abbrev pub IsGiven : Flow → StoreT → Returned → Type 0
IsGiven f S o = Gave S f o

abbrev pub IsUnit : StoreT → Unit {0} → Type 0
IsUnit S u = Unit {0}

good_as : {A : Type 0} {P Q : StoreT → A → Type 0} {S : StoreT} {o : Outcome A} → ((S' : StoreT) (a : A) → P S' a → Q S' a) → Good P S o → Good Q S o
good_as f (good S₁ le h p) = good S₁ le h (f S₁ _ p)
good_as f (ruled r) = ruled r

-- commands, and then others, if what they return goes together
before_given : {S : StoreT} {f g : Flow} {v : Val} → Before f g → Gave S f (some v) → Gave S g (some v)
before_given after_never h = elim h [ ]
before_given after_may (by_chance h) = by_chance h
before_given then_always (by_chance h) = by_right h

good_then : {S : StoreT} {f g : Flow} {o : Outcome Returned} {k : State → Outcome Returned} → Before f g → Good (IsGiven f) S o →
    ((S' : StoreT) (s : State) → Ext S S' → StoreOk S' s.cells → Good (IsGiven g) S' (k s)) → Good (IsGiven g) S (unless_returned o k)
unfolding unless_returned
good_then b (good {a = none} {s = s} S₁ le h p) j = weaken le (j S₁ s le h)
good_then b (good {a = some v} S₁ le h p) j = good S₁ le h (before_given b p)
good_then b (ruled r) j = ruled r

-- of a branch and of a round
left_given : {S : StoreT} {f g h : Flow} {o : Returned} → Either f g h → Gave S f o → Gave S h o
left_given both_never nothing = nothing
left_given both_always (by_right v) = by_right v
left_given never_may nothing = not_yet
left_given never_always nothing = not_yet
left_given may_never m = m
left_given may_may m = m
left_given may_always m = m
left_given always_never (by_right v) = by_chance v
left_given always_may (by_right v) = by_chance v

right_given : {S : StoreT} {f g h : Flow} {o : Returned} → Either f g h → Gave S g o → Gave S h o
right_given both_never nothing = nothing
right_given both_always (by_right v) = by_right v
right_given never_may m = m
right_given never_always (by_right v) = by_chance v
right_given may_never nothing = not_yet
right_given may_may m = m
right_given may_always (by_right v) = by_chance v
right_given always_never nothing = not_yet
right_given always_may m = m

-- a round that gave nothing is followed by the next, which gives what the loop gives
around : (f : Flow) → Before (looped f) (looped f)
around never = after_never
around (may t) = after_may
around (always t) = after_may

round_given : {S : StoreT} {f : Flow} {o : Returned} → Gave S f o → Gave S (looped f) o
round_given nothing = nothing
round_given not_yet = not_yet
round_given (by_chance h) = by_chance h
round_given (by_right h) = by_chance h

loop_ends : {S : StoreT} (f : Flow) → Gave S (looped f) none
loop_ends never = nothing
loop_ends (may t) = not_yet
loop_ends (always t) = not_yet

-- a function's block gives a value; a program's gives none
value_given : {S : StoreT} {t : Ty} {o : Returned} → Gave S (always t) o → Has (λ v. VT S v (plain (value t))) o
value_given (by_right h) = has h

ended_ok : {S : StoreT} {o : Returned} (p : ℕ) (s : State) → StoreOk S s.cells → Gave S never o → Good IsUnit S (ended o p s)
ended_ok p s k nothing = good _ ext_refl k tt

-- ---- names

lookup_ok : {S : StoreT} {ρ : Env} {Γ : Ctx} {τ : Entity} (x : Name) → EnvT S ρ Γ → lookup Γ x ≡ some τ → Has (λ v. VT S v τ) (lookup_env ρ x)
lookup_ok x tnone e = absurd (none-ne-some _ e)
lookup_ok {S = S} {τ = τ} x (tbound {x = y} {v = v} {τ = τ'} {ρ = ρ} {Γ = Γ} h r) e = go (same_bytes y x) (lookup_ok x r) e
  where
    go : (b : Bool) → (lookup Γ x ≡ some τ → Has (λ v. VT S v τ) (lookup_env ρ x)) → cond b (some τ') (lookup Γ x) ≡ some τ →
        Has (λ v. VT S v τ) (cond b (some v) (lookup_env ρ x))
    go true rec e = has (subst (λ τ. VT S v τ) (some-injective _ _ e) h)
    go false rec e = rec e

unless_ok : {S : StoreT} {τ : Entity} (m : Meaning) {o : Option Entity} {v : Option Val} → (o ≡ some τ → Has (λ v. VT S v τ) v) → unless_nine m o ≡ some τ →
    Has (λ v. VT S v τ) (unless_nine m v)
unless_ok (literal b) f e = absurd (none-ne-some _ e)
unless_ok (operator o) f e = absurd (none-ne-some _ e)
unless_ok free f e = f e

look_ok : {S : StoreT} {ρ : Env} {Γ : Ctx} {τ : Entity} (x : Name) → EnvT S ρ Γ → find Γ x ≡ some τ → Has (λ v. VT S v τ) (look ρ x)
look_ok x r e = unless_ok (meaning x) (lookup_ok x r) e

-- ---- cells

cell_ok : {S R : StoreT} {cs : List Cell} {t : Ty} (a : ℕ) → CellsT S R cs → nth R a ≡ some t → Has (λ c. CellT S t c.holds) (nth cs a)
cell_ok a cnil e = absurd (none-ne-some _ e)
cell_ok {S = S} zero (ccons {c = c} h r) e = has (subst (λ t. CellT S t c.holds) (some-injective _ _ e) h)
cell_ok (suc a) (ccons h r) e = cell_ok a r e

store_ok : {S R : StoreT} {cs : List Cell} {t : Ty} (a : ℕ) {v : Val} → VT S v (plain (value t)) → CellsT S R cs → nth R a ≡ some t →
    Has (λ cs'. CellsT S R cs') (store cs a v)
store_ok a m cnil e = absurd (none-ne-some _ e)
store_ok {S = S} zero {v = v} m (ccons h r) e = has (ccons (holds (subst (λ t. VT S v (plain (value t))) (sym (some-injective _ _ e)) m)) r)
store_ok {S = S} (suc a) m (ccons {t = t₀} {R = R} {c = c} h r) e = go (store_ok a m r e)
  where
    go : {o : Option (List Cell)} → Has (λ cs'. CellsT S R cs') o → Has (λ cs'. CellsT S (t₀ ∷ R) cs') (behind c o)
    go (has k) = has (ccons h k)

-- fresh cells
nth_grow : (S R : StoreT) (a : ℕ) (t : Ty) → nth S a ≡ some t → nth (S ++ R) a ≡ some t
nth_grow [] R a t e = absurd (none-ne-some _ e)
nth_grow (x ∷ S) R zero t e = e
nth_grow (x ∷ S) R (suc a) t e = nth_grow S R a t e

grow : {S : StoreT} (R : StoreT) → Ext S (S ++ R)
grow {S} R = record { keeps = λ a t e. nth_grow S R a t e }

fresh_cells : {S : StoreT} (n : ℕ) (t : Ty) (p : ℕ) → CellsT S (replicate n t) (replicate n (fresh p))
fresh_cells zero t p = cnil
fresh_cells (suc n) t p = ccons unset (fresh_cells n t p)

more_cells : {S R : StoreT} {cs : List Cell} (n : ℕ) (t : Ty) (p : ℕ) → CellsT S R cs → CellsT S (R ++ replicate n t) (cs ++ replicate n (fresh p))
more_cells n t p cnil = fresh_cells n t p
more_cells n t p (ccons h r) = ccons h (more_cells n t p r)

grow_ok : {S : StoreT} {cs : List Cell} (n : ℕ) (t : Ty) (p : ℕ) → StoreOk S cs → StoreOk (S ++ replicate n t) (cs ++ replicate n (fresh p))
grow_ok n t p k = more_cells n t p (cells_ext (grow (replicate n t)) k)

nth_replicate : (n : ℕ) (t : Ty) (i : ℕ) → i < n → nth (replicate n t) i ≡ some t
nth_replicate zero t i h = absurd (not-suc-le-zero h)
nth_replicate (suc n) t zero h = refl
nth_replicate (suc n) t (suc i) h = nth_replicate n t i (le_of_suc-le-suc h)

new_cells_lem : {S R : StoreT} {cs : List Cell} (n : ℕ) (t : Ty) (a i : ℕ) → CellsT S R cs → a ≡ length cs + i → i < n → nth (R ++ replicate n t) a ≡ some t
new_cells_lem n t a i cnil e h = nth_replicate n t a (omega (arith, e, h))
new_cells_lem n t zero i (ccons c r) e h = absurd (omega (arith, e))
new_cells_lem n t (suc a) i (ccons c r) e h = new_cells_lem n t a i r (omega (arith, e)) h

-- ---- forms

bit_in : (n : ℤ) → IsBit n → Has (λ t. Unit {0}) (as_bit n)
bit_in (pos zero) h = has tt
bit_in (pos (suc zero)) h = has tt
bit_in (pos (suc (suc n))) h = absurd h
bit_in (negsuc n) h = absurd h

truth_ok : {S : StoreT} {v : Val} → VT S v (plain (value BOOL)) → Has (λ t. Unit {0}) (as_truth v)
truth_ok (v_z {n = n} h) = bit_in n h

number_ok : {S : StoreT} {v : Val} {b : Base} → VT S v (plain (value (base b))) → Has (λ n. NumOf b n) (as_number v)
number_ok (v_z h) = has h

address_ok : {S : StoreT} {v : Val} {t : Ty} → VT S v (plain (ref t)) → Has (λ a. VT S (in_a a) (plain (ref t))) (as_address v)
address_ok (v_a h) = has (v_a h)

set_ok : {S : StoreT} {v : Val} {t : Ty} {a : ℕ} {cs : List Cell} → StoreOk S cs → VT S (in_a a) (plain (ref t)) → VT S v (plain (value t)) →
    Has (λ cs'. StoreOk S cs') (store cs a v)
set_ok {a = a} k (v_a e) h = store_ok a h k e

give_cell_ok : {S : StoreT} {t : Ty} {c : Option Val} (m p : ℕ) (s : State) → StoreOk S s.cells → CellT S t c →
    Good (IsV (plain (value t))) S (give_cell c m p s)
unfolding give_cell
give_cell_ok m p s k unset = ruled tt
give_cell_ok m p s k (holds h) = good _ ext_refl k h

read_value : {S : StoreT} {v : Val} {t : Ty} (p : ℕ) (s : State) → StoreOk S s.cells → VT S v (plain (value t)) → Good (IsV (plain (value t))) S (read v p s)
read_value p s k (v_z h) = good _ ext_refl k (v_z h)
read_value p s k (v_f Γ ds h q r d) = good _ ext_refl k (v_f Γ ds h q r d)
read_value p s k (v_fr Γ ds h q r d) = good _ ext_refl k (v_fr Γ ds h q r d)
read_value p s k (v_fp Γ ds h q r d) = good _ ext_refl k (v_fp Γ ds h q r d)
read_value p s k (v_fpr Γ ds h q r d) = good _ ext_refl k (v_fpr Γ ds h q r d)
read_value p s k (v_b h) = good _ ext_refl k (v_b h)

read_ref : {S : StoreT} {v : Val} {t : Ty} (p : ℕ) (s : State) → StoreOk S s.cells → VT S v (plain (ref t)) → Good (IsV (plain (value t))) S (read v p s)
read_ref p s k (v_a {a = a} h) = good_need _ _ (cell_ok a k h) λ c m. give_cell_ok c.made p s k m

-- blocks
vec_ok : {S : StoreT} {v : Val} {t : Ty} → VT S v (plain (value (vec_of t))) → Has (BlockT S t) (as_block v)
vec_ok (v_b h) = has h

cell_in_ok : (S : StoreT) (t : Ty) (k : ℕ × ℕ) (i : ℤ) (a : ℕ) → BlockT S t k → cell_in k i ≡ some a → nth S a ≡ some t
cell_in_ok S t k (pos i) a h e = go (ltb i k.1) (λ b. ltb→lt _ _ b) e
  where
    go : (b : Bool) → (T b → i < k.1) → cond b (some (k.0 + i)) none ≡ some a → nth S a ≡ some t
    go true l e = subst (λ a. nth S a ≡ some t) (some-injective _ _ e) (h i (l tt))
    go false l e = absurd (none-ne-some _ e)
cell_in_ok S t k (negsuc i) a h e = absurd (none-ne-some _ e)

element_ok : {Q : StoreT → Val → Type 0} {S : StoreT} {t : Ty} {v w : Val} (p : ℕ) (s : State) {k : ℕ → Outcome Val} → VT S v (plain (value (vec_of t))) →
    VT S w (plain (value INT)) → ((a : ℕ) → nth S a ≡ some t → Good Q S (k a)) → Good Q S (element_rule p v w s k)
element_ok {S = S} {t = t} p s h m f =
    good_need _ _ (vec_ok h) λ b n. good_need _ _ (number_ok m) λ i _. good_otherwise (cell_in b i) INDEX p s λ a e. f a (cell_in_ok S t b i a n e)

alloc_ok : {S : StoreT} (L : Limits) (p : ℕ) (n : ℤ) (t : Ty) (s : State) → StoreOk S s.cells → Good (IsV (plain (value (vec_of t)))) S (alloc_rule L p n s)
alloc_ok L p n t s k = good_otherwise (as_size n) SIZE p s λ m _.
    good_within _ _ _ _ (good _ (grow (replicate m t)) (grow_ok m t p k) (v_b (λ i l. new_cells_lem m t _ i k refl l)))

-- a bound name's rule is to read its value
name_ok : {S : StoreT} {τ : Entity} {t : Ty} (m : Meaning) (o : Option Entity) (v : Option Val) (p : ℕ) (s : State) → unless_nine m o ≡ some τ →
    Has (λ v. VT S v τ) (unless_nine m v) → ((v : Val) → VT S v τ → Good (IsV (plain (value t))) S (read v p s)) → Good (IsV (plain (value t))) S (name_rule m (unless_nine m v) p s)
name_ok (literal b) o v p s e h f = absurd (none-ne-some _ e)
name_ok (operator f) o v p s e h g = absurd (none-ne-some _ e)
name_ok free o v p s e h f = good_need _ _ h f

-- ---- calls

bind_ok : {S : StoreT} {vs : List Val} {ρ : Env} {Γ : Ctx} (ds : List (Name × Entity)) → VTs S vs (entities_in ds) → EnvT S ρ Γ →
    Has (λ ρ'. EnvT S ρ' (extend ds Γ)) (bind_all (names_in ds) vs ρ)
bind_ok [] vnil r = has r
bind_ok (d ∷ ds) (vcons p q) r = bind_ok ds q (tbound p r)

bind_as : {S : StoreT} {vs : List Val} {ρ : Env} {Γ : Ctx} (ds : List (Name × Entity)) {xs : List Name} {τs : List Entity} →
    names_in ds ≡ xs → entities_in ds ≡ τs → VTs S vs τs → EnvT S ρ Γ → Has (λ ρ'. EnvT S ρ' (extend ds Γ)) (bind_all xs vs ρ)
bind_as {S = S} {vs = vs} {ρ = ρ} {Γ = Γ} ds p q h r =
    subst (λ xs. Has (λ ρ'. EnvT S ρ' (extend ds Γ)) (bind_all xs vs ρ)) p (bind_ok ds (subst (λ τs. VTs S vs τs) (sym q) h) r)

abbrev pub HasBody : Ctx → Body → Ty → Type 0
HasBody Γ (an_expr e) t = HasE Γ e t
HasBody Γ (a_block b) t = HasB Γ b (always t)

abbrev pub EntersF : StoreT → Ty → Entered Body → Type 0
EntersF S t c = (Γ : Ctx) × EnvT S c.env Γ × HasBody Γ c.body t

function_ok : {S : StoreT} {v : Val} {vs : List Val} {ts : Tys} {t : Ty} → VT S v (plain (value (fn ts t))) → VTs S vs (values_of ts) →
    Has (EntersF S t) (open_function v vs)
function_ok {S = S} {vs = vs} {t = t} (v_f {xs = xs} {e = e} {ρ = ρ} Γ ds r p q d) h = go (bind_as ds p q h r)
  where
    go : {o : Option Env} → Has (λ ρ'. EnvT S ρ' (extend ds Γ)) o → Has (EntersF S t) (entering (an_expr e) (length xs) o)
    go (has k) = has (extend ds Γ, k, d)
function_ok {S = S} {vs = vs} {ts = ts} {t = t} (v_fr {f = f} {xs = xs} {e = e} {ρ = ρ} Γ ds r p q d) h = go (bind_as ds p q h r)
  where
    go : {o : Option Env} → Has (λ ρ'. EnvT S ρ' (extend ds Γ)) o → Has (EntersF S t) (entering (an_expr e) (suc (length xs)) (also f (in_fr e f xs ρ) o))
    go (has k) = has ((f, plain (value (fn ts t))) ∷ extend ds Γ, tbound (v_fr Γ ds r p q d) k, d)
function_ok {S = S} {vs = vs} {t = t} (v_fp {xs = xs} {c = c} {ρ = ρ} Γ ds r p q d) h = go (bind_as ds p q h r)
  where
    go : {o : Option Env} → Has (λ ρ'. EnvT S ρ' (extend ds Γ)) o → Has (EntersF S t) (entering (a_block c) (length xs) o)
    go (has k) = has (extend ds Γ, k, d)
function_ok {S = S} {vs = vs} {ts = ts} {t = t} (v_fpr {f = f} {xs = xs} {c = c} {ρ = ρ} Γ ds r p q d) h = go (bind_as ds p q h r)
  where
    go : {o : Option Env} → Has (λ ρ'. EnvT S ρ' (extend ds Γ)) o → Has (EntersF S t) (entering (a_block c) (suc (length xs)) (also f (in_pr c f xs ρ) o))
    go (has k) = has ((f, plain (value (fn ts t))) ∷ extend ds Γ, tbound (v_fpr Γ ds r p q d) k, d)

abbrev pub EntersP : StoreT → Entered Block → Type 0
EntersP S c = (Γ : Ctx) × EnvT S c.env Γ × HasB Γ c.body never

procedure_ok : {S : StoreT} {v : Val} {vs : List Val} {qs : List Par} → VT S v (procedure qs) → VTs S vs (plains qs) → Has (EntersP S) (open_procedure v vs)
procedure_ok {S = S} (v_p {xs = xs} {c = c} Γ ds r p q d) h = go (bind_as ds p q h r)
  where
    go : {o : Option Env} → Has (λ ρ'. EnvT S ρ' (extend ds Γ)) o → Has (EntersP S) (entering c (length xs) o)
    go (has k) = has (extend ds Γ, k, d)
procedure_ok {S = S} {qs = qs} (v_pr {f = f} {xs = xs} {c = c} {ρ = ρ} Γ ds r p q d) h = go (bind_as ds p q h r)
  where
    go : {o : Option Env} → Has (λ ρ'. EnvT S ρ' (extend ds Γ)) o → Has (EntersP S) (entering c (suc (length xs)) (also f (in_pr c f xs ρ) o))
    go (has k) = has ((f, procedure qs) ∷ extend ds Γ, tbound (v_pr Γ ds r p q d) k, d)

names_are : (ps : List ArgP) → names_in (declared ps) ≡ param_names ps
names_are [] = refl
names_are (a ∷ ps) = ap {B = List Name} (λ l. param_name a ∷ l) (names_are ps)

entities_are : (ps : List ArgP) → entities_in (declared ps) ≡ plains (pars ps)
entities_are [] = refl
entities_are (a ∷ ps) = ap {B = List Entity} (λ l. plain (par a) ∷ l) (entities_are ps)

values_are : (ps : List Arg) → entities_in (declared (values ps)) ≡ values_of (arg_types ps)
values_are [] = refl
values_are (arg x t ∷ ps) = ap {B = List Entity} (λ l. plain (value (type_of t)) ∷ l) (values_are ps)

-- ---- operators

pub data ComputedT (b : Base) : Computed → Type 0 where
  is_number : {n : ℤ} → NumOf b n → ComputedT b (amount n)
  is_error : {x : ErrorStop} → ComputedT b (fails x)

give_ok : {S : StoreT} {b : Base} {c : Computed} (p : ℕ) (s : State) → StoreOk S s.cells → ComputedT b c → Good (IsV (plain (value (base b)))) S (give c p s)
unfolding give
give_ok p s k (is_number h) = good _ ext_refl k (v_z h)
give_ok p s k is_error = ruled tt

bit_is : (b : Bool) → IsBit (bit b)
bit_is true = tt
bit_is false = tt

either_ok : {b : Base} (t : Bool) {c c' : Computed} → ComputedT b c → ComputedT b c' → ComputedT b (cond t c c')
either_ok true h h' = h
either_ok false h h' = h'

ranged_ok : (z : ℤ) → ComputedT integer (ranged z)
ranged_ok z = either_ok (in_range z) (is_number tt) is_error

negated_ok : (n : ℤ) → IsBit n → Has (ComputedT boolean) (negated (as_bit n))
negated_ok (pos zero) h = has (is_number tt)
negated_ok (pos (suc zero)) h = has (is_number tt)
negated_ok (pos (suc (suc n))) h = absurd h
negated_ok (negsuc n) h = absurd h

operate_ok : {S : StoreT} {vs : List Val} (o : Op) → VTs S vs (values_of (takes o)) → Has (ComputedT (result o)) (operate o vs)
operate_ok not (vcons (v_z {n = a} h) vnil) = negated_ok a h
operate_ok eq (vcons (v_z {n = a} h) (vcons (v_z {n = b} k) vnil)) = has (is_number (bit_is (same_number a b)))
operate_ok lt (vcons (v_z {n = a} h) (vcons (v_z {n = b} k) vnil)) = has (is_number (bit_is (lt_z a b)))
operate_ok add (vcons (v_z {n = a} h) (vcons (v_z {n = b} k) vnil)) = has (ranged_ok (a +ℤ b))
operate_ok sub (vcons (v_z {n = a} h) (vcons (v_z {n = b} k) vnil)) = has (ranged_ok (a -ℤ b))
operate_ok mul (vcons (v_z {n = a} h) (vcons (v_z {n = b} k) vnil)) = has (ranged_ok (a *ℤ b))
operate_ok div (vcons (v_z {n = a} h) (vcons (v_z {n = b} k) vnil)) = has (either_ok (same_number b (pos 0)) is_error (ranged_ok (quotient a b)))

-- ---- the rules, given that the level below is good

pub record GoodLevel (r : Level) : Type 0 where
  pub expr_good : {Γ : Ctx} {e : Expr} {t : Ty} {S : StoreT} {ρ : Env} (s : State) → HasE Γ e t → EnvT S ρ Γ → StoreOk S s.cells →
      Good (IsV (plain (value t))) S (r.expr e ρ s)
  pub arg_good : {Γ : Ctx} {a : ExprP} {q : Par} {S : StoreT} {ρ : Env} (s : State) → HasA Γ a q → EnvT S ρ Γ → StoreOk S s.cells →
      Good (IsV (plain q)) S (r.arg a ρ s)
  pub def_good : {Γ Δ : Ctx} {d : Def} {S : StoreT} {ρ : Env} (s : State) → HasD Γ d Δ → EnvT S ρ Γ → StoreOk S s.cells → Good (IsEnv Δ) S (r.def d ρ s)
  pub stat_good : {Γ : Ctx} {c : Stat} {f : Flow} {S : StoreT} {ρ : Env} (s : State) → HasS Γ c f → EnvT S ρ Γ → StoreOk S s.cells →
      Good (IsGiven f) S (r.stat c ρ s)

module _ (L : Limits) {r : Level} (h : GoodLevel r) where
  exprs_ok : {Γ : Ctx} {es : Exprs} {ts : Tys} {S : StoreT} {ρ : Env} (s : State) → HasEs Γ es ts → EnvT S ρ Γ → StoreOk S s.cells →
      Good (IsVs (values_of ts)) S (exprs r es ρ s)
  exprs_ok s (ONE d) m k = good_bind (h.expr_good s d m k) λ S₁ v s₁ le₁ k₁ p. good S₁ ext_refl k₁ (vcons p vnil)
  exprs_ok s (MORE d ds) m k =
      good_bind (h.expr_good s d m k) λ S₁ v s₁ le₁ k₁ p. good_bind (exprs_ok s₁ ds (env_ext le₁ m) k₁) λ S₂ vs s₂ le₂ k₂ q. good S₂ ext_refl k₂ (vcons (vt_ext le₂ p) q)

  args_ok : {Γ : Ctx} {as' : List ExprP} {qs : List Par} {S : StoreT} {ρ : Env} (s : State) → HasAs Γ as' qs → EnvT S ρ Γ → StoreOk S s.cells →
      Good (IsVs (plains qs)) S (args r as' ρ s)
  args_ok s NO_ARGS m k = good _ ext_refl k vnil
  args_ok s (ARGS d ds) m k =
      good_bind (h.arg_good s d m k) λ S₁ v s₁ le₁ k₁ p. good_bind (args_ok s₁ ds (env_ext le₁ m) k₁) λ S₂ vs s₂ le₂ k₂ q. good S₂ ext_refl k₂ (vcons (vt_ext le₂ p) q)

  pub cmds_ok : {Γ : Ctx} {cs : Cmds} {f : Flow} {S : StoreT} {ρ : Env} (s : State) → HasC Γ cs f → EnvT S ρ Γ → StoreOk S s.cells → Good (IsGiven f) S (cmds r cs ρ s)
  cmds_ok s (DECS d ds) m k = good_bind (h.def_good s d m k) λ S₁ ρ₁ s₁ le₁ k₁ p. cmds_ok s₁ ds p k₁
  cmds_ok s (STATS d ds b) m k = good_then b (h.stat_good s d m k) λ S₁ s₁ le₁ k₁. cmds_ok s₁ ds (env_ext le₁ m) k₁
  cmds_ok s (END d) m k = h.stat_good s d m k

  pub block_ok : {Γ : Ctx} {b : Block} {f : Flow} {S : StoreT} {ρ : Env} (s : State) → HasB Γ b f → EnvT S ρ Γ → StoreOk S s.cells → Good (IsGiven f) S (in_block r b ρ s)
  block_ok s (BLOC d) m k = cmds_ok s d m k

  body_ok : (b : Body) {Γ : Ctx} {t : Ty} {S : StoreT} {ρ : Env} (p : ℕ) (s : State) → HasBody Γ b t → EnvT S ρ Γ → StoreOk S s.cells →
      Good (IsV (plain (value t))) S (in_body r b ρ p s)
  body_ok (an_expr e) p s d m k = h.expr_good s d m k
  body_ok (a_block b) p s d m k = good_bind (block_ok s d m k) λ S₁ o s₁ le₁ k₁ q. good_need _ _ (value_given q) λ v n. good S₁ ext_refl k₁ n

  prim_ok : (f : Expr) {Γ : Ctx} {es : Exprs} {o : Op} {S : StoreT} {ρ : Env} (p : ℕ) (s : State) (g : Option Op) → g ≡ some o → HasEs Γ es (takes o) →
      EnvT S ρ Γ → StoreOk S s.cells →
      Good (IsV (plain (value (base (result o))))) S (apply_rule L r g p f es ρ s)
  prim_ok f p s none e ds m k = absurd (none-ne-some _ e)
  prim_ok f {es = es} {o = o} {S = S} {ρ = ρ} p s (some o') e ds m k =
      subst (λ g. Good (IsV (plain (value (base (result o))))) S (apply_rule L r g p f es ρ s)) (sym e)
      (good_bind (exprs_ok s ds m k) λ S₁ vs s₁ le₁ k₁ q. good_need _ _ (operate_ok o q) λ c n. give_ok _ s₁ k₁ n)

  app_ok : {Γ : Ctx} {f : Expr} {es : Exprs} {ts : Tys} {t : Ty} {S : StoreT} {ρ : Env} (p : ℕ) (s : State) (g : Option Op) → g ≡ none → HasE Γ f (fn ts t) →
      HasEs Γ es ts → EnvT S ρ Γ →
      StoreOk S s.cells → Good (IsV (plain (value t))) S (apply_rule L r g p f es ρ s)
  app_ok p s (some o) e d ds m k = absurd (none-ne-some _ (sym e))
  app_ok p s none e d ds m k =
      good_bind (h.expr_good s d m k) λ S₁ v s₁ le₁ k₁ q. good_bind (exprs_ok s₁ ds (env_ext le₁ m) k₁) λ S₂ vs s₂ le₂ k₂ q₂.
      good_need _ _ (function_ok (vt_ext le₂ q) q₂) λ c n. good_within _ _ _ _ (body_ok c.body p _ n.2 n.1 k₂)

  literal_ok : {S : StoreT} {b : Bool} (m : Meaning) (o : Option Val) (p : ℕ) (s : State) → m ≡ literal b → StoreOk S s.cells →
      Good (IsV (plain (value BOOL))) S (name_rule m o p s)
  literal_ok {S = S} {b = b} m o p s e k = subst (λ m. Good (IsV (plain (value BOOL))) S (name_rule m o p s)) (sym e) (good S ext_refl k (v_z (bit_is b)))

  expr_ok : {Γ : Ctx} {e : Expr} {t : Ty} {S : StoreT} {ρ : Env} (s : State) → HasE Γ e t → EnvT S ρ Γ → StoreOk S s.cells →
      Good (IsV (plain (value t))) S (expr_rule L r e ρ s)
  expr_ok s NUM m k = good _ ext_refl k (v_z tt)
  expr_ok s (LITERAL {x = x} e) m k = literal_ok (meaning x) _ _ s e k
  expr_ok {Γ = Γ} {ρ = ρ} s (IDV {x = x} e) m k = name_ok (meaning x) (lookup Γ x) (lookup_env ρ x) _ s e (look_ok x m e) λ v q. read_value _ s k q
  expr_ok {Γ = Γ} {ρ = ρ} s (IDR {x = x} e) m k = name_ok (meaning x) (lookup Γ x) (lookup_env ρ x) _ s e (look_ok x m e) λ v q. read_ref _ s k q
  expr_ok s (IF da db dc) m k =
      good_bind (h.expr_good s da m k) λ S₁ v s₁ le₁ k₁ p. good_need _ _ (truth_ok p) λ t _.
      good_branch _ (h.expr_good s₁ db (env_ext le₁ m) k₁) (h.expr_good s₁ dc (env_ext le₁ m) k₁)
  expr_ok s (AND da db) m k =
      good_bind (h.expr_good s da m k) λ S₁ v s₁ le₁ k₁ p. good_need _ _ (truth_ok p) λ t _. good_branch _ (h.expr_good s₁ db (env_ext le₁ m) k₁) (good S₁ ext_refl k₁ (v_z tt))
  expr_ok s (OR da db) m k =
      good_bind (h.expr_good s da m k) λ S₁ v s₁ le₁ k₁ p. good_need _ _ (truth_ok p) λ t _. good_branch _ (good S₁ ext_refl k₁ (v_z tt)) (h.expr_good s₁ db (env_ext le₁ m) k₁)
  expr_ok s (PRIM {f = f} e ds) m k = prim_ok f _ s (head_operator f) e ds m k
  expr_ok s (APP {f = f} d ds) m k = app_ok _ s (head_operator f) (head_typed f d) d ds m k
  expr_ok s (ABS {ps = ps} _ d) m k = good _ ext_refl k (v_f _ (declared (values ps)) m (names_are (values ps)) (values_are ps) d)
  expr_ok s (ALLOC {t = t} _ d) m k = good_bind (h.expr_good s d m k) λ S₁ v s₁ le₁ k₁ p. good_need _ _ (number_ok p) λ n _. alloc_ok L _ n (type_of t) s₁ k₁
  expr_ok s (NTH da db) m k =
      good_bind (h.expr_good s da m k) λ S₁ v s₁ le₁ k₁ p. good_bind (h.expr_good s₁ db (env_ext le₁ m) k₁) λ S₂ w s₂ le₂ k₂ q.
      element_ok _ s₂ (vt_ext le₂ p) q λ a e. good_need _ _ (cell_ok a k₂ e) λ c n. give_cell_ok c.made _ s₂ k₂ n
  expr_ok s (LEN d) m k = good_bind (h.expr_good s d m k) λ S₁ v s₁ le₁ k₁ p. good_need _ _ (vec_ok p) λ b _. good S₁ ext_refl k₁ (v_z tt)
  expr_ok s (VSET da db dc) m k =
      good_bind (h.expr_good s da m k) λ S₁ v s₁ le₁ k₁ p. good_bind (h.expr_good s₁ db (env_ext le₁ m) k₁) λ S₂ w s₂ le₂ k₂ q.
      good_bind (h.expr_good s₂ dc (env_ext le₂ (env_ext le₁ m)) k₂) λ S₃ u s₃ le₃ k₃ o.
      element_ok _ s₃ (vt_ext le₃ (vt_ext le₂ p)) (vt_ext le₃ q) λ a e. good_need _ _ (store_ok a o k₃ e) λ cs k₄. good S₃ ext_refl k₄ (vt_ext le₃ (vt_ext le₂ p))

  arg_ok : {Γ : Ctx} {a : ExprP} {q : Par} {S : StoreT} {ρ : Env} (s : State) → HasA Γ a q → EnvT S ρ Γ → StoreOk S s.cells →
      Good (IsV (plain q)) S (arg_rule L r a ρ s)
  arg_ok s (VAL d) m k = expr_ok s d m k
  arg_ok s (REF {x = x} e) m k = good_need _ _ (look_ok x m e) λ v p. good_need _ _ (address_ok p) λ a n. good _ ext_refl k n

  var_ok : {Γ : Ctx} {S : StoreT} {ρ : Env} (p : ℕ) (x : Name) (t : Ty) (s : State) → EnvT S ρ Γ → StoreOk S s.cells →
      Good (IsEnv ((x, plain (ref t)) ∷ Γ)) S
      (within (ltb (length s.cells) L.cells) CELLS p s (make L 1 p (with_cells (s.cells ++ fresh p ∷ []) s) λ s₁. ok (bound x (in_a (length s.cells)) ρ) s₁))
  var_ok p x t s m k =
      good_within _ _ _ _ (good_within _ _ _ _ (good _ (grow (t ∷ [])) (grow_ok 1 t p k) (tbound (v_a (new_cells_lem 1 t _ 0 k (omega arith) (omega arith))) (env_ext (grow (t ∷ [])) m))))

  def_ok : {Γ Δ : Ctx} {d : Def} {S : StoreT} {ρ : Env} (s : State) → HasD Γ d Δ → EnvT S ρ Γ → StoreOk S s.cells → Good (IsEnv Δ) S (def_rule L r d ρ s)
  def_ok s (CONST _ _ d) m k = good_bind (h.expr_good s d m k) λ S₁ v s₁ le₁ k₁ p. good_within _ _ _ _ (good S₁ ext_refl k₁ (tbound p (env_ext le₁ m)))
  def_ok s (FUN {ps =
      ps} _ _ _ d) m k = good_within _ _ _ _ (good _ ext_refl k (tbound (v_f _ (declared (values ps)) m (names_are (values ps)) (values_are ps) d) m))
  def_ok s (FUNREC {ps =
      ps} _ _ _ d) m k = good_within _ _ _ _ (good _ ext_refl k (tbound (v_fr _ (declared (values ps)) m (names_are (values ps)) (values_are ps) d) m))
  def_ok s (FUNP {ps = ps} _ _ _ d) m k = good_within _ _ _ _ (good _ ext_refl k (tbound (v_fp _ (declared (values ps)) m (names_are (values ps)) (values_are ps) d) m))
  def_ok s (FUNRECP {ps = ps} _ _ _ d) m k = good_within _ _ _ _ (good _ ext_refl k (tbound (v_fpr _ (declared (values ps)) m (names_are (values ps)) (values_are ps) d) m))
  def_ok s (VAR {p = p} {x = x} {t = t} _ _) m k = var_ok p x (type_of t) s m k
  def_ok s (PROC {ps = ps} _ _ d) m k = good_within _ _ _ _ (good _ ext_refl k (tbound (v_p _ (declared ps) m (names_are ps) (entities_are ps) d) m))
  def_ok s (PROCREC {ps = ps} _ _ d) m k = good_within _ _ _ _ (good _ ext_refl k (tbound (v_pr _ (declared ps) m (names_are ps) (entities_are ps) d) m))

  rounds_ok : (n : ℕ) {Γ : Ctx} {e : Expr} {b : Block} {f : Flow} {S : StoreT} {ρ : Env} (p : ℕ) (s : State) →
      HasE Γ e BOOL → HasB Γ b f → EnvT S ρ Γ → StoreOk S s.cells → Good (IsGiven (looped f)) S (rounds L n (r.expr e ρ) (in_block r b ρ) p s)
  rounds_ok zero p s d ds m k = ruled tt
  rounds_ok (suc n) {f = f} p s d ds m k =
      good_bind (h.expr_good s d m k) λ S₁ v s₁ le₁ k₁ q. good_need _ _ (truth_ok q) λ t _.
      good_branch _
      (good_then (around f) (good_as (λ S o g. round_given g) (block_ok s₁ ds (env_ext le₁ m) k₁)) λ S₂ s₂ le₂ k₂.
      good_within _ _ _ _ (rounds_ok n p (take_unit s₂) d ds (env_ext le₂ (env_ext le₁ m)) k₂))
      (good S₁ ext_refl k₁ (loop_ends f))

  stat_ok : {Γ : Ctx} {c : Stat} {f : Flow} {S : StoreT} {ρ : Env} (s : State) → HasS Γ c f → EnvT S ρ Γ → StoreOk S s.cells → Good (IsGiven f) S (stat_rule L r c ρ s)
  stat_ok s (ECHO d) m k = good_bind (h.expr_good s d m k) λ S₁ v s₁ le₁ k₁ p. good_need _ _ (number_ok p) λ n _. good_within _ _ _ _ (good S₁ ext_refl k₁ nothing)
  stat_ok s (SET {x = x} e d) m k =
      good_need _ _ (look_ok x m e) λ w q. good_need _ _ (address_ok q) λ a n. good_bind (h.expr_good s d m k) λ S₁ v s₁ le₁ k₁ p.
      good_need _ _ (set_ok k₁ (vt_ext le₁ n) p) λ cs k₂. good S₁ ext_refl k₂ nothing
  stat_ok s (IFS d da db i) m k =
      good_bind (h.expr_good s d m k) λ S₁ v s₁ le₁ k₁ p. good_need _ _ (truth_ok p) λ t _.
      good_branch _ (good_as (λ S o g. left_given i g) (block_ok s₁ da (env_ext le₁ m) k₁)) (good_as (λ S o g. right_given i g) (block_ok s₁ db (env_ext le₁ m) k₁))
  stat_ok s (WHILE {p = p} d ds) m k = rounds_ok (suc L.fuel) p s d ds m k
  stat_ok s (CALL {x = x} e ds) m k =
      good_need _ _ (look_ok x m e) λ w q. good_bind (args_ok s ds m k) λ S₁ vs s₁ le₁ k₁ p. good_need _ _ (procedure_ok (vt_ext le₁ q) p) λ c n.
      good_within _ _ _ _ (block_ok _ n.2 n.1 k₁)
  stat_ok s (RET d) m k = good_bind (h.expr_good s d m k) λ S₁ v s₁ le₁ k₁ p. good S₁ ext_refl k₁ (by_right p)

  step_ok : GoodLevel (step L r)
  step_ok = record {
    expr_good = λ s d m k. good_within _ _ _ _ (expr_ok (take_unit s) d m k);
    arg_good = λ s d m k. good_within _ _ _ _ (arg_ok (take_unit s) d m k);
    def_good = λ s d m k. good_within _ _ _ _ (def_ok (take_unit s) d m k);
    stat_good = λ s d m k. good_within _ _ _ _ (stat_ok (take_unit s) d m k);
  }

level_ok : (L : Limits) (d : ℕ) → GoodLevel (level L d)
unfolding level
level_ok L zero = record {
  expr_good = λ s d m k. good_within _ _ _ _ (ruled tt);
  arg_good = λ s d m k. good_within _ _ _ _ (ruled tt);
  def_good = λ s d m k. good_within _ _ _ _ (ruled tt);
  stat_good = λ s d m k. good_within _ _ _ _ (ruled tt);
}
level_ok L (suc d) = step_ok L (level_ok L d)

rules_fit : {A : Type 0} {P : StoreT → A → Type 0} {S : StoreT} (o : Outcome A) → Good P S o → NoRule o → ⊥
rules_fit (ok a s) g h = h
rules_fit (halt (stop w) p s) g h = h
rules_fit (halt no_rule p s) (ruled r) h = r

-- from any names and cells that fit the types
pub block_sound : (L : Limits) (d : ℕ) {Γ : Ctx} {b : Block} {f : Flow} {S : StoreT} {ρ : Env} (s : State) → HasB Γ b f → EnvT S ρ Γ → StoreOk S s.cells →
    ¬ NoRule (in_block (level L d) b ρ s)
block_sound L d s t m k = rules_fit _ (block_ok L (level_ok L d) s t m k)

pub sound : (L : Limits) (b : Block) → Typable b → ¬ NoRule (run L b)
sound L b t =
    let g : Good IsUnit [] (run L b) = good_bind (block_ok L (level_ok L L.depth) start t tnone cnil) λ S₁ o s₁ le₁ k₁ q. ended_ok _ s₁ k₁ q in
    rules_fit _ g
