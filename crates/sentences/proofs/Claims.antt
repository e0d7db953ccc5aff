-- Each claim of specs/Sentences.antt, proved.
use mathlib.Core.Path.{◌≡◌, refl, sym, ◌∙◌, ap, subst}
use mathlib.Core.Bool.{Bool, true, false, cond}
use mathlib.Core.List.{List, [], ◌∷◌, ◌++◌}
use mathlib.Core.Option.{Option, none, some, some-injective, none-ne-some}
use Prim.Native.Nat.{ℕ, zero, suc}
use native.Mathlib.Omega.{arith}
use lib.Dec.{T}
use lib.IntN.{ℤ}
use lib.ListN.{replicate}
use Rattle.language.specs.Syntax.{Name, at, Expr, name, val, adr, Stat, echo, set, if_stat, while, call, return}
use Rattle.language.specs.Bytes.{same_bytes}
use Rattle.language.specs.Answers.{LimitStop, FUEL, fine}
use Rattle.language.specs.Names.{Meaning, free, meaning, unless_nine}
use Rattle.language.specs.Types.{Ty, Par, value, ref, plain, Ctx, Flow}
use Rattle.language.specs.Typing.{Free, HasA, REF, HasS, ECHO, SET, Typable}
use Rattle.language.specs.Order.{JudgedNode, expr_node, adr_node, vec_node, param_node, single_node, def_node, stat_node, followed_node, block_node, prog_node, Typed, nodes_prog}
use Rattle.language.specs.Limits.{Limits}
use Rattle.language.specs.Rules.{Val, in_z, in_f, in_fr, in_p, in_pr, in_a, in_b, Env, bound, Cell, State, Returned, Outcome, ok, halt, bind, need, within, take_unit, lookup_env, look, nth, behind, fresh, store, as_number, Level, read, name_rule, level, stat_rule}
use Rattle.language.specs.Promises.{typed}
use Rattle.language.specs.Claims.{AllNodes, no_node, one_more}
use Rattle.language.proofs.Typing.Names.{same_names}
use Rattle.language.proofs.Typing.Judged.{AllTyped, all_nil, all_cons, View, vfine, view_prog, judge_accepts}
use Rattle.language.proofs.Texts.Afresh.{run_carries_nothing_over}
use Rattle.sentences.specs.Sentences.{Ends, came, halted, Anything, NoAddress, NoneIn, AllWithout, NoneHeld, NoValueIsAnAddress, Since, yet, other, Gives, gives, no_unit, no_depth, ConstantNeverChanges, ConstantIsNotSet, IntIfEcho, EchoesInt, EchoesAreInts, EchoPutsOutItsValue, Out, Silent, OnlyEchoPutsOut, lent_again, NothingCarriesOver}
use Rattle.sentences.proofs.Walk.{Kept, If, KeptBy, ends_any, ends_bind, ends_need, ends_within, enter_ends, expr_rule_ends, arg_rule_ends, def_rule_ends, stat_rule_ends}

-- ---- no value is an address

nth_without : (c : List Cell) (a : ℕ) (d : Cell) (v : Val) → nth c a ≡ some d → d.holds ≡ some v → AllWithout c → NoAddress v
nth_without [] a d v e f h = absurd (none-ne-some _ e)
nth_without (c ∷ cs) zero d v e f h = subst NoneIn (ap (λ (z : Cell). z.holds) (some-injective _ _ e) ∙ f) h.0
nth_without (c ∷ cs) (suc a) d v e f h = nth_without cs a d v e f h.1

more_without : (c d : List Cell) → AllWithout c → AllWithout d → AllWithout (c ++ d)
more_without [] d h k = k
more_without (c ∷ cs) d h k = (h.0, more_without cs d h.1 k)

fresh_without : (p n : ℕ) → AllWithout (replicate n (fresh p))
fresh_without p zero = tt
fresh_without p (suc n) = (tt, fresh_without p n)

store_without : (c : List Cell) (a : ℕ) (v : Val) (d : List Cell) → store c a v ≡ some d → NoAddress v → AllWithout c → AllWithout d
store_without [] a v d e n h = absurd (none-ne-some _ e)
store_without (c ∷ cs) zero v d e n h = subst AllWithout (some-injective _ _ e) (n, h.1)
store_without (c ∷ cs) (suc a) v d e n h = go (store cs a v) e λ ds q. store_without cs a v ds q n h.1
  where
    go : (o : Option (List Cell)) → behind c o ≡ some d → ((ds : List Cell) → o ≡ some ds → AllWithout ds) → AllWithout d
    go none e k = absurd (none-ne-some _ e)
    go (some ds) e k = subst AllWithout (some-injective _ _ e) (h.0, k ds refl)

none_kept : Kept NoneHeld NoAddress
none_kept = record {
  on_unit = λ s i. i;
  on_bindings = λ n s i. i;
  on_cell = λ p s i. more_without s.cells (fresh p ∷ []) i (tt, tt);
  on_cells = λ p n s i. more_without s.cells (replicate n (fresh p)) i (fresh_without p n);
  on_store = λ s a v c e n i. store_without s.cells a v c e n i;
  held = λ s a c v e f i. nth_without s.cells a c v e f i;
  no_address = λ v e. e;
}

abbrev NoneBy : Level → Type 0
NoneBy r = KeptBy NoneHeld NoAddress r

as_none : {o : Outcome Returned} → Ends (If NoAddress) NoneHeld o → Ends NoneIn NoneHeld o
as_none (came {a = none} p i) = came tt i
as_none (came {a = some v} p i) = came p i
as_none (halted i) = halted i

stat_none : (L : Limits) {r : Level} → NoneBy r → (c : Stat) (ρ : Env) (s : State) → NoneHeld s → Ends (If NoAddress) NoneHeld (stat_rule L r c ρ s)
stat_none L h (echo p e) ρ s i = ends_bind (h.expr_ends e ρ s i) λ v s₁ u i₁. ends_need _ p s₁ i₁ λ n _. ends_within _ _ p s₁ i₁ (came tt i₁)
stat_none L h (set p x e) ρ s i = stat_rule_ends L none_kept h (set p x e) ρ s refl i
stat_none L h (if_stat p e a b) ρ s i = stat_rule_ends L none_kept h (if_stat p e a b) ρ s refl i
stat_none L h (while p e b) ρ s i = stat_rule_ends L none_kept h (while p e b) ρ s refl i
stat_none L h (call p x as') ρ s i = stat_rule_ends L none_kept h (call p x as') ρ s refl i
stat_none L h (return p e) ρ s i = stat_rule_ends L none_kept h (return p e) ρ s refl i

level_none : (L : Limits) (d : ℕ) → NoneBy (level L d)
unfolding level
level_none L zero = record {
  expr_ends = λ e ρ s i. enter_ends L none_kept _ s i λ i₁. halted i₁;
  arg_ends = λ a ρ s i. enter_ends L none_kept _ s i λ i₁. halted i₁;
  def_ends = λ x ρ s i. enter_ends L none_kept _ s i λ i₁. halted i₁;
  stat_ends = λ c ρ s i. enter_ends L none_kept _ s i λ i₁. halted i₁;
}
level_none L (suc d) = record {
  expr_ends = λ e ρ s i. enter_ends L none_kept _ s i λ i₁. expr_rule_ends L none_kept (level_none L d) e ρ (take_unit s) i₁;
  arg_ends = λ a ρ s i. enter_ends L none_kept _ s i λ i₁. arg_rule_ends L none_kept (level_none L d) a ρ (take_unit s) i₁;
  def_ends = λ x ρ s i. enter_ends L none_kept _ s i λ i₁. def_rule_ends L none_kept (level_none L d) x ρ (take_unit s) i₁;
  stat_ends = λ c ρ s i. enter_ends L none_kept _ s i λ i₁. stat_none L (level_none L d) c ρ (take_unit s) i₁;
}

pub no_value_is_an_address : NoValueIsAnAddress
no_value_is_an_address = (
  tt,
  λ L d ρ s i.
      ((λ e. (level_none L d).expr_ends e ρ s i), (λ a. (level_none L d).arg_ends a ρ s i), (λ x. (level_none L d).def_ends x ρ s i), (λ c. as_none ((level_none L d).stat_ends c ρ s i))),
)

-- ---- a constant never changes

-- a name that is bound to v since other names were bound
still_bound : (x : Name) (v : Val) {ρ π : Env} → lookup_env ρ x ≡ some v → Since x ρ π → lookup_env π x ≡ some v
still_bound x v e yet = e
still_bound x v e (other {v = w} {π = π} n h) = ap (λ (b : Bool). cond b (some w) (lookup_env π x)) n ∙ still_bound x v e h

-- a value that is no address is read as it stands
plainly_read : (v : Val) → NoAddress v → (p : ℕ) (s : State) → read v p s ≡ ok v s
plainly_read (in_z n) e p s = refl
plainly_read (in_f b xs ρ) e p s = refl
plainly_read (in_fr b f xs ρ) e p s = refl
plainly_read (in_p b xs ρ) e p s = refl
plainly_read (in_pr b f xs ρ) e p s = refl
plainly_read (in_a a) e p s = absurd (none-ne-some _ (sym e))
plainly_read (in_b a n) e p s = refl

used : (x : Name) (v : Val) (π : Env) → Free x → NoAddress v → lookup_env π x ≡ some v → (i : ℕ) (s : State) → name_rule (meaning x) (look π x) i s ≡ ok v s
unfolding need
used x v π f n e i s =
    ap (λ (m : Meaning). name_rule m (unless_nine m (lookup_env π x)) i s) f ∙ (ap (λ (o : Option Val). name_rule free o i s) e ∙ plainly_read v n i s)

gives_within : (b : Bool) (v : Val) (i : ℕ) (s : State) {o : Outcome Val} → Gives v i s o → Gives v i s (within b FUEL i s o)
unfolding within
gives_within true v i s g = g
gives_within false v i s g = no_unit

module _ (x : Name) (v : Val) (π : Env) (f : Free x) (n : NoAddress v) (e : lookup_env π x ≡ some v) (L : Limits) where
  gives_expr : (d i : ℕ) (s : State) → Gives v i s ((level L d).expr (name (at i x)) π s)
  unfolding level
  gives_expr zero i s = gives_within _ v i s no_depth
  gives_expr (suc d) i s = gives_within _ v i s (subst (Gives v i s) (sym (used x v π f n e i (take_unit s))) gives)

  gives_arg : (d i : ℕ) (s : State) → Gives v i s ((level L d).arg (val (name (at i x))) π s)
  unfolding level
  gives_arg zero i s = gives_within _ v i s no_depth
  gives_arg (suc d) i s = gives_within _ v i s (subst (Gives v i s) (sym (used x v π f n e i (take_unit s))) gives)

-- what an evaluation that ended came through
module _ {A B : Type 0} where
  came_by : (o : Outcome A) (k : A → State → Outcome B) (b : B) (t : State) → bind o k ≡ ok b t → (a : A) × (s : State) × (o ≡ ok a s) × (k a s ≡ ok b t)
  unfolding bind
  came_by (ok a s) k b t e = (a, s, refl, e)
  came_by (halt w p s) k b t e = let z : ◌≡◌ {A = ℕ} 0 1 = cc in absurd (omega arith)

  came_with : (o : Option A) (p : ℕ) (s : State) (k : A → Outcome B) (b : B) (t : State) → need o p s k ≡ ok b t → (a : A) × (o ≡ some a) × (k a ≡ ok b t)
  unfolding need
  came_with (some a) p s k b t e = (a, refl, e)
  came_with none p s k b t e = let z : ◌≡◌ {A = ℕ} 0 1 = cc in absurd (omega arith)

came_within : {A : Type 0} (b : Bool) (l : LimitStop) (p : ℕ) (s : State) (o : Outcome A) (a : A) (t : State) → within b l p s o ≡ ok a t → o ≡ ok a t
unfolding within
came_within true l p s o a t e = e
came_within false l p s o a t e = let z : ◌≡◌ {A = ℕ} 0 1 = cc in absurd (omega arith)

same_result : {A : Type 0} {a b : A} {s t : State} → ok a s ≡ ok b t → a ≡ b
same_result e = cc

same_state : {A : Type 0} {a b : A} {s t : State} → ok a s ≡ ok b t → s ≡ t
same_state e = cc

is_true : (b : Bool) → T b → b ≡ true
is_true true h = refl
is_true false h = absurd h

itself : (x : Name) → same_bytes x x ≡ true
itself x = is_true (same_bytes x x) ((same_names x x).1 refl)

value_of : {P : Val → Type 0} {I : State → Type 0} {v : Val} {s : State} → Ends P I (ok v s) → P v
value_of (came p i) = p

pub constant_never_changes : ConstantNeverChanges
unfolding level
constant_never_changes L d p q x t e ρ ρ₁ s s₁ f i h =
    let c = came_by ((level L d).expr e ρ (take_unit s)) _ ρ₁ s₁ (came_within _ _ p s _ ρ₁ s₁ h) in
    let b : bound x c.0 ρ ≡ ρ₁ = same_result (came_within _ _ p c.1 _ ρ₁ s₁ c.3) in
    let n : NoAddress c.0 = value_of (subst (Ends NoAddress NoneHeld) c.2 ((level_none L d).expr_ends e ρ (take_unit s) i)) in
    let w : lookup_env ρ₁ x ≡ some c.0 = ap (λ (π : Env). lookup_env π x) (sym b) ∙ ap (λ (k : Bool). cond k (some c.0) (lookup_env ρ x)) (itself x) in
    (c.0, c.1, c.2, λ π m L' d' j u. (gives_expr x c.0 π f n (still_bound x c.0 w m) L' d' j u, gives_arg x c.0 π f n (still_bound x c.0 w m) L' d' j u))

value_not_ref : {t u : Ty} → some (plain (value t)) ≡ some (plain (ref u)) → ⊥
value_not_ref e = let z : ◌≡◌ {A = ℕ} 0 1 = cc in omega arith

pub constant_is_not_set : ConstantIsNotSet
constant_is_not_set Γ x t e = ((λ p q v f h. no-set p q v f h), (λ p q a h. no_adr p q a h))
  where
    no-set : (p q : ℕ) (v : Expr) (f : Flow) → ¬ HasS Γ (set p (at q x) v) f
    no-set p q v f (SET k h) = value_not_ref (sym e ∙ k)

    no_adr : (p q : ℕ) (a : Par) → ¬ HasA Γ (adr p (at q x)) a
    no_adr p q a (REF k) = value_not_ref (sym e ∙ k)

-- ---- an address is never paid out

int_if_echo : (Γ : Ctx) (c : Stat) (f : Flow) → HasS Γ c f → IntIfEcho Γ c
int_if_echo Γ (echo p e) f (ECHO h) = h
int_if_echo Γ (set p x e) f h = tt
int_if_echo Γ (if_stat p e a b) f h = tt
int_if_echo Γ (while p e b) f h = tt
int_if_echo Γ (call p x as') f h = tt
int_if_echo Γ (return p e) f h = tt

echoes_int : (n : JudgedNode) → Typed n → EchoesInt n
echoes_int (expr_node Γ e) h = tt
echoes_int (adr_node Γ p x) h = tt
echoes_int (vec_node p t) h = tt
echoes_int (param_node a) h = tt
echoes_int (single_node xs a) h = tt
echoes_int (def_node Γ d) h = tt
echoes_int (stat_node Γ c) h = int_if_echo Γ c h.0 h.1
echoes_int (followed_node Γ c) h = int_if_echo Γ c h.0 h.1
echoes_int (block_node Γ b) h = tt
echoes_int (prog_node b) h = tt

all_echoes : {l : List JudgedNode} → AllTyped l → AllNodes EchoesInt l
all_echoes all_nil = no_node
all_echoes (all_cons {n = n} h r) = one_more (echoes_int n h) (all_echoes r)

all_typed : {X : Type 0} {l : List JudgedNode} → View (λ (u : Unit {0}). X) l (fine tt) → AllTyped l
all_typed (vfine x al) = al

pub echoes_are_ints : EchoesAreInts
echoes_are_ints s b (typed h t) = all_echoes (all_typed (subst (View (λ (u : Unit {0}). Typable b) (nodes_prog b)) ((judge_accepts b).1 t) (view_prog b)))

a_number : (v : Val) (n : ℤ) → as_number v ≡ some n → v ≡ in_z n
a_number (in_z m) n e = ap in_z (some-injective _ _ e)
a_number (in_f b xs ρ) n e = absurd (none-ne-some _ e)
a_number (in_fr b f xs ρ) n e = absurd (none-ne-some _ e)
a_number (in_p b xs ρ) n e = absurd (none-ne-some _ e)
a_number (in_pr b f xs ρ) n e = absurd (none-ne-some _ e)
a_number (in_a a) n e = absurd (none-ne-some _ e)
a_number (in_b a k) n e = absurd (none-ne-some _ e)

pub echo_puts_out_its_value : EchoPutsOutItsValue
echo_puts_out_its_value L r p e ρ s s₂ o h =
    let c = came_by (r.expr e ρ s) _ o s₂ h in
    let n = came_with (as_number c.0) p c.1 _ o s₂ c.3 in
    (n.0, c.1, c.2 ∙ ap (λ (v : Val). ok v c.1) (a_number c.0 n.0 n.1), sym (same_state (came_within _ _ p c.1 _ o s₂ n.2)))

out_kept : (l : List ℤ) → Kept (Out l) Anything
out_kept l = record {
  on_unit = λ s i. i;
  on_bindings = λ n s i. i;
  on_cell = λ p s i. i;
  on_cells = λ p n s i. i;
  on_store = λ s a v c e n i. i;
  held = λ s a c v e f i. tt;
  no_address = λ v e. tt;
}

still_out : {A : Type 0} {l : List ℤ} (s : State) {o : Outcome A} → Out l s → Ends Anything (Out s.numbers) o → Ends Anything (Out l) o
still_out s {o} i h = subst (λ (m : List ℤ). Ends Anything (Out m) o) i h

any_given : {l : List ℤ} {o : Outcome Returned} → Ends Anything (Out l) o → Ends (If Anything) (Out l) o
any_given (came {a = none} p i) = came tt i
any_given (came {a = some v} p i) = came tt i
any_given (halted i) = halted i

silent_by : (l : List ℤ) {r : Level} → Silent r → KeptBy (Out l) Anything r
silent_by l h = record {
  expr_ends = λ e ρ s i. still_out s i (h.silent_expr e ρ s);
  arg_ends = λ a ρ s i. still_out s i (h.silent_arg a ρ s);
  def_ends = λ d ρ s i. still_out s i (h.silent_def d ρ s);
  stat_ends = λ c ρ s i. any_given (still_out s i (h.silent_stat c ρ s));
}

pub only_echo_puts_out : OnlyEchoPutsOut
only_echo_puts_out L r h ρ s =
    let k = silent_by s.numbers h in let w = out_kept s.numbers in (
      (λ e. expr_rule_ends L w k e ρ s refl),
      (λ a. arg_rule_ends L w k a ρ s refl),
      (λ d. def_rule_ends L w k d ρ s refl),
      (λ c n. ends_any (stat_rule_ends L w k c ρ s n refl)),
    )

-- ---- nothing carries over

pub nothing_carries_over : NothingCarriesOver
nothing_carries_over L₀ text₀ tree₀ works₀ stores₀ output₀ r₀ h₀ L text tree works stores output r r' large large' h h' =
    let m = run_carries_nothing_over L text r₀.tree tree (lent_again works₀ r₀.works) works (lent_again stores₀ r₀.stores) stores r₀.output output r r' large large' h h' in
    (m.0, m.1)
