-- A constant never changes; an address is never paid out; nothing carries over from one run to the next.
-- Each as claims over the rules, with a sentence; proofs/Claims.antt proves each.
use Rattle.std.specs.Prelude.{take, ◌≡◌, ◌∷◌}
use Rattle.language.specs.Library.{ℕ, suc, ℤ, Bool, true, false, List, [], Option, none, some}
use Rattle.language.specs.Syntax.{Name, at, TypeTree, Expr, name, ExprP, val, adr, Def, const, Stat, echo, set, if_stat, while, call, return, Block}
use Rattle.language.specs.Bytes.{same_bytes}
use Rattle.language.specs.Answers.{FUEL, DEPTH, limit, fine}
use Rattle.language.specs.Types.{Ty, INT, Par, value, plain, Ctx, find, Flow}
use Rattle.language.specs.Typing.{Free, HasE, HasA, HasS}
use Rattle.language.specs.Order.{JudgedNode, expr_node, adr_node, vec_node, param_node, single_node, def_node, stat_node, followed_node, block_node, prog_node, nodes_prog}
use Rattle.language.specs.Limits.{Limits}
use Rattle.language.specs.Rules.{Val, in_z, Env, bound, Cell, State, Returned, Why, stop, Outcome, ok, halt, take_unit, put_out, as_address, Level, expr_rule, arg_rule, def_rule, stat_rule, level, start}
use Rattle.language.specs.Promises.{Verdict, Lent, all_large, Ran, Run}
use Rattle.language.specs.Claims.{AllNodes}

-- what an evaluation came to is so, P, and so is the state in which it ended, I, whatever ended it
pub data Ends {A : Type 0} (P : A → Type 0) (I : State → Type 0) : Outcome A → Type 0 where
  came : {a : A} {s : State} → P a → I s → Ends P I (ok a s)
  halted : {w : Why} {p : ℕ} {s : State} → I s → Ends P I (halt w p s)

abbrev pub Anything : {A : Type 0} → A → Type 0
Anything a = Unit {0}

-- ---- no value is an address

abbrev pub NoAddress : Val → Type 0
NoAddress v = as_address v ≡ none

abbrev pub NoneIn : Option Val → Type 0  -- nothing, or a value that is no address
NoneIn none = Unit {0}
NoneIn (some v) = NoAddress v

abbrev pub AllWithout : List Cell → Type 0
AllWithout [] = Unit {0}
AllWithout (c ∷ cs) = NoneIn c.holds × AllWithout cs

abbrev pub NoneHeld : State → Type 0  -- no cell holds an address
NoneHeld s = AllWithout s.cells

-- No expression comes to an address, nothing that is returned is one, and no cell ever holds one: where a run starts none does, and every evaluation keeps it so.
abbrev pub NoValueIsAnAddress : Type 0
NoValueIsAnAddress = NoneHeld start × ((L : Limits) (d : ℕ) (ρ : Env) (s : State) → NoneHeld s →
    ((e : Expr) → Ends NoAddress NoneHeld ((level L d).expr e ρ s)) ×
    ((a : ExprP) → Ends Anything NoneHeld ((level L d).arg a ρ s)) ×
    ((x : Def) → Ends Anything NoneHeld ((level L d).def x ρ s)) ×
    ((c : Stat) → Ends NoneIn NoneHeld ((level L d).stat c ρ s)))

-- ---- a constant never changes

-- ρ, or ρ with other names than x bound since
pub data Since (x : Name) (ρ : Env) : Env → Type 0 where
  yet : Since x ρ ρ
  other : {y : Name} {v : Val} {π : Env} → same_bytes y x ≡ false → Since x ρ π → Since x ρ (bound y v π)

-- a name that is used at p, from the state s: its value is v, and a unit was taken; unless no unit or no depth was left
pub data Gives (v : Val) (p : ℕ) (s : State) : Outcome Val → Type 0 where
  gives : Gives v p s (ok v (take_unit s))
  no_unit : Gives v p s (halt (stop (limit FUEL)) p s)
  no_depth : Gives v p s (halt (stop (limit DEPTH)) p (take_unit s))

-- A constant never changes: once a CONST has bound x to what its expression came to, each use of x, as an expression or as an argument, under whatever limits,
-- at whatever depth, in whatever state, and under whatever other names are bound by then, gives that value.
abbrev pub ConstantNeverChanges : Type 0
ConstantNeverChanges = (L : Limits) (d p q : ℕ) (x : Name) (t : TypeTree) (e : Expr) (ρ ρ₁ : Env) (s s₁ : State) → Free x → NoneHeld s →
    (level L (suc d)).def (const p (at q x) t e) ρ s ≡ ok ρ₁ s₁ →
    (v : Val) × (s₀ : State) × ((level L d).expr e ρ (take_unit s) ≡ ok v s₀) ×
    ((π : Env) → Since x ρ₁ π → (L' : Limits) (d' i : ℕ) (u : State) →
    Gives v i u ((level L' d').expr (name (at i x)) π u) × Gives v i u ((level L' d').arg (val (name (at i x))) π u))

-- Nor may it be set: where a name stands for a value, as a constant's does, no SET of it is typed, and it cannot be given as a var parameter.
abbrev pub ConstantIsNotSet : Type 0
ConstantIsNotSet = (Γ : Ctx) (x : Name) (t : Ty) → find Γ x ≡ some (plain (value t)) →
    ((p q : ℕ) (e : Expr) (f : Flow) → ¬ HasS Γ (set p (at q x) e) f) × ((p q : ℕ) (a : Par) → ¬ HasA Γ (adr p (at q x)) a)

-- ---- an address is never paid out

-- the expression of an ECHO is an int
abbrev pub IntIfEcho : Ctx → Stat → Type 0
IntIfEcho Γ (echo p e) = HasE Γ e INT
IntIfEcho Γ (set p x e) = Unit {0}
IntIfEcho Γ (if_stat p e a b) = Unit {0}
IntIfEcho Γ (while p e b) = Unit {0}
IntIfEcho Γ (call p x as') = Unit {0}
IntIfEcho Γ (return p e) = Unit {0}

abbrev pub EchoesInt : JudgedNode → Type 0
EchoesInt (expr_node Γ e) = Unit {0}
EchoesInt (adr_node Γ p x) = Unit {0}
EchoesInt (vec_node p t) = Unit {0}
EchoesInt (param_node a) = Unit {0}
EchoesInt (single_node xs a) = Unit {0}
EchoesInt (def_node Γ d) = Unit {0}
EchoesInt (stat_node Γ c) = IntIfEcho Γ c
EchoesInt (followed_node Γ c) = IntIfEcho Γ c
EchoesInt (block_node Γ b) = Unit {0}
EchoesInt (prog_node b) = Unit {0}

-- In an accepted text what each ECHO puts out is an expression of type int.
abbrev pub EchoesAreInts : Type 0
EchoesAreInts = (s : List ℕ) (b : Block) → Verdict s (fine b) → AllNodes EchoesInt (nodes_prog b)

-- An ECHO that ends has put out one number, and that is the value of its expression: a number, and no address.
abbrev pub EchoPutsOutItsValue : Type 0
EchoPutsOutItsValue = (L : Limits) (r : Level) (p : ℕ) (e : Expr) (ρ : Env) (s s₂ : State) (o : Returned) → stat_rule L r (echo p e) ρ s ≡ ok o s₂ →
    (n : ℤ) × (s₁ : State) × (r.expr e ρ s ≡ ok (in_z n) s₁) × (s₂ ≡ put_out n s₁)

abbrev pub Out : List ℤ → State → Type 0  -- these numbers were put out
Out l s = s.numbers ≡ l

-- the evaluators of the level below put out nothing
pub record Silent (r : Level) : Type 0 where
  pub silent_expr : (e : Expr) (ρ : Env) (s : State) → Ends Anything (Out s.numbers) (r.expr e ρ s)
  pub silent_arg : (a : ExprP) (ρ : Env) (s : State) → Ends Anything (Out s.numbers) (r.arg a ρ s)
  pub silent_def : (d : Def) (ρ : Env) (s : State) → Ends Anything (Out s.numbers) (r.def d ρ s)
  pub silent_stat : (c : Stat) (ρ : Env) (s : State) → Ends Anything (Out s.numbers) (r.stat c ρ s)

abbrev pub IsEcho : Stat → Bool
IsEcho = elim [ echo p e ↦ true | set p x e ↦ false | if_stat p e a b ↦ false | while p e b ↦ false | call p x as' ↦ false | return p e ↦ false ]

-- Nothing but an ECHO puts out: where the parts of an expression, an argument, a definition or any other statement put out nothing, it puts out nothing.
abbrev pub OnlyEchoPutsOut : Type 0
OnlyEchoPutsOut = (L : Limits) (r : Level) → Silent r → (ρ : Env) (s : State) →
    ((e : Expr) → Ends Anything (Out s.numbers) (expr_rule L r e ρ s)) ×
    ((a : ExprP) → Ends Anything (Out s.numbers) (arg_rule L r a ρ s)) ×
    ((d : Def) → Ends Anything (Out s.numbers) (def_rule L r d ρ s)) ×
    ((c : Stat) → IsEcho c ≡ false → Ends Anything (Out s.numbers) (stat_rule L r c ρ s))

-- ---- nothing carries over

abbrev pub lent_again : List Lent → List (List ℕ) → List Lent  -- tables lent once more, as a call left them
lent_again [] l = []
lent_again (t ∷ ts) [] = []
lent_again (t ∷ ts) (h ∷ hs) = record { size = t.size; holds = h } ∷ lent_again ts hs

-- Nothing carries over from one run to the next: after any RUN, of any text under any limits, the next one, on the tables as that left them,
-- says what it would say on any other tables, and puts out the same numbers.
abbrev pub NothingCarriesOver : Type 0
NothingCarriesOver = (L₀ : Limits) (text₀ tree₀ : List ℕ) (works₀ stores₀ : List Lent) (output₀ : List ℤ) (r₀ : Ran) → Run L₀ text₀ tree₀ works₀ stores₀ output₀ r₀ →
    (L : Limits) (text tree : List ℕ) (works stores : List Lent) (output : List ℤ) (r r' : Ran) →
    all_large L text r₀.tree (lent_again works₀ r₀.works) (lent_again stores₀ r₀.stores) r₀.output ≡ true → all_large L text tree works stores output ≡ true →
    Run L text r₀.tree (lent_again works₀ r₀.works) (lent_again stores₀ r₀.stores) r₀.output r → Run L text tree works stores output r' →
    (r.says ≡ r'.says) × (take r.says.numbers r.output ≡ take r'.says.numbers r'.output)
