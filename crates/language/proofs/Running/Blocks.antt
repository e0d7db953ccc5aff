-- The cells of a block are fresh, and so no other block's and no variable's.
use mathlib.Core.Path.{◌≡◌, refl, sym, ◌∙◌, ap, subst}
use Prim.Native.Nat.{ℕ, zero, suc, ◌+◌, ◌≤◌}
use native.Mathlib.Omega.{arith}
use mathlib.Core.Bool.{Bool, true, false}
use mathlib.Core.List.{[], ◌∷◌}
use mathlib.Core.Option.{Option, none, some, some-injective}
use lib.IntN.{ℤ}
use lib.ListN.{length, length-append, replicate, length-replicate}
use Rattle.language.specs.Syntax.{Name, at, TypeTree, var}
use Rattle.language.specs.Answers.{LimitStop, ErrorStop}
use Rattle.language.specs.Limits.{Limits}
use Rattle.language.specs.Rules.{Val, in_a, in_b, Env, empty, bound, State, Why, Outcome, ok, halt, bind, need, otherwise, within, take_unit, fresh, as_number, as_block, as_address, as_size, Level, alloc_rule, def_rule, level}
use Rattle.language.specs.Claims.{FreshBlock, AllocIsFresh, Takes, by_alloc, by_var, BlocksApart}
use Rattle.language.proofs.Running.Stable.{Mark, After, a_ok, sim_after, level_self}

-- what is so of an outcome's result and state, if it has a result
data IfEnds {A : Type 0} (P : A → State → Type 0) : Outcome A → Type 0 where
  i_ok : {a : A} {s : State} → P a s → IfEnds P (ok a s)
  i_halt : {w : Why} {p : ℕ} {s : State} → IfEnds P (halt w p s)

it_is : {A : Type 0} {P : A → State → Type 0} {a : A} {s : State} → IfEnds P (ok a s) → P a s
it_is (i_ok h) = h

module _ {A B : Type 0} {P : B → State → Type 0} where
  ends_bind : (o : Outcome A) {k : A → State → Outcome B} → ((a : A) (s : State) → o ≡ ok a s → IfEnds P (k a s)) → IfEnds P (bind o k)
  unfolding bind
  ends_bind (ok a s) f = f a s refl
  ends_bind (halt w p s) f = i_halt

  ends_need : (o : Option A) (p : ℕ) (s : State) {k : A → Outcome B} → ((a : A) → IfEnds P (k a)) → IfEnds P (need o p s k)
  unfolding need
  ends_need none p s f = i_halt
  ends_need (some a) p s f = f a

  ends_otherwise : (o : Option A) (x : ErrorStop) (p : ℕ) (s : State) {k : A → Outcome B} → ((a : A) → IfEnds P (k a)) → IfEnds P (otherwise o x p s k)
  unfolding otherwise
  ends_otherwise none x p s f = i_halt
  ends_otherwise (some a) x p s f = f a

ends_within : {A : Type 0} {P : A → State → Type 0} (b : Bool) (l : LimitStop) (p : ℕ) (s : State) {o : Outcome A} → IfEnds P o → IfEnds P (within b l p s o)
unfolding within
ends_within true l p s h = h
ends_within false l p s h = i_halt

-- the cells that an alloc takes in the state s: its block is behind those that were taken
abbrev BlockMade : State → Val → State → Type 0
BlockMade s v t = (k : ℕ) × (v ≡ in_b (length s.cells) k) × (length t.cells ≡ length s.cells + k)

alloc_makes : (L : Limits) (p : ℕ) (n : ℤ) (s : State) → IfEnds (BlockMade s) (alloc_rule L p n s)
alloc_makes L p n s = ends_otherwise (as_size n) _ p s λ k. ends_within _ _ p s
    (i_ok (k, refl, length-append s.cells (replicate k (fresh p)) ∙ ap (λ m. length s.cells + m) (length-replicate k (fresh p))))

-- the cell that a VAR takes in the state s
abbrev CellMade : State → Name → Env → Env → State → Type 0
CellMade s x ρ ρ' t = (ρ' ≡ bound x (in_a (length s.cells)) ρ) × (length t.cells ≡ length s.cells + 1)

var_makes : (L : Limits) (r : Level) (p q : ℕ) (x : Name) (y : TypeTree) (ρ : Env) (s : State) → IfEnds (CellMade s x ρ) (def_rule L r (var p (at q x) y) ρ s)
var_makes L r p q x y ρ s = ends_within _ _ p s (ends_within _ _ p _ (i_ok (refl, length-append s.cells (fresh p ∷ []))))

-- what is bound last
last_bound : Env → Option Val
last_bound empty = none
last_bound (bound x v ρ) = some v

block_parts : {a b k l : ℕ} → in_b a k ≡ in_b b l → (a ≡ b) × (k ≡ l)
block_parts e = let q = some-injective _ _ (ap as_block e) in (ap (λ (x : ℕ × ℕ). x.0) q, ap (λ (x : ℕ × ℕ). x.1) q)

cell_of_lem : {a b : ℕ} {x : Name} {ρ : Env} → bound x (in_a a) ρ ≡ bound x (in_a b) ρ → a ≡ b
unfolding last_bound
cell_of_lem e = some-injective _ _ (ap as_address (some-injective _ _ (ap last_bound e)))

-- what is taken is taken from the next cell on
takes_next : {L : Limits} {s t : State} {a k : ℕ} → Takes L s a k t → (a ≡ length s.cells) × (length t.cells ≡ a + k)
takes_next {L} {s} {t} {a} {k} (by_alloc p n e) =
    let h = it_is (subst (IfEnds (BlockMade s)) e (alloc_makes L p n s)) in
    let b = block_parts h.1 in
    (b.0, h.2 ∙ ap (λ m. length s.cells + m) (sym b.1) ∙ ap (λ m. m + k) (sym b.0))
takes_next {L} {s} {t} {a} (by_var r p q x y ρ e) =
    let h = it_is (subst (IfEnds (CellMade s x ρ)) e (var_makes L r p q x y ρ s)) in
    let b = cell_of_lem h.0 in
    (b, h.1 ∙ ap (λ m. m + 1) (sym b))

pub blocks_apart : BlocksApart
blocks_apart L s s' t t' a k b l h stays g i j i<k j<l e =
    let x = takes_next h in
    let y = takes_next g in
    omega (arith, x.1, y.0, stays.cells_stay, i<k, j<l, e)

-- an evaluation that ends has at least the cells it began with
grown : {A : Type 0} {m : Mark} {t : State} {a : A} → After m (ok a t) → m.3 ≤ length t.cells
grown (a_ok p) = p.taken

fresh_block : (s : State) {o : Outcome Val} → IfEnds (λ v t. FreshBlock s (ok v t)) o → FreshBlock s o
fresh_block s (i_ok h) = h
fresh_block s i_halt = tt

made_fresh : (s u : State) {o : Outcome Val} → length s.cells ≤ length u.cells → IfEnds (BlockMade u) o → IfEnds (λ v t. FreshBlock s (ok v t)) o
made_fresh s u le (i_ok h) = i_ok (length u.cells, h.0, h.1, le, sym h.2)
made_fresh s u le i_halt = i_halt

pub alloc_is_fresh : AllocIsFresh
unfolding level
alloc_is_fresh L zero p t e ρ s = fresh_block s (ends_within _ _ p s i_halt)
alloc_is_fresh L (suc d) p t e ρ s = fresh_block s (ends_within _ _ p s (ends_bind ((level L d).expr e ρ (take_unit s)) λ v u q.
    ends_need (as_number v) p u λ n.
    made_fresh s u (grown (subst (After _) q (sim_after ((level_self L d).expr_sim e ρ (take_unit s))))) (alloc_makes L p n u)))
