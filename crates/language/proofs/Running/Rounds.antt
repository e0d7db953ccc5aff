-- The count of a WHILE's rounds is never what stops it: 004's rules, with the statement itself for the next round.
use mathlib.Core.Path.{◌≡◌, refl}
use Prim.Native.Nat.{ℕ, zero, suc, ◌+◌, ◌≤◌, ◌<◌}
use native.Mathlib.Nat.{le_trans}
use native.Mathlib.Omega.{arith}
use mathlib.Core.Bool.{Bool, true, false}
use mathlib.Core.Option.{Option, none, some}
use lib.Dec.{T, ltb, ltb→lt}
use Rattle.language.specs.Syntax.{Expr, while, Block}
use Rattle.language.specs.Answers.{LimitStop, FUEL}
use Rattle.language.specs.Limits.{Limits}
use Rattle.language.specs.Rules.{Val, Env, State, Returned, Outcome, ok, bind, need, unless_returned, within, branch, take_unit, enter, as_truth, in_block, rounds, level, run}
use Rattle.language.proofs.Running.Stable.{Mark, mark, Past, After, a_ok, a_halt, sim_after, block_sim, level_self}

bind_eq : {A B : Type 0} {w : Mark} {o : Outcome A} {k k' : A → State → Outcome B} → After w o → ((a : A) (s : State) → Past w (mark s) → k a s ≡ k' a s) →
    bind o k ≡ bind o k'
unfolding bind
bind_eq (a_ok {a = a} {s = s} h) f = f a s h
bind_eq (a_halt h) f = refl

then_eq : {w : Mark} {o : Outcome Returned} {k k' : State → Outcome Returned} → After w o → ((s : State) → Past w (mark s) → k s ≡ k' s) →
    unless_returned o k ≡ unless_returned o k'
unfolding unless_returned
then_eq (a_ok {a = none} {s = s} h) f = f s h
then_eq (a_ok {a = some v} h) f = refl
then_eq (a_halt h) f = refl

need_eq : {A B : Type 0} (o : Option A) (p : ℕ) (s : State) {k k' : A → Outcome B} → ((a : A) → k a ≡ k' a) → need o p s k ≡ need o p s k'
unfolding need
need_eq none p s f = refl
need_eq (some a) p s f = f a

branch_eq : {A : Type 0} (b : Bool) {o o' : Outcome A} (o₂ : Outcome A) → o ≡ o' → branch b o o₂ ≡ branch b o' o₂
unfolding branch
branch_eq true o₂ h = h
branch_eq false o₂ h = refl

within_eq : {A : Type 0} (b : Bool) (l : LimitStop) (p : ℕ) (s : State) {o o' : Outcome A} → (T b → o ≡ o') → within b l p s o ≡ within b l p s o'
unfolding within
within_eq true l p s h = h tt
within_eq false l p s h = refl

-- one round, and then what f does
abbrev pub round : Limits → (State → Outcome Val) → (State → Outcome Returned) → ℕ → (State → Outcome Returned) → State → Outcome Returned
round L test run p f s =
    bind (test s) λ v s₁. need (as_truth v) p s₁ λ t. branch t (unless_returned (run s₁) λ s₂. enter L p s₂ f) (ok none s₁)

module _ (L : Limits) (test : State → Outcome Val) (run : State → Outcome Returned) (ht : (s : State) → After (mark s) (test s)) (hr : (s : State) → After (mark s) (run s)) (p : ℕ) where
  round_eq : (f g : State → Outcome Returned) (s : State) →
      ((s₂ : State) → s.units ≤ s₂.units → s₂.units < L.fuel → f (take_unit s₂) ≡ g (take_unit s₂)) →
      round L test run p f s ≡ round L test run p g s
  round_eq f g s h =
      bind_eq (ht s) λ v s₁ h₁. need_eq _ p s₁ λ t. branch_eq t (ok none s₁)
      (then_eq (hr s₁) λ s₂ h₂. within_eq (ltb s₂.units L.fuel) FUEL p s₂ λ b. h s₂ (le_trans h₁.used h₂.used) (ltb→lt _ _ b))

  rounds_count : (n m : ℕ) (s : State) → L.fuel ≤ s.units + n → L.fuel ≤ s.units + m → rounds L (suc n) test run p s ≡ rounds L (suc m) test run p s
  rounds_count zero m s hn hm = round_eq (λ s. rounds L zero test run p s) (λ s. rounds L m test run p s) s λ s₂ a b. absurd (omega arith)
  rounds_count (suc n) zero s hn hm = round_eq (λ s. rounds L (suc n) test run p s) (λ s. rounds L zero test run p s) s λ s₂ a b. absurd (omega arith)
  rounds_count (suc n) (suc m) s hn hm =
      round_eq (λ s. rounds L (suc n) test run p s) (λ s. rounds L (suc m) test run p s) s λ s₂ a b. rounds_count n m (take_unit s₂) (omega arith) (omega arith)

  -- the whole count is enough: the next round may start with it again
  rounds_unroll : (s : State) → rounds L (suc L.fuel) test run p s ≡ round L test run p (rounds L (suc L.fuel) test run p) s
  rounds_unroll s = round_eq (λ s. rounds L L.fuel test run p s) (λ s. rounds L (suc L.fuel) test run p s) s λ s₂ a b. go L.fuel refl s₂ b
    where
      go : (k : ℕ) → L.fuel ≡ k → (s₂ : State) → s₂.units < L.fuel → rounds L k test run p (take_unit s₂) ≡ rounds L (suc k) test run p (take_unit s₂)
      go zero e s₂ b = absurd (omega arith)
      go (suc k) e s₂ b = rounds_count k (suc k) (take_unit s₂) (omega arith) (omega arith)

pub while_rule_lem : (L : Limits) (d p : ℕ) (e : Expr) (b : Block) (ρ : Env) (s : State) →
    (level L (suc d)).stat (while p e b) ρ s ≡
    enter L p s (λ s₁. bind ((level L d).expr e ρ s₁) λ v s₂. need (as_truth v) p s₂ λ t.
    branch t (unless_returned (in_block (level L d) b ρ s₂) λ s₃. (level L (suc d)).stat (while p e b) ρ s₃) (ok none s₂))
unfolding level
while_rule_lem L d p e b ρ s =
    within_eq (ltb s.units L.fuel) FUEL p s λ _.
    rounds_unroll L ((level L d).expr e ρ) (in_block (level L d) b ρ) (λ s. sim_after ((level_self L d).expr_sim e ρ s)) (λ s. sim_after (block_sim (level_self L d) b ρ s)) p (take_unit s)
