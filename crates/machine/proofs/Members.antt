-- The laws of the evaluator that code over lent tables is proved by: an entry stops, or goes on by its node's kind with one level less; a loop goes on.
use mathlib.Core.Path.{◌≡◌, refl, sym, ap, ◌∙◌, subst}
use Prim.Native.Nat.{ℕ, zero, suc, ◌-◌, ◌≤◌, ◌<◌}
use native.Mathlib.Omega.{arith}
use mathlib.Core.Bool.{Bool, true, false}
use lib.Dec.{T, eqb, ltb→lt, lt→ltb, eqb→eq}
use Rattle.nodes.specs.declared.Node.{Node}
use Rattle.nodes.specs.Nodes.{node_at}
use Rattle.machine.specs.declared.Ending.{Ending}
use Rattle.machine.specs.declared.Ending.TheVariants.{Value, Stop, Unset, Returned, NoRule}
use Rattle.machine.specs.Entries.{pick}
use Rattle.machine.specs.State.{Run, code_at, Tables, Ret, is, valued, spend, guard}
use Rattle.machine.specs.Machine.{Evaluators, args, expr_by, rounds, cmd_by, cmd_in, cmds, step, evaluators, below, expr_at, block_at, level, cmd_at, while_at}

pub pick_true : {A : Type 0} (b : Bool) (x y : Unit {0} → A) → T b → pick b x y ≡ x tt
unfolding pick
pick_true true x y h = refl
pick_true false x y h = absurd h

pub pick_false : {A : Type 0} (b : Bool) (x y : Unit {0} → A) → (T b → ⊥) → pick b x y ≡ y tt
unfolding pick
pick_false true x y h = absurd (h tt)
pick_false false x y h = refl

-- ---- an entry

module _ (p : ℕ) (m : Tables) (k : Tables → Ret) where
  pub no_unit : (d : ℕ) → m.counts.units ≡ 0 → guard d p m k ≡ is (Stop 20 p) m
  unfolding guard
  no_unit d h = pick_false _ _ _ λ t. let l = ltb→lt 0 m.counts.units t in omega (arith, l)

  pub no_level : (d : ℕ) → (m.counts.units ≡ 0 → ⊥) → d ≡ 0 → guard d p m k ≡ is (Stop 21 p) (spend m)
  unfolding guard
  no_level d h e = pick_true _ _ _ (lt→ltb 0 m.counts.units (omega arith)) ∙ pick_false _ _ _ λ t. let l = ltb→lt 0 d t in omega (arith, l)

  pub goes_in : (d : ℕ) → (m.counts.units ≡ 0 → ⊥) → (d ≡ 0 → ⊥) → guard d p m k ≡ k (spend m)
  unfolding guard
  goes_in d h e = pick_true _ _ _ (lt→ltb 0 m.counts.units (omega arith)) ∙ pick_true _ _ _ (lt→ltb 0 d (omega arith))

-- ---- levels

module _ (g : Run) where
  evaluators_step : (d : ℕ) → evaluators g d ≡ step g d (below g d)
  unfolding evaluators below
  evaluators_step zero = refl
  evaluators_step (suc d) = refl

  -- one level further down
  pub below_level : (d : ℕ) → (d ≡ 0 → ⊥) → below g d ≡ level g (d - 1)
  unfolding below expr_at block_at
  below_level zero h = absurd (h refl)
  below_level (suc d) h = ap (level g) (omega arith)

  -- the expression i, whose node is n
  pub expr_is : (d env sp i : ℕ) (m : Tables) (n : Node) → n ≡ node_at g.tree i →
      expr_at g d env sp i m ≡ guard d n.place m λ m₁. expr_by g n.kind (code_at g i) (below g d) env sp n m₁
  unfolding expr_at step
  expr_is d env sp i m n e =
      ap (λ (S : Evaluators). S.expr env sp i m) (evaluators_step d) ∙
      ap (λ (a : Node). guard d a.place m λ m₁. expr_by g a.kind (code_at g i) (below g d) env sp a m₁) (sym e)

  -- a command that is no WHILE, whose node is n
  pub cmd_is : (d env sp : ℕ) (m : Tables) (n : Node) → (n.kind ≡ 11 → ⊥) →
      cmd_at g d env sp n m ≡ guard d n.place m λ m₁. cmd_by g n.kind (below g d) env sp n m₁
  unfolding cmd_at cmd_in
  cmd_is d env sp m n w = pick_false _ _ _ λ t. w (eqb→eq n.kind 11 t)

  -- a WHILE is its rounds
  pub cmd_while : (d env sp : ℕ) (m : Tables) (n : Node) → n.kind ≡ 11 → cmd_at g d env sp n m ≡ while_at g d env sp n m
  unfolding cmd_at cmd_in while_at
  cmd_while d env sp m n w = pick_true _ _ _ (subst (λ (a : ℕ). T (eqb a 11)) (sym w) tt)

  -- ---- loops: their index never runs out while it is above the units left

  suc_of : (u k : ℕ) → u < k → k ≡ suc (k - 1)
  suc_of u k h = omega arith

  pub args_go : (u k : ℕ) → u < k → (S : Evaluators) (env top n i : ℕ) (m : Tables) → args g k S env top n i m ≡ args g (suc (k - 1)) S env top n i m
  args_go u k h S env top n i m = ap (λ (j : ℕ). args g j S env top n i m) (suc_of u k h)

  pub cmds_go : (u k : ℕ) → u < k → (d : ℕ) (S : Evaluators) (env sp i : ℕ) (m : Tables) → cmds g k d S env sp i m ≡ cmds g (suc (k - 1)) d S env sp i m
  cmds_go u k h d S env sp i m = ap (λ (j : ℕ). cmds g j d S env sp i m) (suc_of u k h)

  pub rounds_go : (u k : ℕ) → u < k → (d : ℕ) (S : Evaluators) (env sp : ℕ) (n : Node) (m : Tables) →
      rounds g k d S env sp n m ≡ rounds g (suc (k - 1)) d S env sp n m
  rounds_go u k h d S env sp n m = ap (λ (j : ℕ). rounds g j d S env sp n m) (suc_of u k h)

  pub block_is : (d env sp i : ℕ) (m : Tables) → block_at g d env sp i m ≡ cmds g (suc m.counts.units) d (below g d) env sp i m
  unfolding block_at step
  block_is d env sp i m = ap (λ (S : Evaluators). S.block env sp i m) (evaluators_step d)

  pub while_is : (d env sp : ℕ) (n : Node) (m : Tables) → while_at g d env sp n m ≡ rounds g (suc m.counts.units) d (below g d) env sp n m
  unfolding while_at
  while_is d env sp n m = refl

-- a value is worth at most one unit
pub valued_le : (e : Ending) → valued e ≤ 1
valued_le (Value t x) = omega arith
valued_le (Stop n p) = omega arith
valued_le (Unset p q) = omega arith
valued_le (Returned t x) = omega arith
valued_le NoRule = omega arith
