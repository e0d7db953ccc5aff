-- A round of WHILE and the rounds after it, as one step.
use mathlib.Core.Path.{◌≡◌, refl, ◌∙◌}
use mathlib.Core.Bool.{Bool, true, false}
use Prim.Native.Nat.{ℕ, suc}
use lib.Dec.{eqb, ltb}
use Rattle.nodes.specs.declared.Node.{Node}
use Rattle.nodes.specs.Nodes.{node_at}
use Rattle.machine.specs.declared.Ending.{Ending}
use Rattle.machine.specs.declared.Ending.TheVariants.{Value, Stop, Unset, Returned, NoRule}
use Rattle.machine.specs.Entries.{pick, number_tag, done_tag, again_tag}
use Rattle.machine.specs.State.{Run, Tables, Ret, is, on_value, and_then, spend, guard}
use Rattle.machine.specs.Machine.{Evaluators, on_bit, round, rounds}

-- ---- what follows a part follows each of its ends

value_then : (e : Ending) (m : Tables) (k k' : ℕ → ℕ → Tables → Ret) → and_then (on_value e m k) k' ≡ on_value e m (λ t x m. and_then (k t x m) k')
unfolding and_then
value_then (Value t x) m k k' = refl
value_then (Stop n p) m k k' = refl
value_then (Unset p q) m k k' = refl
value_then (Returned t x) m k k' = refl
value_then NoRule m k k' = refl

then_then : (r : Ret) (k k' : ℕ → ℕ → Tables → Ret) → and_then (and_then r k) k' ≡ and_then r (λ t x m. and_then (k t x m) k')
unfolding and_then
then_then r k k' = value_then r.ending r.after k k'

tests_then : (b c : Bool) (p : ℕ) (m m₁ : Tables) (r : Ret) (k : ℕ → ℕ → Tables → Ret) →
    and_then (pick b (λ _. pick c (λ _. r) λ _. is (Stop 21 p) m₁) λ _. is (Stop 20 p) m) k ≡
    pick b (λ _. pick c (λ _. and_then r k) λ _. is (Stop 21 p) m₁) λ _. is (Stop 20 p) m
unfolding pick and_then
tests_then true true p m m₁ r k = refl
tests_then true false p m m₁ r k = refl
tests_then false c p m m₁ r k = refl

guard_then : (d p : ℕ) (m : Tables) (f : Tables → Ret) (k : ℕ → ℕ → Tables → Ret) → and_then (guard d p m f) k ≡ guard d p m (λ m₀. and_then (f m₀) k)
unfolding guard
guard_then d p m f k = tests_then (ltb 0 m.counts.units) (ltb 0 d) p m (spend m) (f (spend m)) k

bits_then : (a b c : Bool) (m : Tables) (one zero : Unit {0} → Ret) (k : ℕ → ℕ → Tables → Ret) →
    and_then (pick a (λ _. pick b zero λ _. pick c one λ _. is NoRule m) λ _. is NoRule m) k ≡
    pick a (λ _. pick b (λ _. and_then (zero tt) k) λ _. pick c (λ _. and_then (one tt) k) λ _. is NoRule m) λ _. is NoRule m
unfolding pick and_then
bits_then true true c m one zero k = refl
bits_then true false true m one zero k = refl
bits_then true false false m one zero k = refl
bits_then false b c m one zero k = refl

bit_then : (t x : ℕ) (m : Tables) (one zero : Unit {0} → Ret) (k : ℕ → ℕ → Tables → Ret) →
    and_then (on_bit t x m one zero) k ≡ on_bit t x m (λ _. and_then (one tt) k) λ _. and_then (zero tt) k
unfolding on_bit
bit_then t x m one zero k = bits_then (eqb t number_tag) (eqb x 0) (eqb x 1) m one zero k

-- ---- the rounds

module _ (g : Run) (d : ℕ) (S : Evaluators) (env sp : ℕ) (n : Node) where
  abbrev body : ℕ
  body = (node_at g.tree (node_at g.tree n.child).next).child

  -- after a round
  abbrev more : ℕ → ℕ → ℕ → Tables → Ret
  more k t x m = pick (eqb t again_tag) (λ _. rounds g k d S env sp n m) λ _. is (Value t x) m

  again : (k : ℕ) (m : Tables) → and_then (is (Value again_tag env) m) (more k) ≡ rounds g k d S env sp n m
  unfolding and_then pick
  again k m = refl

  ended : (k : ℕ) (m : Tables) → and_then (is (Value done_tag env) m) (more k) ≡ is (Value done_tag env) m
  unfolding and_then pick
  ended k m = refl

  block_then : (k : ℕ) (m : Tables) → and_then (and_then (S.block env sp body m) λ _ _ m₂. is (Value again_tag env) m₂) (more k) ≡
      and_then (S.block env sp body m) λ _ _ m₂. rounds g k d S env sp n m₂
  block_then k m = then_then (S.block env sp body m) _ (more k) ∙ λ i. and_then (S.block env sp body m) λ _ _ m₂. again k m₂ i

  test_then : (k t x : ℕ) (m : Tables) →
      and_then (on_bit t x m (λ _. and_then (S.block env sp body m) λ _ _ m₂. is (Value again_tag env) m₂) λ _. is (Value done_tag env) m) (more k) ≡
      on_bit t x m (λ _. and_then (S.block env sp body m) λ _ _ m₂. rounds g k d S env sp n m₂) λ _. is (Value done_tag env) m
  test_then k t x m = bit_then t x m _ _ (more k) ∙ λ i. on_bit t x m (λ _. block_then k m i) λ _. ended k m i

  entered_then : (k : ℕ) (m : Tables) →
      and_then (and_then (S.expr env sp n.child m) λ t x m₁.
      on_bit t x m₁ (λ _. and_then (S.block env sp body m₁) λ _ _ m₂. is (Value again_tag env) m₂) λ _. is (Value done_tag env) m₁) (more k) ≡
      and_then (S.expr env sp n.child m) λ t x m₁.
      on_bit t x m₁ (λ _. and_then (S.block env sp body m₁) λ _ _ m₂. rounds g k d S env sp n m₂) λ _. is (Value done_tag env) m₁
  entered_then k m = then_then (S.expr env sp n.child m) _ (more k) ∙ λ i. and_then (S.expr env sp n.child m) λ t x m₁. test_then k t x m₁ i

  pub rounds_step : (k : ℕ) (m : Tables) → rounds g (suc k) d S env sp n m ≡
      guard d n.place m λ m₀. and_then (S.expr env sp n.child m₀) λ t x m₁.
      on_bit t x m₁ (λ _. and_then (S.block env sp body m₁) λ _ _ m₂. rounds g k d S env sp n m₂) λ _. is (Value done_tag env) m₁
  unfolding rounds round
  rounds_step k m = guard_then d n.place m _ (more k) ∙ λ i. guard d n.place m λ m₀. entered_then k m₀ i
