-- Parts of the evaluator's definition that are functions of their own in the code.
use Rattle.std.specs.Prelude.{ℕ, eqb}
use Rattle.language.specs.Limits.{Limits}
use Rattle.nodes.specs.declared.Node.{Node}
use Rattle.nodes.specs.Nodes.{node_at}
use Rattle.machine.specs.declared.Bounds.{Bounds}
use Rattle.machine.specs.declared.Ending.TheVariants.{Value}
use Rattle.machine.specs.Entries.{pick}
use Rattle.machine.specs.State.{Run, Tables, Ret, is, and_then}
use Rattle.machine.specs.Machine.{Evaluators, all_args, body_e, level}
use Rattle.stores.specs.Choices.{is_bit, bit_answer}
use Rattle.entering.specs.Opening.{opens}

module _ (g : Run) where
  -- two parts, of which the second is evaluated after the bit b: `and` goes on after a 1, and `or` after a 0
  unfoldable pub parts_e : (goes_on : ℕ) → Evaluators → (env sp : ℕ) → Node → Tables → Ret
  parts_e b S env sp n m =
      and_then (S.expr env sp n.child m) λ t x m₁.
      pick (is_bit t x b) (λ _. S.expr env sp (node_at g.tree n.child).next m₁) λ _. is (bit_answer t x) m₁

  -- the block i, with the names of ρ: the answer is the environment env, under a tag
  unfoldable pub inner_c : (tag : ℕ) → Evaluators → (env within sp i : ℕ) → Tables → Ret
  inner_c t S env ρ sp i m = and_then (S.block ρ sp (node_at g.tree i).child m) λ _ _ m₁. is (Value t env) m₁

  -- the value t x applied to the arguments of n, by an application (23) or a CALL
  unfoldable pub apply_v : (form : ℕ) → Evaluators → (env sp tag word : ℕ) → Node → Tables → Ret
  apply_v f S env sp t x n m =
      and_then (all_args g S env sp (node_at g.tree n.child).next m) λ _ k m₁.
      and_then (opens g f n.place k sp t x m₁) λ ρ i m₂.
      pick (eqb f 23) (λ _. body_e g S ρ sp i m₂) λ _. inner_c 7 S env ρ sp i m₂

  -- with d levels left
  abbrev pub parts_at : (goes_on d env sp : ℕ) → Node → Tables → Ret
  parts_at b d env sp n m = parts_e b (level g d) env sp n m

  abbrev pub apply_at : (form d env sp tag word : ℕ) → Node → Tables → Ret
  apply_at f d env sp t x n m = apply_v f (level g d) env sp t x n m

  abbrev pub inner_at : (answer d env sp within i : ℕ) → Tables → Ret
  inner_at t d env sp ρ i m = inner_c t (level g d) env ρ sp i m

-- the limits that the code has as numbers
abbrev pub limits_of_bounds : (fuel depth : ℕ) → Bounds → Limits
limits_of_bounds f d b = record { fuel = f; depth = d; bindings = b.bindings; cells = b.cells; output = b.output }
