-- `coding::level_of` meets its contract: what is left of the stack has the same answer as the whole.
use mathlib.Core.Path.{refl, ap, ◌∙◌}
use Rattle.nodes.specs.declared.Node.{Node}
use Rattle.coding.specs.Coding.{script}
use Rattle.coding.proofs.Stack.{level_none, level_found, level_next}
use Rattle.coding.proofs.level_of.Goals as goal

pub loop-place-init : goal.loop-place-init
loop-place-init c = refl

pub returns-then-same_name : goal.returns-then-same_name
returns-then-same_name c =
    level_found (script _ _) _ _ _ c.loop-place-test.true _ c.entry-binder.ensures _ (ap (λ (n : Node). n.place) c.node_in.ensures) _ c.same_name.ensures c.if-same_name.true ∙ c.loop-place.invariant

pub loop-place-preserved : goal.loop-place-preserved
loop-place-preserved c =
    level_next (script _ _) _ _ _ c.loop-place-test.true _ c.entry-binder.ensures _ (ap (λ (n : Node). n.place) c.node_in.ensures) _ c.same_name.ensures c.if-same_name.false ∙ c.loop-place.invariant

pub returns : goal.returns
returns c = level_none (script _ _) _ _ _ c.loop-place-test.false ∙ c.loop-place.invariant
