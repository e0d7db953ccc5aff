use mathlib.Core.Path.{ap, ◌∙◌}
use Prim.Native.Nat.{ℕ}
use borrow.Author.Tests.{not-true, not-false}
use Rattle.machine.specs.Leaves.{body_after}
use Rattle.stores.proofs.Laws.{none_done, some_left, one_less, none_left}
use Rattle.entering.proofs.Laws.{body_goes_on, body_too_few, body_too_many, body_found}
use Rattle.entering.proofs.body_after.Goals as goal

pub loop-init : goal.loop-init
loop-init c = ap (λ (j : ℕ). body_after c.args.tree.now j c.args.q) (none_done c.args.n)

pub returns-then-not-is_param : goal.returns-then-not-is_param
returns-then-not-is_param c =
    body_too_few _ _ _ _ (some_left _ _ c.loop-test.true) _ c.node_at-param.ensures c.is_param.ensures (not-true c.is_param.result c.if-not-is_param.true-raw) ∙
    c.loop.invariant

pub loop-preserved : goal.loop-preserved
loop-preserved c =
    rw (one_less c.args.n c.loop.counter)
    (body_goes_on _ _ _ _ (some_left _ _ c.loop-test.true) _ c.node_at-param.ensures c.is_param.ensures (not-false c.is_param.result c.if-not-is_param.false-raw) ∙
    c.loop.invariant)

pub returns-then-is_param : goal.returns-then-is_param
returns-then-is_param c =
    body_too_many _ _ _ _ (none_left _ _ c.loop-test.false) _ c.kind_at.ensures c.is_param-2.ensures c.if-is_param.true ∙ c.loop.invariant

pub returns : goal.returns
returns c =
    body_found _ _ _ _ (none_left _ _ c.loop-test.false) _ c.kind_at.ensures c.is_param-2.ensures c.if-is_param.false ∙ c.loop.invariant
