use borrow.Author.Tests.{eq-eqb, ne_eqb}
use Rattle.judge.specs.Names.{same_name}
use Rattle.judge.specs.Scopes.{find_from}
use Rattle.nodes.specs.Nodes.{some_node}
use Rattle.nodes.proofs.Found.{some_is}
use Rattle.scopes.proofs.Laws.{find_more, find_end}
use Rattle.scopes.proofs.find_binder.Goals as goal

pub returns-then-e-eq0 : goal.returns-then-e-eq0
unfolding find_from some_node
returns-then-e-eq0 c = rw (← c.loop-step.invariant, find_more _ _ c.loop-step-test.true, eq-eqb _ 0 c.if-e-eq0.true)

pub returns-then-same_name : goal.returns-then-same_name
unfolding find_from same_name
returns-then-same_name c =
    rw (
      ← c.loop-step.invariant,
      find_more _ _ c.loop-step-test.true,
      ne_eqb _ 0 c.if-e-eq0.false,
      ← c.binder_place.ensures,
      ← c.same_name.ensures,
      c.if-same_name.true,
    ) (some_is _ c.if-e-eq0.false)

pub loop-step-preserved : goal.loop-step-preserved
unfolding find_from same_name
loop-step-preserved c =
    rw (← c.loop-step.invariant) (rw (
      find_more _ _ c.loop-step-test.true,
      ne_eqb _ 0 c.if-e-eq0.false,
      ← c.binder_place.ensures,
      ← c.same_name.ensures,
      c.if-same_name.false,
      c.env_at-e.ensures.value,
    ))

pub returns : goal.returns
unfolding some_node
returns c = rw (← c.loop-step.invariant, find_end _ _ c.loop-step-test.false)
