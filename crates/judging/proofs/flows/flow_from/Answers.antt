use borrow.Author.Tests.{eq-eqb}
use Rattle.judge.specs.Rules.{flow_from}
use Rattle.judging.proofs.Laws.{flow_more, flow_on, flow_stop, flow_end}
use Rattle.judging.proofs.flows.flow_from.Goals as goal

pub returns-then-goes_with : goal.returns-then-goes_with
unfolding flow_from
returns-then-goes_with c =
    rw (
      ← c.loop-step.invariant,
      flow_more _ _ c.loop-step-test.true,
      ← c.entry-f.ensures,
      ← c.next_at-v.ensures,
      eq-eqb _ 0 c.if-v-eq0.true,
      ← c.goes_with.ensures,
      c.if-goes_with.true,
    )

pub returns-else-goes_with : goal.returns-else-goes_with
unfolding flow_from
returns-else-goes_with c =
    rw (
      ← c.loop-step.invariant,
      flow_more _ _ c.loop-step-test.true,
      ← c.entry-f.ensures,
      ← c.next_at-v.ensures,
      eq-eqb _ 0 c.if-v-eq0.true,
      ← c.goes_with.ensures,
      c.if-goes_with.false,
    )

pub returns-then-not-goes_on : goal.returns-then-not-goes_on
returns-then-not-goes_on c =
    rw (← c.loop-step.invariant)
    (flow_stop _ _ c.loop-step-test.true _ _ _ _ c.entry-f.ensures c.next_at-v.ensures c.if-v-eq0.false c.goes_on.ensures c.if-not-goes_on.true)

pub loop-step-preserved : goal.loop-step-preserved
loop-step-preserved c =
    rw (← c.loop-step.invariant)
    (flow_on _ _ c.loop-step-test.true _ _ _ _ c.entry-f.ensures c.next_at-v.ensures c.if-v-eq0.false c.goes_on.ensures c.if-not-goes_on.false
    c.seen-so_far.ensures)

pub returns : goal.returns
returns c = rw (← c.loop-step.invariant, flow_end _ _ c.loop-step-test.false)
