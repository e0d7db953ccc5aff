use borrow.Author.Tests.{eq-eqb, ne_eqb}
use Rattle.judge.specs.Rules.{last_from}
use Rattle.judging.proofs.Laws.{last_more, last_end}
use Rattle.judging.proofs.rules.last_of.Goals as goal

pub returns-then-v-eq0 : goal.returns-then-v-eq0
unfolding last_from
returns-then-v-eq0 c =
    rw (← c.loop-step.invariant, last_more _ _ c.loop-step-test.true, ← c.next_at-v.ensures, eq-eqb _ 0 c.if-v-eq0.true)

pub loop-step-preserved : goal.loop-step-preserved
unfolding last_from
loop-step-preserved c =
    rw (← c.loop-step.invariant) (rw (last_more _ _ c.loop-step-test.true, ← c.next_at-v.ensures, ne_eqb _ 0 c.if-v-eq0.false))

pub returns : goal.returns
returns c = rw (← c.loop-step.invariant, last_end _ _ c.loop-step-test.false)
