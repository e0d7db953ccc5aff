use borrow.Author.Tests.{eq-eqb, ne_eqb}
use Rattle.judge.specs.Names.{same_name}
use Rattle.judge.specs.Scopes.{named_from}
use Rattle.scopes.proofs.Laws.{named_more, named_end}
use Rattle.scopes.proofs.named_from.Goals as goal

pub returns-then-e-eq0 : goal.returns-then-e-eq0
unfolding named_from
returns-then-e-eq0 c = rw (← c.loop-step.invariant, named_more _ _ c.loop-step-test.true, eq-eqb _ 0 c.if-e-eq0.true)

pub returns-then-same_name : goal.returns-then-same_name
unfolding named_from same_name
returns-then-same_name c =
    rw (
      ← c.loop-step.invariant,
      named_more _ _ c.loop-step-test.true,
      ne_eqb _ 0 c.if-e-eq0.false,
      ← c.place_at.ensures,
      ← c.same_name.ensures,
      c.if-same_name.true,
    )

pub loop-step-preserved : goal.loop-step-preserved
unfolding named_from same_name
loop-step-preserved c =
    rw (← c.loop-step.invariant) (rw (
      named_more _ _ c.loop-step-test.true,
      ne_eqb _ 0 c.if-e-eq0.false,
      ← c.place_at.ensures,
      ← c.same_name.ensures,
      c.if-same_name.false,
      c.behind_at-e.ensures,
    ))

pub returns : goal.returns
returns c = rw (← c.loop-step.invariant, named_end _ _ c.loop-step-test.false)
