use borrow.Author.Tests.{eq-eqb, ne_eqb}
use Rattle.judge.specs.Judge.{fine_from}
use Rattle.judging.proofs.Laws.{fine_more, fine_end}
use Rattle.judging.proofs.notes.all_fine.Goals as goal

pub returns-then-y-eq0 : goal.returns-then-y-eq0
unfolding fine_from
returns-then-y-eq0 c = rw (← c.loop-step.invariant, fine_more _ _ c.loop-step-test.true, eq-eqb _ 0 c.if-y-eq0.true)

pub returns-then-is_refusal : goal.returns-then-is_refusal
unfolding fine_from
returns-then-is_refusal c =
    rw (
      ← c.loop-step.invariant,
      fine_more _ _ c.loop-step-test.true,
      ne_eqb _ 0 c.if-y-eq0.false,
      ← c.entry.ensures,
      ← c.is_refusal.ensures,
      c.if-is_refusal.true,
    )

pub loop-step-preserved : goal.loop-step-preserved
unfolding fine_from
loop-step-preserved c =
    rw (← c.loop-step.invariant) (rw (
      fine_more _ _ c.loop-step-test.true,
      ne_eqb _ 0 c.if-y-eq0.false,
      ← c.entry.ensures,
      ← c.is_refusal.ensures,
      c.if-is_refusal.false,
      c.next_at-y.ensures,
    ))

pub returns : goal.returns
returns c = rw (← c.loop-step.invariant, fine_end _ _ c.loop-step-test.false)
