use borrow.Author.Tests.{eq-eqb, ne_eqb}
use Rattle.judge.specs.Types.{fits_from}
use Rattle.nodes.specs.Nodes.{some_node}
use Rattle.types.proofs.Laws.{fits_more, fits_end}
use Rattle.types.proofs.fit_args.Goals as goal
use Rattle.types.proofs.fit_args.Goals.{then-z-eq0-2-via-then-z-eq0-2, then-z-eq0-2-via-else-z-eq0-2+then-not-arg_fits}

pub returns-then-z-eq0 : goal.returns-then-z-eq0
unfolding fits_from
returns-then-z-eq0 c =
    rw (
      ← c.loop-step.invariant,
      fits_more _ _ c.loop-step-test.true,
      ← c.next_at-v.ensures,
      eq-eqb _ 0 c.if-v-eq0.true,
      eq-eqb _ 0 c.if-z-eq0.true,
    ) c.some_node.ensures

pub returns-else-z-eq0 : goal.returns-else-z-eq0
unfolding fits_from some_node
returns-else-z-eq0 c =
    rw (
      ← c.loop-step.invariant,
      fits_more _ _ c.loop-step-test.true,
      ← c.next_at-v.ensures,
      eq-eqb _ 0 c.if-v-eq0.true,
      ne_eqb _ 0 c.if-z-eq0.false,
    )

pub returns-then-z-eq0-2 : goal.returns-then-z-eq0-2
unfolding fits_from some_node
returns-then-z-eq0-2 c =
    rw (← c.loop-step.invariant, fits_more _ _ c.loop-step-test.true, ← c.next_at-v.ensures, ne_eqb _ 0 c.if-v-eq0.false)
    (elim c.then-z-eq0-2.branch [
      | then-z-eq0-2-via-then-z-eq0-2 w ↦ rw (eq-eqb _ 0 w.if-z-eq0-2.true)
      | then-z-eq0-2-via-else-z-eq0-2+then-not-arg_fits w ↦ rw (ne_eqb _ 0 w.if-z-eq0-2.false, ← w.arg_fits.ensures, w.if-not-arg_fits.true)
    ])

pub loop-step-preserved : goal.loop-step-preserved
unfolding fits_from
loop-step-preserved c =
    rw (← c.loop-step.invariant) (rw (
      fits_more _ _ c.loop-step-test.true,
      ← c.next_at-v.ensures,
      ne_eqb _ 0 c.if-v-eq0.false,
      ne_eqb _ 0 c.if-z-eq0-2.false,
      ← c.arg_fits.ensures,
      c.if-not-arg_fits.false,
      c.next_at-z.ensures,
    ))

pub returns : goal.returns
unfolding some_node
returns c = rw (← c.loop-step.invariant, fits_end _ _ c.loop-step-test.false)
