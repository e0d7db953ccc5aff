use borrow.Author.Tests.{eq-eqb, ne_eqb}
use Rattle.machine.specs.Entries.{pick}
use Rattle.machine.specs.Leaves.{negated}
use Rattle.stores.proofs.negation.Goals as goal

pub returns-then-operator-ne-NOT : goal.returns-then-operator-ne-NOT
unfolding negated pick
returns-then-operator-ne-NOT c = rw (ne_eqb _ 3 c.if-operator-ne-NOT.true)

pub returns-then-row-ne-NUMBER : goal.returns-then-row-ne-NUMBER
unfolding negated pick
returns-then-row-ne-NUMBER c = rw (eq-eqb _ 3 c.if-operator-ne-NOT.false, ne_eqb _ 0 c.if-row-ne-NUMBER.true)

pub returns-in-0 : goal.returns-in-0
unfolding negated pick
returns-in-0 c = rw (eq-eqb _ 3 c.if-operator-ne-NOT.false, eq-eqb _ 0 c.if-row-ne-NUMBER.false, eq-eqb _ 0 c.in-0.is)

pub returns-in-1 : goal.returns-in-1
unfolding negated pick
returns-in-1 c = rw (eq-eqb _ 3 c.if-operator-ne-NOT.false, eq-eqb _ 0 c.if-row-ne-NUMBER.false, c.in-1.is)

pub returns-in_default : goal.returns-in_default
unfolding negated pick
returns-in_default c =
    rw (eq-eqb _ 3 c.if-operator-ne-NOT.false, eq-eqb _ 0 c.if-row-ne-NUMBER.false, ne_eqb _ 0 c.in_default.in_default-own.rest.0.1, ne_eqb _ 1 c.in_default.in_default-own.rest.1)
