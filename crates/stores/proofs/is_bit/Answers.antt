use borrow.Author.Tests.{eq-eqb, ne_eqb}
use Rattle.machine.specs.Entries.{pick}
use Rattle.stores.specs.Choices.{is_bit}
use Rattle.stores.proofs.is_bit.Goals as goal

pub returns-then-value-eq-NUMBER : goal.returns-then-value-eq-NUMBER
unfolding is_bit pick
returns-then-value-eq-NUMBER c = rw (eq-eqb _ 0 c.if-value-eq-NUMBER.true)

pub returns-else-value-eq-NUMBER : goal.returns-else-value-eq-NUMBER
unfolding is_bit pick
returns-else-value-eq-NUMBER c = rw (ne_eqb _ 0 c.if-value-eq-NUMBER.false)
