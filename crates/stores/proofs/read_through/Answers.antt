use borrow.Author.Tests.{eq-eqb, ne_eqb}
use Rattle.machine.specs.Entries.{pick}
use Rattle.machine.specs.Leaves.{read_through}
use Rattle.stores.proofs.read_through.Goals as goal

pub returns-then-value-ne-ADDRESS : goal.returns-then-value-ne-ADDRESS
unfolding read_through pick
returns-then-value-ne-ADDRESS c = rw (ne_eqb _ 5 c.if-value-ne-ADDRESS.true)

pub returns : goal.returns
unfolding read_through pick
returns c = rw (eq-eqb _ 5 c.if-value-ne-ADDRESS.false) c.cell_value.ensures
