use borrow.Author.Tests.{eq-eqb, ne_eqb}
use Rattle.machine.specs.Entries.{pick}
use Rattle.machine.specs.Leaves.{length_value}
use Rattle.stores.proofs.length_value.Goals as goal

pub returns-then-block-ne-BLOCK : goal.returns-then-block-ne-BLOCK
unfolding length_value pick
returns-then-block-ne-BLOCK c = rw (ne_eqb _ 9 c.if-block-ne-BLOCK.true)

pub returns : goal.returns
unfolding length_value pick
returns c = rw (eq-eqb _ 9 c.if-block-ne-BLOCK.false, ← c.env_of-length.ensures)
