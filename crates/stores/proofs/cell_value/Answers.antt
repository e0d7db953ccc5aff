use borrow.Author.Tests.{lt-ltb, le-ltb, eq-eqb, ne_eqb}
use Rattle.machine.specs.Entries.{pick}
use Rattle.machine.specs.Leaves.{cell_value}
use Rattle.stores.proofs.cell_value.Goals as goal

pub returns-then-a-n : goal.returns-then-a-n
unfolding cell_value pick
returns-then-a-n c = rw (le-ltb _ _ c.if-a-n.true)

pub returns-then-cell-eq-UNSET : goal.returns-then-cell-eq-UNSET
unfolding cell_value pick
returns-then-cell-eq-UNSET c = rw (lt-ltb _ _ c.if-a-n.false, ← c.cell_at-cell.ensures, eq-eqb _ 6 c.if-cell-eq-UNSET.true)

pub returns : goal.returns
unfolding cell_value pick
returns c = rw (lt-ltb _ _ c.if-a-n.false, ← c.cell_at-cell.ensures, ne_eqb _ 6 c.if-cell-eq-UNSET.false)
