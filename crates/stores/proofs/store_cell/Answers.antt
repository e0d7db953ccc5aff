use borrow.Author.Tests.{lt-ltb, le-ltb}
use Rattle.machine.specs.Entries.{pick}
use Rattle.stores.proofs.store_cell.Goals as goal

pub returns-then-cell-counts : goal.returns-then-cell-counts
unfolding pick
returns-then-cell-counts c = λ b w o e. rw (lt-ltb _ _ c.if-cell-counts.true, ← c.cell_at-old.ensures, ← c.put_cell.ensures)

pub returns-else-cell-counts : goal.returns-else-cell-counts
unfolding pick
returns-else-cell-counts c = λ b w o e. rw (le-ltb _ _ c.if-cell-counts.false)
