use borrow.Author.Tests.{lt-ltb, le-ltb}
use Rattle.machine.specs.Entries.{pick, row_at}
use Rattle.stores.proofs.row_at.Goals as goal

pub returns-then-k-lt-MOST_ROWS : goal.returns-then-k-lt-MOST_ROWS
unfolding row_at pick
returns-then-k-lt-MOST_ROWS c = rw (lt-ltb _ _ c.if-k-lt-MOST_ROWS.true, c.entry-tag.ensures, c.entry-word.ensures)

pub returns : goal.returns
unfolding row_at pick
returns c = rw (le-ltb _ _ c.if-k-lt-MOST_ROWS.false)
