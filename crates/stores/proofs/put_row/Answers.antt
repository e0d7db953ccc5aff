use borrow.Author.Tests.{lt-ltb, le-ltb}
use Rattle.machine.specs.Entries.{pick, put_row}
use Rattle.stores.proofs.put_row.Goals as goal

pub returns-then-k-lt-MOST_ROWS : goal.returns-then-k-lt-MOST_ROWS
unfolding put_row pick
returns-then-k-lt-MOST_ROWS c =
    rw (lt-ltb _ _ c.if-k-lt-MOST_ROWS.true, c.put-then-k-lt-MOST_ROWS.ensures, c.put.ensures)

pub returns-else-k-lt-MOST_ROWS : goal.returns-else-k-lt-MOST_ROWS
unfolding put_row pick
returns-else-k-lt-MOST_ROWS c = rw (le-ltb _ _ c.if-k-lt-MOST_ROWS.false)
