use borrow.Author.Tests.{lt-ltb, le-ltb}
use Rattle.machine.specs.Entries.{pick}
use Rattle.machine.specs.Leaves.{bound_to}
use Rattle.stores.proofs.bound_to.Goals as goal

pub returns-then-c-lt-FIRST_FREE : goal.returns-then-c-lt-FIRST_FREE
unfolding bound_to pick
returns-then-c-lt-FIRST_FREE c = rw (lt-ltb _ _ c.if-c-lt-FIRST_FREE.true)

pub returns : goal.returns
unfolding bound_to pick
returns c = rw (le-ltb _ _ c.if-c-lt-FIRST_FREE.false) c.look_up.ensures
