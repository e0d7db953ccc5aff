use borrow.Author.Tests.{lt-ltb, le-ltb}
use Rattle.machine.specs.Entries.{pick}
use Rattle.machine.specs.Leaves.{name_value}
use Rattle.stores.specs.Choices.{truth_of}
use Rattle.stores.proofs.Laws.{exit, end_passes}
use Rattle.stores.proofs.name_value.Goals as goal

pub returns-then-c-lt-FIRST_FREE : goal.returns-then-c-lt-FIRST_FREE
unfolding name_value truth_of pick
returns-then-c-lt-FIRST_FREE c = rw (lt-ltb _ _ c.if-c-lt-FIRST_FREE.true) c.truth.ensures

pub returns-in_err-found : goal.returns-in_err-found
unfolding name_value pick
returns-in_err-found c =
    rw (exit _ _ c.from_residual.ensures.1, le-ltb _ _ c.if-c-lt-FIRST_FREE.false, ← c.in_err-found.ensures) (end_passes _ _)

pub returns : goal.returns
unfolding name_value pick
returns c = rw (le-ltb _ _ c.if-c-lt-FIRST_FREE.false, ← c.in_ok-found.ensures, c.read_through.ensures)
