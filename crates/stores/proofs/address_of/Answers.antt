use borrow.Author.Tests.{eq-eqb, ne_eqb}
use Rattle.machine.specs.Entries.{pick}
use Rattle.machine.specs.Leaves.{address_of}
use Rattle.stores.proofs.Laws.{exit, end_passes}
use Rattle.stores.proofs.address_of.Goals as goal

pub returns-in_err-found : goal.returns-in_err-found
unfolding address_of pick
returns-in_err-found c = rw (exit _ _ c.from_residual.ensures.1, ← c.in_err-found.ensures) (end_passes _ _)

pub returns-then-found-eq-ADDRESS : goal.returns-then-found-eq-ADDRESS
unfolding address_of pick
returns-then-found-eq-ADDRESS c = rw (← c.in_ok-found.ensures, eq-eqb _ 5 c.if-found-eq-ADDRESS.true)

pub returns-else-found-eq-ADDRESS : goal.returns-else-found-eq-ADDRESS
unfolding address_of pick
returns-else-found-eq-ADDRESS c = rw (← c.in_ok-found.ensures, ne_eqb _ 5 c.if-found-eq-ADDRESS.false)
