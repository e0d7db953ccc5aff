use borrow.Author.Tests.{eq-eqb, ne_eqb}
use Rattle.machine.specs.Entries.{pick}
use Rattle.machine.specs.Leaves.{jump_at}
use Rattle.stores.proofs.jump_in.Goals as goal

pub returns-then-env-eq0 : goal.returns-then-env-eq0
unfolding jump_at pick
returns-then-env-eq0 c = rw (eq-eqb _ 0 c.if-env-eq0.true)

pub returns : goal.returns
unfolding jump_at pick
returns c = rw (ne_eqb _ 0 c.if-env-eq0.false, ← c.binding_at-latest.ensures)
