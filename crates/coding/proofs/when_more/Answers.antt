use borrow.Author.Tests.{eq-eqb, ne_eqb}
use Rattle.machine.specs.Entries.{pick}
use Rattle.coding.specs.Stack.{when_more}
use Rattle.coding.proofs.when_more.Goals as goal

pub returns-then-next-eq0 : goal.returns-then-next-eq0
unfolding when_more pick
returns-then-next-eq0 c = rw (eq-eqb _ 0 c.if-next-eq0.true)

pub returns-else-next-eq0 : goal.returns-else-next-eq0
unfolding when_more pick
returns-else-next-eq0 c = rw (ne_eqb _ 0 c.if-next-eq0.false)
