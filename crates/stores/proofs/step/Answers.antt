use borrow.Author.Tests.{le-leb, lt-leb}
use Rattle.machine.specs.Entries.{pick}
use Rattle.stores.specs.Choices.{outward}
use Rattle.stores.proofs.step.Goals as goal

pub returns-then-c-far : goal.returns-then-c-far
unfolding outward pick
returns-then-c-far c = rw (← c.code_in-far.ensures.value, le-leb _ _ c.if-c-far.true)

pub returns : goal.returns
unfolding outward pick
returns c = rw (← c.code_in-far.ensures.value, lt-leb _ _ c.if-c-far.false)
