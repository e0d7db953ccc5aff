use borrow.Author.Tests.{eq-eqb, ne_eqb}
use Rattle.machine.specs.Entries.{pick}
use Rattle.machine.specs.Leaves.{jump_from}
use Rattle.stores.proofs.jump_from.Goals as goal

pub returns-then-here-far : goal.returns-then-here-far
unfolding jump_from pick
returns-then-here-far c =
    rw (← c.jump_in-once.ensures, ← c.jump_in-twice.ensures, ← c.code_in-here.ensures.value, ← c.code_in-middle.ensures.value, ← c.code_in-far.ensures.value, eq-eqb _ _ c.if-here-far.true)

pub returns : goal.returns
unfolding jump_from pick
returns c =
    rw (← c.jump_in-once.ensures, ← c.jump_in-twice.ensures, ← c.code_in-here.ensures.value, ← c.code_in-middle.ensures.value, ← c.code_in-far.ensures.value, ne_eqb _ _ c.if-here-far.false)
