use Rattle.machine.specs.Entries.{pick}
use Rattle.stores.specs.Choices.{branch_of}
use Rattle.stores.proofs.branch.Goals as goal

pub returns-then-is_bit : goal.returns-then-is_bit
unfolding branch_of pick
returns-then-is_bit c = rw (← c.is_bit.ensures, c.if-is_bit.true)

pub returns-then-is_bit-2 : goal.returns-then-is_bit-2
unfolding branch_of pick
returns-then-is_bit-2 c =
    rw (← c.is_bit.ensures, c.if-is_bit.false, ← c.is_bit-2.ensures, c.if-is_bit-2.true, ← c.next_at.ensures)

pub returns : goal.returns
unfolding branch_of pick
returns c = rw (← c.is_bit.ensures, c.if-is_bit.false, ← c.is_bit-2.ensures, c.if-is_bit-2.false)
