use Rattle.machine.specs.Entries.{pick}
use Rattle.stores.specs.Choices.{bit_answer}
use Rattle.stores.proofs.bit_answer.Goals as goal

pub returns-then-is_bit : goal.returns-then-is_bit
unfolding bit_answer pick
returns-then-is_bit c = rw (← c.is_bit.ensures, c.if-is_bit.true)

pub returns-then-is_bit-2 : goal.returns-then-is_bit-2
unfolding bit_answer pick
returns-then-is_bit-2 c = rw (← c.is_bit.ensures, c.if-is_bit.false, ← c.is_bit-2.ensures, c.if-is_bit-2.true)

pub returns : goal.returns
unfolding bit_answer pick
returns c = rw (← c.is_bit.ensures, c.if-is_bit.false, ← c.is_bit-2.ensures, c.if-is_bit-2.false)
