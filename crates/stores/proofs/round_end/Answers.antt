use Rattle.machine.specs.Entries.{pick}
use Rattle.stores.specs.Choices.{round_end}
use Rattle.stores.proofs.round_end.Goals as goal

pub returns-then-is_bit : goal.returns-then-is_bit
unfolding round_end pick
returns-then-is_bit c = λ env. rw (← c.is_bit.ensures, c.if-is_bit.true)

pub returns : goal.returns
unfolding round_end pick
returns c = λ env. rw (← c.is_bit.ensures, c.if-is_bit.false)
