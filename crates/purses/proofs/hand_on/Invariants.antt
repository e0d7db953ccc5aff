use Rattle.purses.proofs.Calls.{Handing}
use Rattle.purses.proofs.hand_on.Given as goal

abbrev pub invariant-loop-i : goal.invariant-loop-i
invariant-loop-i l = Handing l.numbers l.initial.bank l.bank l.i
