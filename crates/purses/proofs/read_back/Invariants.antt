use Rattle.purses.proofs.Laws.{Reading}
use Rattle.purses.proofs.read_back.Given as goal

abbrev pub invariant-loop-place : goal.invariant-loop-place
invariant-loop-place l = Reading l.journal l.end l.purses l.place
