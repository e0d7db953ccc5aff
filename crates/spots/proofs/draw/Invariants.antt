use Rattle.spots.specs.Shown.{drawn}
use Rattle.spots.proofs.Drawing.{Drawing}
use Rattle.spots.proofs.draw.Given as goal

abbrev pub invariant-loop-i : goal.invariant-loop-i
invariant-loop-i l = Drawing l.text l.from l.to (drawn l.row) l.initial.out l.n l.out l.m l.i
