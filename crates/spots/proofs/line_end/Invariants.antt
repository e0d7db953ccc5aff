use mathlib.Core.Path.{◌≡◌}
use Rattle.spots.specs.Lines.{end_of}
use Rattle.spots.proofs.line_end.Given as goal

abbrev pub invariant-loop-end : goal.invariant-loop-end
invariant-loop-end l = end_of l.text l.end ≡ end_of l.text l.place
