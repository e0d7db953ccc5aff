use mathlib.Core.Path.{◌≡◌}
use Rattle.spots.specs.Lines.{ends_before, start_of}
use Rattle.spots.proofs.line_begin.Given as goal

abbrev pub invariant-loop-i : goal.invariant-loop-i
invariant-loop-i l = (l.ended ≡ ends_before l.text l.i) × (l.start ≡ start_of l.text l.i)
