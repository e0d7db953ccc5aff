use Prim.Native.Nat.{◌-◌}
use mathlib.Core.Path.{◌≡◌}
use lib.ListN.{length}
use Rattle.judge.specs.Judge.{fine_from}
use Rattle.judging.proofs.notes.all_fine.Given as goal

abbrev pub invariant-loop-step : goal.invariant-loop-step
invariant-loop-step l = fine_from l.tree l.notes (length l.tree - l._step) l.y ≡ fine_from l.tree l.notes (length l.tree) l.first
