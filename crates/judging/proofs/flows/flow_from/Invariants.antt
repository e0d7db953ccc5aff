use Prim.Native.Nat.{◌-◌}
use mathlib.Core.Path.{◌≡◌}
use lib.ListN.{length}
use Rattle.judge.specs.Rules.{flow_from}
use Rattle.judging.proofs.flows.flow_from.Given as goal

abbrev pub invariant-loop-step : goal.invariant-loop-step
invariant-loop-step l = flow_from l.tree l.notes (length l.tree - l._step) l.so_far l.y ≡ flow_from l.tree l.notes (length l.tree) 0 l.first
