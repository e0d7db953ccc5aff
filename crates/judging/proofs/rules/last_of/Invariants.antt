use Prim.Native.Nat.{◌-◌}
use mathlib.Core.Path.{◌≡◌}
use lib.ListN.{length}
use Rattle.judge.specs.Rules.{last_from}
use Rattle.judging.proofs.rules.last_of.Given as goal

abbrev pub invariant-loop-step : goal.invariant-loop-step
invariant-loop-step l = last_from l.tree (length l.tree - l._step) l.y ≡ last_from l.tree (length l.tree) l.first
