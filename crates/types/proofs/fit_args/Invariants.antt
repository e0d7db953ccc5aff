use Prim.Native.Nat.{◌-◌}
use mathlib.Core.Path.{◌≡◌}
use lib.ListN.{length}
use Rattle.judge.specs.Types.{fits_from}
use Rattle.types.proofs.fit_args.Given as goal

abbrev pub invariant-loop-step : goal.invariant-loop-step
invariant-loop-step l =
    fits_from l.tree l.notes (length l.tree - l._step) l.y l.z ≡ fits_from l.tree l.notes (length l.tree) l.part l.arg
