use Prim.Native.Nat.{◌-◌}
use mathlib.Core.Path.{◌≡◌}
use lib.ListN.{length}
use Rattle.judge.specs.Scopes.{find_from}
use Rattle.scopes.proofs.find_binder.Given as goal

abbrev pub invariant-loop-step : goal.invariant-loop-step
invariant-loop-step l =
    find_from l.text l.tree l.scopes l.p (length l.tree - l._step) l.e ≡ find_from l.text l.tree l.scopes l.p (length l.tree) l.from
