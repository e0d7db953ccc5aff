use Prim.Native.Nat.{◌-◌}
use mathlib.Core.Path.{◌≡◌}
use lib.ListN.{length}
use Rattle.judge.specs.Scopes.{named_from}
use Rattle.scopes.proofs.named_from.Given as goal

abbrev pub invariant-loop-step : goal.invariant-loop-step
invariant-loop-step l =
    named_from l.text l.tree l.scopes l.p (length l.tree - l._step) l.e ≡ named_from l.text l.tree l.scopes l.p (length l.tree) l.from
