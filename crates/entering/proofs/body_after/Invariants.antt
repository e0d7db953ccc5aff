use Prim.Native.Nat.{◌-◌}
use mathlib.Core.Path.{◌≡◌}
use Rattle.machine.specs.Leaves.{body_after}
use Rattle.entering.proofs.body_after.Given as goal

abbrev pub invariant-loop : goal.invariant-loop
invariant-loop l = body_after l.tree (l.n - l.counter) l.at ≡ body_after l.tree l.n l.q
