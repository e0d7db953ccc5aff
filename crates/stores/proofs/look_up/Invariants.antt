use Prim.Native.Nat.{◌-◌}
use mathlib.Core.Path.{◌≡◌}
use Rattle.machine.specs.Leaves.{walk}
use Rattle.stores.proofs.look_up.Given as goal

abbrev pub invariant-loop : goal.invariant-loop
invariant-loop l = walk l.bindings l.c (l.n - l.counter) l.at ≡ walk l.bindings l.c l.n l.env
