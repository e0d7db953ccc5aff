use Prim.Native.Nat.{◌+◌, ◌-◌}
use mathlib.Core.Path.{◌≡◌}
use Rattle.machine.specs.Leaves.{bind_all_at}
use Rattle.entering.proofs.bind_all.Given as goal

abbrev pub invariant-loop-next : goal.invariant-loop-next
invariant-loop-next l =
    bind_all_at l.tree (l.k + l.fn.call.given - l.next) l.at l.from l.waiting l.next l.within l.bindings ≡
    bind_all_at l.tree l.fn.call.given l.q l.fn.call.first l.waiting l.k l.env l.initial.bindings
