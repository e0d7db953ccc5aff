use Prim.Native.Nat.{◌-◌}
use mathlib.Core.Path.{◌≡◌}
use lib.ListN.{length}
use Rattle.judge.specs.Types.{same, same_parts}
use Rattle.types.proofs.+same_type.Given as goal

abbrev pub decreases-same_type : goal.decreases-same_type
decreases-same_type l = l.levels

abbrev pub invariant-loop-step : goal.invariant-loop-step
invariant-loop-step l =
    same l.levels l.tree l.notes l.a l.b ≡ same_parts (same (l.levels - 1) l.tree l.notes) l.tree l.notes l.a l.b (length l.tree - l._step) l.y l.z
