use Prim.Native.Nat.{◌+◌, ◌-◌}
use mathlib.Core.Path.{◌≡◌}
use Rattle.machine.specs.Entries.{put_cells}
use Rattle.stores.proofs.put_cells.Given as goal

abbrev pub invariant-loop-at : goal.invariant-loop-at
invariant-loop-at l = put_cells (l.k + l.n - l.at) l.cells l.at l.c ≡ put_cells l.n l.initial.cells l.k l.c
