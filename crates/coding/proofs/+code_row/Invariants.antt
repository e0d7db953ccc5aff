-- The codes that are left fall.
use Prim.Native.Nat.{◌-◌}
use Rattle.coding.proofs.Rows.{Going}
use Rattle.coding.proofs.+code_row.Given as goal

abbrev pub decreases-code_row : goal.decreases-code_row
decreases-code_row l = 4096 - l.from

abbrev pub invariant-loop-i : goal.invariant-loop-i
invariant-loop-i l = Going l.text l.initial.prog l.initial.scopes l.base l.own l.first l.from l.prog l.scopes l.i l.depth l.at

abbrev pub decreases-loop-i : goal.decreases-loop-i
decreases-loop-i l = 4096 - l.at
