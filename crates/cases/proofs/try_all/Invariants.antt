-- The script stands in its room.
use Rattle.std.proofs.Common.{length, ◌≤◌}
use Rattle.cases.proofs.try_all.Given as goal

abbrev pub invariant-loop : goal.invariant-loop
invariant-loop g l = l.length ≤ length l.text
