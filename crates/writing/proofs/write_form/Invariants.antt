use Prim.Native.Nat.{◌-◌}
use lib.ListN.{length}
use Rattle.writing.proofs.Turns.{Writing}
use Rattle.writing.proofs.write_form.Given as goal

abbrev pub invariant-loop-word : goal.invariant-loop-word
invariant-loop-word l = Writing l.text l.initial.page l.page l.at l.n

abbrev pub decreases-loop-word : goal.decreases-loop-word
decreases-loop-word l = length l.text - l.at
