use Prim.Native.Nat.{◌-◌}
use lib.ListN.{length}
use Rattle.writing.proofs.Turns.{Counting}
use Rattle.writing.proofs.form_length.Given as goal

abbrev pub invariant-loop-word : goal.invariant-loop-word
invariant-loop-word l = Counting l.text l.at l.n

abbrev pub decreases-loop-word : goal.decreases-loop-word
decreases-loop-word l = length l.text - l.at
