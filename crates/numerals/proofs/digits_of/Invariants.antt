use Rattle.numerals.proofs.Reading.{Reading}
use Rattle.numerals.proofs.digits_of.Given as goal

abbrev pub invariant-loop-i : goal.invariant-loop-i
invariant-loop-i l = Reading l.bytes l.i l.value
