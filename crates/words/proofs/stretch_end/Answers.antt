-- what is left of the stretch ends where it ends
use Rattle.std.proofs.Common.{ap, arith, rules, length}
use Rattle.numerals.proofs.Reading.{stretch_past}
use Rattle.words.proofs.stretch_end.Goals as goal

pub returns : goal.returns
returns g c = λ p t. let h = c.loop-end.invariant p t in omega (arith, ap length (stretch_past p c.args.text.now c.loop-end.end (search rules)), h)
