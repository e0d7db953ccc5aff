use Rattle.std.proofs.Common.{◌≡◌, drop}
use Rattle.parsing.specs.Steps.{found}
use Rattle.parsing.proofs.rules.find.Given as goal

abbrev pub invariant-loop-packed : goal.invariant-loop-packed
invariant-loop-packed l = found l.kind l.rules ≡ found l.kind (drop l.packed-index l.rules)
