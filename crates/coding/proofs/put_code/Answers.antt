use Rattle.coding.specs.Pen.{stored}
use Rattle.std.proofs.Common.{rules}
use Rattle.coding.proofs.put_code.Goals as goal

pub returns : goal.returns
unfolding stored
returns c = search rules
