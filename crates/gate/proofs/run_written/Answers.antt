use Rattle.std.proofs.Common.{rules}
use Rattle.gate.proofs.run_written.Goals as goal

pub run_coded-requires : goal.run_coded-requires
run_coded-requires c = (c.requires, search rules)

pub returns : goal.returns
returns c = c.run_coded.ensures
