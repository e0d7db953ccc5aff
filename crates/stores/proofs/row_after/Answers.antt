use Rattle.machine.specs.Entries.{row_after}
use Rattle.std.proofs.Common.{rules}
use Rattle.stores.proofs.row_after.Goals as goal

pub returns : goal.returns
unfolding row_after
returns c = search rules
