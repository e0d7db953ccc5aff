use Rattle.machine.specs.Entries.{put_cell}
use Rattle.std.proofs.Common.{rules}
use Rattle.stores.proofs.put_cell.Goals as goal

pub returns : goal.returns
unfolding put_cell
returns c = search rules
