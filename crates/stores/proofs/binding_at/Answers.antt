use Rattle.machine.specs.Entries.{binding_at}
use Rattle.stores.proofs.binding_at.Goals as goal

pub returns : goal.returns
unfolding binding_at
returns c = rw (← c.row_at-row.ensures)
