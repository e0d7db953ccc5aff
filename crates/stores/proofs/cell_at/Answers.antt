use Rattle.machine.specs.Entries.{cell_at}
use Rattle.stores.proofs.cell_at.Goals as goal

pub returns : goal.returns
unfolding cell_at
returns c = rw (← c.row_at-row.ensures)
