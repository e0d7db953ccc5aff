use Rattle.machine.specs.Leaves.{element_value}
use Rattle.stores.proofs.Laws.{exit, end_passes}
use Rattle.stores.proofs.element_value.Goals as goal

pub returns-in_err-cell : goal.returns-in_err-cell
unfolding element_value
returns-in_err-cell c = rw (exit _ _ c.from_residual.ensures.1, ← c.in_err-cell.ensures) (end_passes _ _)

pub returns : goal.returns
unfolding element_value
returns c = rw (← c.in_ok-cell.ensures, c.cell_value.ensures)
