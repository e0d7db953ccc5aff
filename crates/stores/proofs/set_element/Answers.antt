use mathlib.Core.Path.{refl, ◌∙◌}
use Rattle.stores.proofs.Laws.{exit, element_set, element_none, end_no_value}
use Rattle.stores.proofs.set_element.Goals as goal

pub returns-in_err-cell : goal.returns-in_err-cell
returns-in_err-cell c = λ b w o. rw (exit _ _ c.from_residual.ensures.1) (element_none _ _ _ _ _ _ _ c.in_err-cell.ensures (end_no_value _))

pub returns-in_err-store_cell : goal.returns-in_err-store_cell
returns-in_err-store_cell c = λ b w o. rw (exit _ _ c.from_residual-in_err-store_cell.ensures.1)
    (c.in_err-store_cell.ensures b w o _ ∙ element_set _ _ _ _ _ _ _ c.in_ok-cell.ensures _ _ refl)

pub returns : goal.returns
returns c = λ b w o. c.in_ok-store_cell.ensures b w o _ ∙ element_set _ _ _ _ _ _ _ c.in_ok-cell.ensures _ _ refl
