use mathlib.Core.Path.{refl, ◌∙◌}
use Rattle.entering.proofs.Laws.{cell_some, cell_full}
use Rattle.entering.proofs.bind_cell.Goals as goal

pub returns-then-taken-limit : goal.returns-then-taken-limit
returns-then-taken-limit c =
    record {
      by_index = (λ t v w o. c.bind_name.ensures.w_after t v _ w o ∙ cell_some _ _ _ _ c.if-taken-limit.true _ _ c.fresh_cell.ensures c.put_cell.ensures);
      units_value = c.bind_name.ensures.units_value;
    }

pub returns-else-taken-limit : goal.returns-else-taken-limit
returns-else-taken-limit c =
    record {
      by_index = (λ t v w o. cell_full _ _ _ _ c.if-taken-limit.false);
      units_value = refl;
    }
