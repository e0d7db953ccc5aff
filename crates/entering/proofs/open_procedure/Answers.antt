use mathlib.Core.Path.{refl, ◌∙◌}
use Rattle.entering.proofs.Laws.{procedure_plain, procedure_named, procedure_none}
use Rattle.entering.proofs.open_procedure.Goals as goal

pub returns-in-3 : goal.returns-in-3
returns-in-3 c =
    record {
      by_index = (λ v k o. c.enter_call.ensures.by_index v k o ∙ procedure_plain _ _ _ _ _ _ _ _ c.node_of-node.ensures c.in-3.is _ c.env_of-env.ensures);
      units_value = c.enter_call.ensures.units_value;
    }

pub returns-in-4 : goal.returns-in-4
returns-in-4 c =
    record {
      by_index = (λ v k o. c.enter_named.ensures.by_index v k o ∙
          procedure_named _ _ _ _ _ _ _ _ c.node_of-node.ensures c.in-4.is _ _ c.next_at-behind.ensures c.behind_type-first.ensures);
      units_value = c.enter_named.ensures.units_value;
    }

pub returns-in_default : goal.returns-in_default
returns-in_default c =
    record {
      by_index = (λ v k o. procedure_none _ _ _ _ _ _ _ c.in_default.in_default-own.rest.0.1 c.in_default.in_default-own.rest.1);
      units_value = refl;
    }
