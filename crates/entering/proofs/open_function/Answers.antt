use mathlib.Core.Path.{◌∙◌}
use Rattle.entering.proofs.Laws.{function_plain, function_named, function_other}
use Rattle.entering.proofs.open_function.Goals as goal

pub returns-in-1 : goal.returns-in-1
returns-in-1 c =
    record {
      by_index = (λ v k o. c.enter_call.ensures.by_index v k o ∙ function_plain _ _ _ _ _ _ _ _ c.node_of-node.ensures c.in-1.is _ c.env_of-env.ensures);
      units_value = c.enter_call.ensures.units_value;
    }

pub returns-in-2 : goal.returns-in-2
returns-in-2 c =
    record {
      by_index = (λ v k o. c.enter_named.ensures.by_index v k o ∙
          function_named _ _ _ _ _ _ _ _ c.node_of-node.ensures c.in-2.is _ _ c.next_at-result.ensures c.next_at-first.ensures);
      units_value = c.enter_named.ensures.units_value;
    }

pub returns-in_default : goal.returns-in_default
returns-in_default c =
    record {
      by_index = (λ v k o. c.open_procedure.ensures.by_index v k o ∙ function_other _ _ _ _ _ _ _ c.in_default.in_default-own.rest.0.1 c.in_default.in_default-own.rest.1);
      units_value = c.open_procedure.ensures.units_value;
    }
