use mathlib.Core.Path.{◌∙◌, subst}
use Rattle.entering.proofs.Laws.{opens_function, opens_procedure}
use Rattle.entering.specs.Opening.{StandsFor}
use Rattle.entering.proofs.open_value.Goals as goal

pub returns-in-Application : goal.returns-in-Application
returns-in-Application c =
    record {
      by_index = (λ f v k o stands. c.open_function.ensures.by_index v k o ∙ opens_function _ _ _ _ _ _ _ _ (subst (StandsFor f) c.in-Application.is stands));
      units_value = c.open_function.ensures.units_value;
    }

pub returns-in-Call : goal.returns-in-Call
returns-in-Call c =
    record {
      by_index = (λ f v k o stands. c.open_procedure.ensures.by_index v k o ∙ opens_procedure _ _ _ _ _ _ _ _ (subst (StandsFor f) c.in-Call.is stands));
      units_value = c.open_procedure.ensures.units_value;
    }
