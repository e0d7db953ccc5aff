use mathlib.Core.Path.{refl}
use Rattle.entering.proofs.Laws.{define_some, define_full}
use Rattle.entering.proofs.bind_name.Goals as goal

pub returns-then-taken-limit : goal.returns-then-taken-limit
returns-then-taken-limit c =
    record {
      w_after = (λ t v k w o. define_some _ _ _ _ _ _ c.if-taken-limit.true _ c.add_binding.ensures);
      units_value = refl;
    }

pub returns-else-taken-limit : goal.returns-else-taken-limit
returns-else-taken-limit c =
    record {
      w_after = (λ t v k w o. define_full _ _ _ _ _ _ c.if-taken-limit.false);
      units_value = refl;
    }
