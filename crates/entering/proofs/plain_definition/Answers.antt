use mathlib.Core.Logic.{inl, inr, ⊎_elim}
use mathlib.Core.Path.{refl, ◌∙◌}
use native.Mathlib.Omega.{arith}
use Rattle.entering.proofs.Laws.{defines_function, defines_named_function, defines_cell, defines_procedure, defines_named_procedure, defines_block, defines_named_block, defines_nothing}
use Rattle.entering.proofs.plain_definition.Goals as goal

pub returns-in-3 : goal.returns-in-3
returns-in-3 c =
    record {
      by_index = (λ v w o. c.bind_closure.ensures.w_after _ v _ w o ∙ defines_function _ _ _ _ _ c.node_at-name.ensures _ _ c.next_at-first.ensures refl c.in-3.is);
      units_value = c.bind_closure.ensures.units_value;
    }

pub returns-in-4 : goal.returns-in-4
returns-in-4 c =
    record {
      by_index = (λ v w o. c.bind_closure-in-4.ensures.w_after _ v _ w o ∙ defines_named_function _ _ _ _ _ refl c.in-4.is);
      units_value = c.bind_closure-in-4.ensures.units_value;
    }

pub returns-in-5 : goal.returns-in-5
returns-in-5 c =
    record {
      by_index = (λ v w o. c.bind_cell.ensures.by_index _ v w o ∙ defines_cell _ _ _ _ c.in-5.is);
      units_value = c.bind_cell.ensures.units_value;
    }

pub returns-in-6 : goal.returns-in-6
returns-in-6 c =
    record {
      by_index = (λ v w o. c.bind_closure-in-6.ensures.w_after _ v _ w o ∙ defines_procedure _ _ _ _ _ c.node_at-name.ensures c.in-6.is _ refl);
      units_value = c.bind_closure-in-6.ensures.units_value;
    }

pub returns-in-7 : goal.returns-in-7
returns-in-7 c =
    record {
      by_index = (λ v w o. c.bind_closure-in-7.ensures.w_after _ v _ w o ∙
          ⊎_elim (λ h. defines_named_procedure _ _ _ _ _ refl h) (λ h. defines_named_block _ _ _ _ _ refl h) c.in-7.is);
      units_value = c.bind_closure-in-7.ensures.units_value;
    }

pub returns-in-32 : goal.returns-in-32
returns-in-32 c =
    record {
      by_index = (λ v w o. c.bind_closure-in-32.ensures.w_after _ v _ w o ∙ defines_block _ _ _ _ _ c.node_at-name.ensures _ _ c.next_at-first-in-32.ensures refl c.in-32.is);
      units_value = c.bind_closure-in-32.ensures.units_value;
    }

pub returns-in_default : goal.returns-in_default
returns-in_default c =
    record {
      by_index = (λ v w o. defines_nothing _ _ _ _ (λ e. omega arith) (λ e. omega arith) (λ e. omega arith) (λ e. omega arith) (λ e. c.in_default.in_default-own.rest.0.1 (inl e))
          (λ e. omega arith) (λ e. c.in_default.in_default-own.rest.0.1 (inr e)));
      units_value = refl;
    }
