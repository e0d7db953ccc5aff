use Rattle.entering.proofs.bind_closure.Goals as goal

pub returns : goal.returns
returns c =
    record {
      w_after = (λ t v k w o. rw (← c.closure_word-word.ensures) (c.bind_name.ensures.w_after t v k w o));
      units_value = c.bind_name.ensures.units_value;
    }
