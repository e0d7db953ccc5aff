use mathlib.Core.Path.{refl, ◌∙◌}
use Rattle.mahrullis.specs.PurseReports.{StepInto}
use Rattle.mahrullis.proofs.PurseWays.{step_into, yes_number}
use Rattle.mahrullis.proofs.calls.mahrullis_purse_step.Goals as goal

pub returns-in_default : goal.returns-in_default
returns-in_default c = StepInto.no_words c.in_default.len_below

pub returns : goal.returns
returns c =
    step_into c.args.pending.now c.args.k c.args.held.now c.args.journal.now c.args.bank.now _ _ _ _ _ c.step-made.result _ _ _ c.in-len5-up.len_at_least refl refl refl refl refl
    c.step-made.ensures (c.from.ensures ∙ yes_number c.step-made.result)
