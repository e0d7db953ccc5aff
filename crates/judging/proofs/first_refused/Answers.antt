use mathlib.Core.Path.{◌∙◌, ap}
use Rattle.judging.specs.Flaws.{judgement}
use Rattle.judging.proofs.Laws.{both_passes}
use Rattle.judging.proofs.first_refused.Goals as goal

pub returns : goal.returns
returns c = c.judge.ensures.answer ∙ ap judgement (both_passes _ _ _ _ _ _ _ _ c.give_scopes.ensures c.judge.ensures.notes)
