use mathlib.Core.Path.{sym, ap, ◌∙◌}
use Rattle.machine.specs.Codes.{word_of_number}
use Rattle.coding.proofs.Numbers.{number_read, number_not}
use Rattle.coding.proofs.number_code.Goals as goal

pub returns-in-Some : goal.returns-in-Some
returns-in-Some c = c.word_of.ensures ∙ ap word_of_number (number_read _ _ _ (sym c.number_at.ensures ∙ c.in-Some.is))

pub returns-in-None : goal.returns-in-None
returns-in-None c = ap word_of_number (number_not _ _ (sym c.number_at.ensures ∙ c.in-None.is))
