use Rattle.std.proofs.Common.{rules, tests, ◌∙◌, eqb, take}
use Rattle.std.proofs.lemmas.Iterator.{YieldsList-from_slice}
use Rattle.std.proofs.lemmas.Iterator.Consumers.{count_from_yields_List}
use Rattle.std.proofs.lemmas.Iterator.Search.{YieldsList-from_take_while}
use Rattle.writing.proofs.Pieces.{zeros_counted}
use Rattle.writing.proofs.zeros_before.Goals as goal

pub returns : goal.returns
returns c =
    count_from_yields_List c.take_while.result _ c.count.ensures.ran
    (YieldsList-from_take_while _ (λ b. eqb b 48) (YieldsList-from_slice (take c.saturating_sub-last.result c.args.digits.now) cc)
    c.take_while.ensures.closure c.take_while.ensures.done (λ x b q k. search (rules, tests)))
    ∙ zeros_counted c.args.digits.now _ c.saturating_sub-last.ensures
