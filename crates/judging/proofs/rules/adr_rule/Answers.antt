use Rattle.judge.specs.Rules.{adr_rule}
use Rattle.nodes.proofs.Found.{is_none, is_some, is_there}
use Rattle.judging.proofs.rules.adr_rule.Goals as goal

pub returns-in-Some : goal.returns-in-Some
unfolding adr_rule
returns-in-Some c = rw (is_there _ c.in-Some.ensures.value, ← is_some _ c.in-Some.ensures.value)

pub returns-in-None : goal.returns-in-None
unfolding adr_rule
returns-in-None c = rw (is_none _ c.in-None.ensures.value)
