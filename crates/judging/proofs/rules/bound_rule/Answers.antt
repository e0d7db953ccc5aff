use Rattle.judge.specs.Rules.{bound_rule}
use Rattle.nodes.proofs.Found.{is_none, is_some, is_there}
use Rattle.judging.proofs.rules.bound_rule.Goals as goal

pub returns-in-Some : goal.returns-in-Some
unfolding bound_rule
returns-in-Some c =
    rw (
      ← c.place_at.ensures,
      ← c.env_at.ensures.value,
      is_there _ c.in-Some.ensures,
      ← is_some _ c.in-Some.ensures,
      c.read_type.ensures,
    )

pub returns-in-None : goal.returns-in-None
unfolding bound_rule
returns-in-None c = rw (← c.place_at.ensures, ← c.env_at.ensures.value, is_none _ c.in-None.ensures)
