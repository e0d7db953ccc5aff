use Rattle.judge.specs.Rules.{set_rule}
use Rattle.nodes.proofs.Found.{is_none, is_some, is_there}
use Rattle.judging.proofs.rules.set_rule.Goals as goal

pub returns-in-Some : goal.returns-in-Some
unfolding set_rule
returns-in-Some c =
    rw (
      is_there _ c.in-Some.ensures.value,
      ← is_some _ c.in-Some.ensures.value,
      ← c.child_at.ensures,
      ← c.next_at.ensures,
      ← c.entry-given.ensures,
      ← c.same_type.ensures,
      c.if-same_type.true,
    )

pub returns-in_default : goal.returns-in_default
unfolding set_rule
returns-in_default c =
    rw (
      is_there _ c.in-Some.ensures.value,
      ← is_some _ c.in-Some.ensures.value,
      ← c.child_at.ensures,
      ← c.next_at.ensures,
      ← c.entry-given.ensures,
      ← c.same_type.ensures,
      c.if-same_type.false,
    )

pub returns-in_default-2 : goal.returns-in_default-2
unfolding set_rule
returns-in_default-2 c = rw (is_none _ c.in_default.ensures.value)
