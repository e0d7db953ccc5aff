use Rattle.judge.specs.Rules.{applied}
use Rattle.nodes.proofs.Found.{is_none, is_some, is_there}
use Rattle.judging.proofs.rules.apply.Goals as goal

pub returns-in-Some : goal.returns-in-Some
unfolding applied
returns-in-Some c =
    rw (
      ← c.note_kind.ensures,
      ← c.is_function.ensures,
      c.if-not-is_function.false,
      ← c.first_part.ensures,
      is_there _ c.in-Some.ensures,
      ← is_some _ c.in-Some.ensures,
      c.result_type.ensures,
    )

pub returns-in-None : goal.returns-in-None
unfolding applied
returns-in-None c =
    rw (
      ← c.note_kind.ensures,
      ← c.is_function.ensures,
      c.if-not-is_function.false,
      ← c.first_part.ensures,
      is_none _ c.in-None.ensures,
    )
