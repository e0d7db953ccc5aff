use borrow.Author.Tests.{ne_eqb}
use Rattle.judge.specs.Rules.{called}
use Rattle.nodes.proofs.Found.{is_none, is_there}
use Rattle.judging.proofs.rules.call_binder.Goals as goal

pub returns-in-Some : goal.returns-in-Some
unfolding called
returns-in-Some c =
    rw (
      ne_eqb _ 0 c.requires,
      ← c.kind_at.ensures,
      ← c.is_procedure.ensures,
      c.if-not-is_procedure.false,
      ← c.child_at.ensures,
      ← c.next_at.ensures,
      is_there _ c.in-Some.ensures,
    )

pub returns-in-None : goal.returns-in-None
unfolding called
returns-in-None c =
    rw (
      ne_eqb _ 0 c.requires,
      ← c.kind_at.ensures,
      ← c.is_procedure.ensures,
      c.if-not-is_procedure.false,
      ← c.child_at.ensures,
      ← c.next_at.ensures,
      is_none _ c.in-None.ensures,
    )
