use Rattle.judge.specs.Rules.{call_rule, called}
use Rattle.nodes.proofs.Found.{is_none, is_some}
use Rattle.judging.proofs.Laws.{not_root}
use Rattle.judging.proofs.rules.call_rule.Goals as goal

pub call_binder-requires : goal.call_binder-requires
call_binder-requires c = not_root _ c.in-Some.ensures

pub returns-in-Some : goal.returns-in-Some
unfolding call_rule
returns-in-Some c =
    rw (
      ← c.child_at-c.ensures,
      ← c.env_at.ensures.value,
      ← c.place_at.ensures,
      ← c.next_at.ensures,
      ← is_some _ c.in-Some.ensures,
      c.call_binder.ensures,
    )

pub returns-in-None : goal.returns-in-None
unfolding call_rule called
returns-in-None c =
    rw (← c.child_at-c.ensures, ← c.env_at.ensures.value, ← c.place_at.ensures, is_none _ c.in-None.ensures)
