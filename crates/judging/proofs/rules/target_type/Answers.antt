use Rattle.judge.specs.Rules.{target_type}
use Rattle.nodes.specs.Nodes.{some_node}
use Rattle.nodes.proofs.Found.{is_none, is_some, is_there}
use Rattle.judging.proofs.rules.target_type.Goals as goal

pub returns-in_err-b-clause-value : goal.returns-in_err-b-clause-value
unfolding target_type some_node
returns-in_err-b-clause-value c =
    rw (
      c.from_residual.ensures,
      ← c.env_at.ensures.value,
      ← c.child_at.ensures,
      ← c.place_at-place.ensures,
      is_none _ c.in_err-b.ensures,
    )

pub returns-clause-value : goal.returns-clause-value
unfolding target_type
returns-clause-value c =
    rw (
      ← c.env_at.ensures.value,
      ← c.child_at.ensures,
      ← c.place_at-place.ensures,
      is_there _ c.in_ok-b.ensures,
      ← is_some _ c.in_ok-b.ensures,
      c.ref_type.ensures.value,
    )
