use Rattle.machine.specs.Entries.{pick}
use Rattle.machine.specs.Leaves.{behind_type}
use Rattle.entering.proofs.behind_type.Goals as goal

pub returns-then-is_type : goal.returns-then-is_type
unfolding behind_type pick
returns-then-is_type c = rw (← c.node_at-n.ensures, ← c.is_type.ensures, c.if-is_type.true)

pub returns : goal.returns
unfolding behind_type pick
returns c = rw (← c.node_at-n.ensures, ← c.is_type.ensures, c.if-is_type.false)
