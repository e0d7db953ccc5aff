use Rattle.nodes.proofs.Fields.{child_small, next_small}
use Rattle.judging.proofs.Laws.{small}
use Rattle.judging.proofs.rules.ref_type.Goals as goal

pub returns-in-5-clause-upper_bound : goal.returns-in-5-clause-upper_bound
returns-in-5-clause-upper_bound c = small _ c.some_node.ensures (rw c.next_at.ensures (next_small _ _))

pub returns-in-14-clause-upper_bound : goal.returns-in-14-clause-upper_bound
returns-in-14-clause-upper_bound c = small _ c.some_node-in-14.ensures (rw c.child_at-in-14.ensures (child_small _ _))
