use Rattle.nodes.proofs.Found.{tested}
use Rattle.nodes.proofs.some_node.Goals as goal

pub returns : goal.returns
returns c = rw c.then_some.ensures (tested c.args.i)
