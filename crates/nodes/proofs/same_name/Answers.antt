-- The bytes that are compared are those of the two names.
use Rattle.nodes.proofs.Bytes.{compared}
use Rattle.std.proofs.Common.{rules}
use Rattle.nodes.proofs.same_name.Goals as goal

pub returns : goal.returns
returns c = search (rules, compared)
