use Rattle.coding.proofs.Stack.{no_push, one_push}
use Rattle.coding.proofs.push.Goals as goal

pub returns-in-Some : goal.returns-in-Some
returns-in-Some c = rw c.in-Some.is (one_push _ _ _ _ c.put.ensures)

pub returns-in-None : goal.returns-in-None
returns-in-None c = rw c.in-None.is (no_push _ _)
