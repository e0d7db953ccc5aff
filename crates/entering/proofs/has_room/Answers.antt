use Prim.Native.Nat.{◌+◌}
use mathlib.Core.Path.{sym, ◌∙◌}
use native.Mathlib.Omega.{arith}
use borrow.Author.Tests.{lt-leb}
use Rattle.entering.proofs.Laws.{room_some}
use Rattle.entering.proofs.has_room.Goals as goal

pub returns-then-taken-limit : goal.returns-then-taken-limit
returns-then-taken-limit c = room_some c.args.n c.args.taken c.args.limit c.if-taken-limit.true

pub returns-else-taken-limit : goal.returns-else-taken-limit
returns-else-taken-limit c = lt-leb _ _ c.if-taken-limit.false ∙ sym (lt-leb (c.args.n + c.args.taken) c.args.limit (omega arith))
