use mathlib.Core.Path.{sym, ap, ◌∙◌}
use Prim.Native.Nat.{ℕ, suc, ◌+◌}
use native.Mathlib.Omega.{arith}
use lib.Dec.{leb}
use borrow.Author.Tests.{le-ltb, lt-leb}
use Rattle.entering.proofs.has_room_for_name.Goals as goal

pub returns-then-taken-limit : goal.returns-then-taken-limit
returns-then-taken-limit c = c.has_room.ensures ∙ ap (λ (j : ℕ). leb j c.args.limit) (omega arith)

pub returns-else-taken-limit : goal.returns-else-taken-limit
returns-else-taken-limit c = le-ltb _ _ c.if-taken-limit.false ∙ sym (lt-leb (suc c.args.n + c.args.taken) c.args.limit (omega arith))
