use borrow.Author.Tests.{eq-eqb, ne_eqb, lt-ltb, le-ltb, lt-leb}
use Rattle.machine.specs.Entries.{pick}
use Rattle.machine.specs.Leaves.{is_type}
use Rattle.entering.proofs.is_type.Goals as goal

pub returns-then-kind-eq-VEC : goal.returns-then-kind-eq-VEC
unfolding is_type pick
returns-then-kind-eq-VEC c = rw (eq-eqb _ 26 c.if-kind-eq-VEC.true)

pub returns-then-kind-ge-BOOL : goal.returns-then-kind-ge-BOOL
unfolding is_type pick
returns-then-kind-ge-BOOL c = rw (ne_eqb _ 26 c.if-kind-eq-VEC.false, le-ltb _ _ c.if-kind-ge-BOOL.true)

pub returns-else-kind-ge-BOOL : goal.returns-else-kind-ge-BOOL
unfolding is_type pick
returns-else-kind-ge-BOOL c = rw (ne_eqb _ 26 c.if-kind-eq-VEC.false, lt-ltb _ _ c.if-kind-ge-BOOL.false, lt-leb _ _ c.if-kind-ge-BOOL.false)
