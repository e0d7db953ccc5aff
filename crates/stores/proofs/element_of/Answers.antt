use borrow.Author.Tests.{lt-ltb, le-ltb, eq-eqb, ne_eqb}
use Rattle.machine.specs.Entries.{pick}
use Rattle.machine.specs.Leaves.{element_of}
use Rattle.stores.proofs.Laws.{sum_fits}
use Rattle.std.proofs.Common.{rules}
use Rattle.stores.proofs.element_of.Goals as goal

pub returns-then-block-ne-BLOCK : goal.returns-then-block-ne-BLOCK
unfolding element_of pick
returns-then-block-ne-BLOCK c = rw (ne_eqb _ 9 c.if-block-ne-BLOCK.true)

pub returns-then-index-ne-NUMBER : goal.returns-then-index-ne-NUMBER
unfolding element_of pick
returns-then-index-ne-NUMBER c = rw (eq-eqb _ 9 c.if-block-ne-BLOCK.false, ne_eqb _ 0 c.if-index-ne-NUMBER.true)

pub returns-then-index-length : goal.returns-then-index-length
unfolding element_of pick
returns-then-index-length c = rw (eq-eqb _ 9 c.if-block-ne-BLOCK.false, eq-eqb _ 0 c.if-index-ne-NUMBER.false, ← c.env_of-length.ensures, le-ltb _ _ c.if-index-length.true)

pub overflow_add-at : goal.overflow_add-at
overflow_add-at c = record { fits = sum_fits _ _ _ _ (search rules) c.node_of-first.ensures c.env_of-length.ensures c.if-index-length.false }

pub returns : goal.returns
unfolding element_of pick
returns c =
    rw (eq-eqb _ 9 c.if-block-ne-BLOCK.false, eq-eqb _ 0 c.if-index-ne-NUMBER.false, ← c.env_of-length.ensures, lt-ltb _ _ c.if-index-length.false, ← c.node_of-first.ensures)
