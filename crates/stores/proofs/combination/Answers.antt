use borrow.Author.Tests.{eq-eqb, ne_eqb}
use Rattle.machine.specs.Entries.{pick}
use Rattle.machine.specs.Leaves.{combined}
use Rattle.stores.proofs.Laws.{kept}
use Rattle.stores.proofs.combination.Goals as goal

pub returns-then-operator-eq-NOT : goal.returns-then-operator-eq-NOT
unfolding combined pick
returns-then-operator-eq-NOT c = rw (eq-eqb _ 3 c.if-operator-eq-NOT.true)

pub returns-then-row-ne-NUMBER : goal.returns-then-row-ne-NUMBER
unfolding combined pick
returns-then-row-ne-NUMBER c = rw (ne_eqb _ 3 c.if-operator-eq-NOT.false, ne_eqb _ 0 c.if-row-ne-NUMBER.true)

pub returns-then-second-ne-NUMBER : goal.returns-then-second-ne-NUMBER
unfolding combined pick
returns-then-second-ne-NUMBER c = rw (ne_eqb _ 3 c.if-operator-eq-NOT.false, eq-eqb _ 0 c.if-row-ne-NUMBER.false, ne_eqb _ 0 c.if-second-ne-NUMBER.true)

pub returns : goal.returns
unfolding combined pick
returns c =
    rw (
      ne_eqb _ 3 c.if-operator-eq-NOT.false,
      eq-eqb _ 0 c.if-row-ne-NUMBER.false,
      eq-eqb _ 0 c.if-second-ne-NUMBER.false,
      ← kept c.from_word-a.result _ (record {
        sfits = c.from_word-a.type_inv;
      }) c.from_word-a.ensures,
      ← kept c.from_word-b.result _ (record { sfits = c.from_word-b.type_inv }) c.from_word-b.ensures,
      ← c.computed_by.ensures,
      c.given_for.ensures,
    )
