use mathlib.Core.Path.{ap, ◌∙◌}
use mir.Facts.{to_z-of_z}
use borrow.Author.Tests.{ne_eqb}
use Rattle.machine.specs.Entries.{pick}
use Rattle.machine.specs.Leaves.{computed_by}
use Rattle.stores.proofs.Laws.{kept}
use Rattle.language.specs.Numbers.{amount, bit}
use Rattle.stores.proofs.computed_by.Goals as goal

pub returns-in-4 : goal.returns-in-4
unfolding computed_by pick
returns-in-4 c =
    rw c.in-4.is (ap amount (kept c.bit_of.result _ (record { sfits = c.bit_of.type_inv }) (c.bit_of.ensures ∙ ap bit (rw (
      to_z-of_z c.ranges.a,
      to_z-of_z c.ranges.b,
    ) at c.eq.ensures))))

pub returns-in-5 : goal.returns-in-5
unfolding computed_by pick
returns-in-5 c =
    rw c.in-5.is (ap amount (kept c.bit_of-in-5.result _ (record { sfits = c.bit_of-in-5.type_inv }) (c.bit_of-in-5.ensures ∙ ap bit (rw (
      to_z-of_z c.ranges.a,
      to_z-of_z c.ranges.b,
    ) at c.lt.ensures))))

pub returns-in-6 : goal.returns-in-6
unfolding computed_by pick
returns-in-6 c = rw (c.in-6.is, c.add.ensures, to_z-of_z c.ranges.a, to_z-of_z c.ranges.b)

pub returns-in-7 : goal.returns-in-7
unfolding computed_by pick
returns-in-7 c = rw (c.in-7.is, c.sub.ensures, to_z-of_z c.ranges.a, to_z-of_z c.ranges.b)

pub returns-in-8 : goal.returns-in-8
unfolding computed_by pick
returns-in-8 c = rw (c.in-8.is, c.mul.ensures, to_z-of_z c.ranges.a, to_z-of_z c.ranges.b)

pub returns-in_default : goal.returns-in_default
unfolding computed_by pick
returns-in_default c =
    rw (
      ne_eqb _ 4 c.in_default.in_default-own.rest.0.0.0.0.1,
      ne_eqb _ 5 c.in_default.in_default-own.rest.0.0.0.1,
      ne_eqb _ 6 c.in_default.in_default-own.rest.0.0.1,
      ne_eqb _ 7 c.in_default.in_default-own.rest.0.1,
      ne_eqb _ 8 c.in_default.in_default-own.rest.1,
      c.div.ensures,
      to_z-of_z c.ranges.a,
      to_z-of_z c.ranges.b,
    )
