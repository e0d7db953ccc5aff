use borrow.Author.Tests.{ne_eqb}
use Rattle.machine.specs.Entries.{pick}
use Rattle.coding.specs.Stack.{own_binder}
use Rattle.coding.proofs.own_binder.Goals as goal

pub returns-in-4 : goal.returns-in-4
unfolding own_binder pick
returns-in-4 c = rw c.in-4.is

pub returns-in-7 : goal.returns-in-7
unfolding own_binder pick
returns-in-7 c = rw c.in-7.is

pub returns-in-33 : goal.returns-in-33
unfolding own_binder pick
returns-in-33 c = rw c.in-33.is

pub returns-in_default : goal.returns-in_default
unfolding own_binder pick
returns-in_default c = rw (ne_eqb _ 4 c.in_default.in_default-own.rest.0.0.1, ne_eqb _ 7 c.in_default.in_default-own.rest.0.1, ne_eqb _ 33 c.in_default.in_default-own.rest.1)
