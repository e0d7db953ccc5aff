use mathlib.Core.Path.{ap, ◌∙◌}
use Rattle.machine.specs.Entries.{pick}
use Rattle.machine.specs.declared.Ending.TheVariants.{Value}
use Rattle.stores.proofs.Laws.{exit, plain_kind, plain_none}
use Rattle.stores.specs.Choices.{plain_by}
use Rattle.stores.proofs.plain_value.Goals as goal

pub returns-in-18 : goal.returns-in-18
unfolding plain_by pick
returns-in-18 c = plain_kind _ _ _ _ _ _ _ 18 c.in-18.is

pub returns-in-19 : goal.returns-in-19
unfolding plain_by pick
returns-in-19 c = c.name_value.ensures ∙ plain_kind _ _ _ _ _ _ _ 19 c.in-19.is

pub returns-in-24 : goal.returns-in-24
unfolding plain_by pick
returns-in-24 c = ap (Value 1) c.closure_word.ensures ∙ plain_kind _ _ _ _ _ _ _ 24 c.in-24.is

pub returns-in_err-address_of-in-25 : goal.returns-in_err-address_of-in-25
unfolding plain_by pick
returns-in_err-address_of-in-25 c =
    rw (exit _ _ c.from_residual.ensures.1, c.in_err-address_of-in-25.ensures, c.entry.ensures) (plain_kind _ _ _ _ _ _ _ 25 c.in-25.is)

pub returns-in_ok-address_of-in-25 : goal.returns-in_ok-address_of-in-25
unfolding plain_by pick
returns-in_ok-address_of-in-25 c = rw (c.in_ok-address_of-in-25.ensures, c.entry.ensures) (plain_kind _ _ _ _ _ _ _ 25 c.in-25.is)

pub returns-in_default : goal.returns-in_default
returns-in_default c = plain_none _ _ _ _ _ _ _ c.in_default.in_default-own.rest.0.0.0.1 c.in_default.in_default-own.rest.0.0.1 c.in_default.in_default-own.rest.0.1 c.in_default.in_default-own.rest.1
