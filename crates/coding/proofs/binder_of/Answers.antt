use borrow.Author.Tests.{eq-eqb, ne_eqb, lt-ltb, le-ltb}
use Rattle.machine.specs.Entries.{pick}
use Rattle.machine.specs.Leaves.{is_param}
use Rattle.coding.specs.Stack.{binder_of}
use Rattle.coding.proofs.binder_of.Goals as goal

pub returns-then-kind-lt-CONST : goal.returns-then-kind-lt-CONST
unfolding binder_of pick
returns-then-kind-lt-CONST c = rw (lt-ltb _ 2 c.if-kind-lt-CONST.true)

pub returns-then-kind-lt-ECHO : goal.returns-then-kind-lt-ECHO
unfolding binder_of pick
returns-then-kind-lt-ECHO c = rw (le-ltb _ 2 c.if-kind-lt-CONST.false, lt-ltb _ 8 c.if-kind-lt-ECHO.true)

pub returns-then-kind-eq-PARAMETER : goal.returns-then-kind-eq-PARAMETER
unfolding binder_of is_param pick
returns-then-kind-eq-PARAMETER c = rw (le-ltb _ 2 c.if-kind-lt-CONST.false, le-ltb _ 8 c.if-kind-lt-ECHO.false, eq-eqb _ 13 c.if-kind-eq-PARAMETER.true)

pub returns-then-kind-eq-VAR_PARAMETER : goal.returns-then-kind-eq-VAR_PARAMETER
unfolding binder_of is_param pick
returns-then-kind-eq-VAR_PARAMETER c = rw (le-ltb _ 2 c.if-kind-lt-CONST.false, le-ltb _ 8 c.if-kind-lt-ECHO.false, ne_eqb _ 13 c.if-kind-eq-PARAMETER.false, eq-eqb _ 14 c.if-kind-eq-VAR_PARAMETER.true)

pub returns-then-kind-lt-FUN_BLOCK : goal.returns-then-kind-lt-FUN_BLOCK
unfolding binder_of is_param pick
returns-then-kind-lt-FUN_BLOCK c = rw (le-ltb _ 2 c.if-kind-lt-CONST.false, le-ltb _ 8 c.if-kind-lt-ECHO.false, ne_eqb _ 13 c.if-kind-eq-PARAMETER.false, ne_eqb _ 14 c.if-kind-eq-VAR_PARAMETER.false, lt-ltb _ 32 c.if-kind-lt-FUN_BLOCK.true)

pub returns : goal.returns
unfolding binder_of is_param pick
returns c = rw (le-ltb _ 2 c.if-kind-lt-CONST.false, le-ltb _ 8 c.if-kind-lt-ECHO.false, ne_eqb _ 13 c.if-kind-eq-PARAMETER.false, ne_eqb _ 14 c.if-kind-eq-VAR_PARAMETER.false, le-ltb _ 32 c.if-kind-lt-FUN_BLOCK.false)
