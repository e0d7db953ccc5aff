use Rattle.std.proofs.Common.{sym, ◌∙◌, [], ◌≡◌, arith}
use lib.ListN.{drop}
use Rattle.language.specs.Words.{is_digit, stretch}
use Rattle.numerals.proofs.Reading.{stretch_past, stretch_stops, first, more, count, value}
use Rattle.numerals.proofs.digits_of.Goals as goal

stops : (c : goal.Then-not-is_ascii_digit) → stretch is_digit (drop c.loop-i.i c.args.bytes.now) ≡ []
stops c = stretch_stops is_digit c.args.bytes.now c.loop-i.i c.loop-i-test.true (sym c.is_ascii_digit.ensures.value ∙ c.if-not-is_ascii_digit.true)

past : (c : goal.After-loop-i) → stretch is_digit (drop c.loop-i.i c.args.bytes.now) ≡ []
past c = stretch_past is_digit c.args.bytes.now c.loop-i.i c.loop-i-test.false

pub loop-i-init : goal.loop-i-init
loop-i-init c = first c.args.bytes.now

pub returns-then-not-is_ascii_digit-clause-count : goal.returns-then-not-is_ascii_digit-clause-count
returns-then-not-is_ascii_digit-clause-count c = count c.args.bytes.now c.loop-i.i c.loop-i.value c.loop-i.invariant (stops c)

pub returns-then-not-is_ascii_digit-clause-value : goal.returns-then-not-is_ascii_digit-clause-value
returns-then-not-is_ascii_digit-clause-value c = value c.args.bytes.now c.loop-i.i c.loop-i.value c.loop-i.invariant (stops c)

pub loop-i-preserved : goal.loop-i-preserved
loop-i-preserved c =
    rw c.with_digit-value.ensures
    (more c.args.bytes.now c.loop-i.i c.loop-i.value c.loop-i.invariant c.loop-i-test.true (sym c.is_ascii_digit.ensures.value ∙ c.if-not-is_ascii_digit.false))

pub returns-clause-count : goal.returns-clause-count
returns-clause-count c =
    omega (arith, c.loop-i.auto.i-end, c.loop-i-test.false, count c.args.bytes.now c.loop-i.i c.loop-i.value c.loop-i.invariant (past c))

pub returns-clause-value : goal.returns-clause-value
returns-clause-value c = value c.args.bytes.now c.loop-i.i c.loop-i.value c.loop-i.invariant (past c)
