use Rattle.std.proofs.Common.{arith}
use Rattle.language.specs.Words.{is_digit, stretch}
use Rattle.numerals.proofs.Reading.{taken_long, written_some}
use Rattle.numerals.proofs.written_at.Goals as goal

pub overflow_add-result : goal.overflow_add-result
overflow_add-result c = record { fits = omega (arith, c.requires, c.digits_of-digits.ensures.count, taken_long is_digit c.args.bytes.now) }

pub returns : goal.returns
returns c =
    written_some c.args.from c.args.negative (stretch is_digit c.args.bytes.now) c.digits_of-digits.result.count c.digits_of-digits.result.value
    c.digits_of-digits.ensures.count c.if-digits-eq0.false c.digits_of-digits.ensures.value c.join.result c.join.ensures
