use mir.Facts.{to_z-of_z}
use mir.Syntax.{w64}
use Rattle.std.proofs.Common.{rules}
use Rattle.purses.specs.Meant.{entry_said}
use Rattle.purses.proofs.Single.{makes_store, makes_hand, makes_none}
use Rattle.purses.proofs.step_of.Goals as goal

pub returns-then-k-lt-RECORD_BYTES : goal.returns-then-k-lt-RECORD_BYTES
returns-then-k-lt-RECORD_BYTES c =
    makes_store (entry_said c.args.entry) c.args.place c.args.numbers.now c.args.k c.args.journal.now c.args.bank.now _ c.if-k-lt-RECORD_BYTES.true c.store_byte.ensures

pub returns-in_default : goal.returns-in_default
returns-in_default c =
    makes_none (entry_said c.args.entry) c.args.place c.args.numbers.now c.args.k c.args.journal.now c.args.bank.now c.if-k-lt-RECORD_BYTES.false c.in_default.ensures.lookup.0

pub returns : goal.returns
returns c =
    makes_hand (entry_said c.args.entry) c.args.place c.args.numbers.now c.args.k c.args.journal.now c.args.bank.now c.in-Some.number.now _ c.if-k-lt-RECORD_BYTES.false
    c.in-Some.ensures.lookup.0 c.in-Some.ensures.lookup.1 (to_z-of_z {w = w64} {z = c.in-Some.number.now} (search rules))
