use mathlib.Core.Path.{sym}
use Prim.Native.Nat.{◌*◌}
use lib.ListN.{drop}
use Rattle.std.specs.Prelude.{Some}
use Rattle.purses.proofs.Laws.{told, entered_on, reading_more, reading_done}
use Rattle.purses.proofs.read_back.Goals as goal

pub loop-place-preserved : goal.loop-place-preserved
loop-place-preserved c =
    let P = c.loop-place.purses in
    let i = c.loop-place.place * 8 in
    let Q = c.read_record.new.purses in
    reading_more c.args.journal.now _ _ _ c.loop-place.invariant _ c.loop-place-test.true c.read_record.auto.purses
    (entered_on P (drop i c.args.journal.now) Q c.in-Some.entered (sym c.if-is_err.ensures.value) (told (Some c.in-Some.entered) P c.args.journal.now i Q c.in-Some.ensures))

pub returns : goal.returns
returns c = reading_done _ _ _ _ c.loop-place.invariant c.loop-place-test.false
