-- Blanks, and the caret: at most 63 bytes.
use native.Mathlib.Omega.{arith}
use lib.Dec.{ltb}
use Rattle.spots.specs.Shown.{drawn}
use Rattle.spots.specs.declared.Row.TheVariants.{Caret}
use Rattle.spots.proofs.Drawing.{marks_few, drawn_count, caret_written}
use Rattle.spots.proofs.Lines.{lies}
use Rattle.std.proofs.Common.{rules}
use Rattle.spots.proofs.caret_shown.Goals as goal

pub draw-m-requires : goal.draw-m-requires
draw-m-requires c =
    let l = lies c.args.text.now c.args.at c.spot_at-found.ensures in
    (omega arith, omega arith, omega (arith, marks_few (ltb c.spot_at-found.result.start c.shown_from-from.result) 32))

pub add-requires : goal.add-requires
add-requires c =
    let l = lies c.args.text.now c.args.at c.spot_at-found.ensures in
    let k = drawn_count (drawn Caret) c.args.text.now c.shown_from-from.result c.spot_at-found.result.place (omega arith) c.draw-m.ensures in
    omega (arith, marks_few (ltb c.spot_at-found.result.start c.shown_from-from.result) 32)

pub returns : goal.returns
returns c =
    caret_written c.args.text.now c.args.at c.spot_at-found.ensures c.shown_from-from.ensures
    c.add_marks-n.ensures c.draw-m.ensures c.add.ensures (search rules)
