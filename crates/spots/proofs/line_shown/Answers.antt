-- Marks, the bytes around the place, marks: at most 124 bytes.
use native.Mathlib.Omega.{arith}
use lib.Dec.{ltb}
use Rattle.spots.specs.Shown.{drawn}
use Rattle.spots.specs.declared.Row.TheVariants.{Line}
use Rattle.spots.proofs.Drawing.{marks_few, drawn_count, line_written}
use Rattle.spots.proofs.Lines.{lies}
use Rattle.std.proofs.Common.{rules}
use Rattle.spots.proofs.line_shown.Goals as goal

pub draw-m-requires : goal.draw-m-requires
draw-m-requires c =
    let l = lies c.args.text.now c.args.at c.spot_at-found.ensures in
    (omega arith, omega arith, omega (arith, marks_few (ltb c.spot_at-found.result.start c.shown_from-from.result) 46))

pub add_marks-requires : goal.add_marks-requires
add_marks-requires c =
    let l = lies c.args.text.now c.args.at c.spot_at-found.ensures in
    let k = drawn_count (drawn Line) c.args.text.now c.shown_from-from.result c.shown_to-to.result (omega arith) c.draw-m.ensures in
    omega (arith, marks_few (ltb c.spot_at-found.result.start c.shown_from-from.result) 46)

pub returns : goal.returns
returns c =
    line_written c.args.text.now c.args.at c.spot_at-found.ensures c.shown_from-from.ensures c.shown_to-to.ensures
    c.add_marks-n.ensures c.draw-m.ensures c.add_marks.ensures (search rules)
