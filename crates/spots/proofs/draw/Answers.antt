-- The bytes passed are drawn.
use Rattle.spots.specs.Shown.{drawn}
use Rattle.spots.proofs.Drawing.{drawing_first, drawing_more, drawing_done}
use Rattle.std.proofs.Common.{rules}
use Rattle.spots.proofs.draw.Goals as goal

pub loop-i-init : goal.loop-i-init
loop-i-init c =
    drawing_first c.args.text.now c.args.from c.args.to (drawn c.args.row) c.args.out.now c.args.n (search rules)

pub loop-i-preserved : goal.loop-i-preserved
loop-i-preserved c =
    drawing_more c.args.text.now c.args.from c.args.to (drawn c.args.row) c.args.out.now c.args.n
    (search rules) (search rules) c.loop-i.invariant c.drawn.ensures c.add-m.ensures

pub shape_of-out : goal.shape_of-out
shape_of-out c = c.loop-i.invariant.size

pub returns : goal.returns
returns c =
    drawing_done c.args.text.now c.args.from c.args.to (drawn c.args.row) c.args.out.now c.args.n c.loop-i-test.false c.loop-i.invariant
