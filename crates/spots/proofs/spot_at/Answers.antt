-- The parts are found, and make the spot.
use native.Mathlib.Omega.{arith}
use Rattle.spots.proofs.Lines.{ends_le, start_le, spot_made}
use Rattle.spots.proofs.spot_at.Goals as goal

pub overflow_add-result : goal.overflow_add-result
overflow_add-result c =
    omega (arith, ends_le c.args.text.now c.min-place.result)

pub overflow_sub-result : goal.overflow_sub-result
overflow_sub-result c =
    omega (arith, start_le c.args.text.now c.min-place.result)

pub returns : goal.returns
returns c =
    spot_made c.args.text.now c.args.at c.min-place.result c.line_begin-ended.result.ended c.line_begin-ended.result.start
    c.line_end-end.result c.min-place.ensures c.line_begin-ended.ensures.0 c.line_begin-ended.ensures.1 c.line_end-end.ensures
