use native.Mathlib.Omega.{arith}
use Rattle.writing.proofs.Pieces.{zeros_within}
use Rattle.writing.proofs.skipped_behind.Goals as goal

pub overflow_add-result : goal.overflow_add-result
overflow_add-result c = omega (arith, c.zeros_before.ensures, zeros_within c.args.rest.now)
