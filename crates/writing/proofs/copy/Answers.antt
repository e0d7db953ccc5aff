use native.Mathlib.Omega.{arith}
use mathlib.Core.Path.{refl}
use Rattle.writing.proofs.Pieces.{copied_there}
use Rattle.writing.proofs.copy.Goals as goal

pub returns : goal.returns
returns c = (refl, copied_there _ _ _ _ _ c.copy_from_slice.ensures.after (omega arith) c.requires)
