use native.Mathlib.Omega.{arith}
use Rattle.gate.proofs.Programs.{programmed}
use Rattle.gate.proofs.write_program.Goals as goal

pub returns : goal.returns
returns c = programmed _ _ _ _ _ _ c.requires c.copy_tree.ensures (omega arith) c.write_codes.ensures
