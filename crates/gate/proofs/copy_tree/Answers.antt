use mathlib.Core.Path.{sym, ◌∙◌}
use native.Mathlib.Omega.{arith}
use lib.Seq.{length-take-le}
use Rattle.gate.proofs.copy_tree.Goals as goal

pub copy_from_slice-requires : goal.copy_from_slice-requires
copy_from_slice-requires c = length-take-le 4096 c.args.prog.now (omega arith) ∙ sym (length-take-le 4096 c.args.tree.now c.requires)
