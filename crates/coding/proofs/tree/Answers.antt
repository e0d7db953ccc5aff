-- `coding::tree` meets its contract: the tree is the program's first words.
use mathlib.Core.Path.{refl}
use Rattle.machine.specs.Program.{tree_in}
use Rattle.coding.proofs.tree.Goals as goal

pub returns : goal.returns
unfolding tree_in
returns c = refl
