use mathlib.Core.Path.{refl}
use Rattle.machine.specs.Entries.{node_of}
use Rattle.stores.proofs.node_of.Goals as goal

pub returns : goal.returns
unfolding node_of
returns c = refl
