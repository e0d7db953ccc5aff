use mathlib.Core.Path.{refl}
use Rattle.machine.specs.Entries.{env_of}
use Rattle.stores.proofs.env_of.Goals as goal

pub returns : goal.returns
unfolding env_of
returns c = refl
