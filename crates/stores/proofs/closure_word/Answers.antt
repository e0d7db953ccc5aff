use mathlib.Core.Path.{refl}
use Rattle.machine.specs.Entries.{closure_word}
use Rattle.stores.proofs.closure_word.Goals as goal

pub returns : goal.returns
unfolding closure_word
returns c = refl
