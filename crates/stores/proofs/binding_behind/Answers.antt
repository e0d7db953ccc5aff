use native.Mathlib.Numerals.{add-one}
use Rattle.machine.specs.Leaves.{binding_behind}
use Rattle.stores.proofs.binding_behind.Goals as goal

pub returns : goal.returns
unfolding binding_behind
returns c = rw (← c.code_in-before.ensures.value, ← c.jump_from-jump.ensures, add-one c.code_in-before.result)
