use mathlib.Core.Path.{◌≡◌}
use Rattle.language.specs.Words.{name_at}
use Rattle.machine.specs.Program.{tree_in}
use Rattle.machine.specs.Codes.{level_among}
use Rattle.coding.specs.Stack.{names_in}
use Rattle.coding.specs.Coding.{script}
use Rattle.coding.proofs.level_of.Given as goal

abbrev pub invariant-loop-place : goal.invariant-loop-place
invariant-loop-place l = level_among (names_in (script (tree_in l.prog) l.text) l.scopes l.place) (name_at l.text l.p) ≡ level_among (names_in (script (tree_in l.prog) l.text) l.scopes l.depth) (name_at l.text l.p)
