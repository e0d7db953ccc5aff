-- `nodes::meaning_at` meets its contract: the meaning is that of the name at the place.
use mathlib.Core.Path.{◌∙◌, ap}
use mathlib.Core.List.{List}
use Prim.Native.Nat.{ℕ}
use Rattle.language.specs.Names.{meaning}
use Rattle.nodes.specs.Names.{meaning_no}
use Rattle.nodes.proofs.meaning_at.Goals as goal

pub returns : goal.returns
returns c = c.meaning_of.ensures ∙ ap (λ (x : List ℕ). meaning_no (meaning x)) c.name_at.ensures.result_value
