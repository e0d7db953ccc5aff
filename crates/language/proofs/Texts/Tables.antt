-- A table of cases holds when the rules compute what it says.
use mathlib.Core.Path.{◌≡◌}
use mathlib.Core.List.{List, [], ◌∷◌}
use Rattle.language.specs.Bytes.{bytes_of}
use Rattle.language.specs.Desk.{Case, AllHold}
use Rattle.language.proofs.Texts.Verdicts.{verdict, outcome, verdict_right}

abbrev pub AllComputed : List Case → Type 0
AllComputed [] = Unit {0}
AllComputed (c ∷ cs) = (outcome c.limits (bytes_of c.script) ≡ c.says) × AllComputed cs

pub computed_holds : (cs : List Case) → AllComputed cs → AllHold cs
unfolding outcome
computed_holds [] h = tt
computed_holds (c ∷ cs) h = ((verdict (bytes_of c.script), verdict_right (bytes_of c.script), h.0), computed_holds cs h.1)
