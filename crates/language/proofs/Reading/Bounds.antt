-- The machine that stops at the first word past the deepest level: what the code's loop computes. Nothing here is believed.
use mathlib.Core.Bool.{cond}
use mathlib.Core.List.{List, [], ◌∷◌}
use mathlib.Core.Option.{none, some}
use Prim.Native.Nat.{ℕ, suc}
use lib.Dec.{ltb}
use lib.ListN.{length}
use Rattle.language.specs.Syntax.{Block}
use Rattle.language.specs.Answers.{SYNTAX, LEVEL, Result, refuse}
use Rattle.language.specs.Words.{Word, place_word}
use Rattle.language.specs.Table.{Node}
use Rattle.language.specs.Levels.{deepest}
use Rattle.language.specs.Reading.{place_in}
use Rattle.language.proofs.Reading.Machine.{tag, Ctx, Entry, ent, act, opened, places, follow, Rule, rule, rules, pick}
use Rattle.language.proofs.Reading.Descent.{tree_of}
use Rattle.language.proofs.Reading.Reader.{accept}

-- all read, with the table; or stopped at the first of these words, as wrong or as too deep
pub data End : Type 0 where
  finished : List Node → End
  wrong too_deep : List Word → End

abbrev pub fire_b : Rule → Word → List Word → (q : ℕ) (u : Ctx) → List Entry → List Node → (List Entry → List Node → End) → End
fire_b (rule j a ps ns) x ts q u s t go =
    cond (ltb deepest (opened ps u)) (too_deep (x ∷ ts)) (go (places ps (suc (length t)) q u (follow ns (suc (length t)) u s)) (act a (place_word x) q u t))

unfoldable pub bounded : List Word → List Entry → List Node → End
bounded [] [] t = finished t
bounded [] (e ∷ s) t = wrong []
bounded (x ∷ ts) [] t = wrong (x ∷ ts)
bounded (x ∷ ts) (ent X q u ∷ s) t = elim (pick (tag x) (rules X)) [ none ↦ wrong (x ∷ ts) | some ρ ↦ fire_b ρ x ts q u s t (λ s' t'. bounded ts s' t') ]

-- the answer of its end
abbrev pub answer_of : List ℕ → List Word → End → (Result Block)
answer_of s ts (finished t) = accept (tree_of ts)
answer_of s ts (wrong rest) = refuse SYNTAX (place_in s rest)
answer_of s ts (too_deep rest) = refuse LEVEL (place_in s rest)
