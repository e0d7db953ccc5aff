-- The places of a text's words are below its length.
use Prim.Native.Nat.{ℕ, suc, ◌<◌, ◌≤◌}
use mathlib.Core.Path.{◌≡◌, ap}
use mathlib.Core.List.{List, [], ◌∷◌}
use native.Mathlib.Omega.{arith}
use lib.ListN.{length, drop, length-drop}
use Rattle.language.specs.Words.{Word, place_word}
use Rattle.language.proofs.Reading.Standing.{Stands}
use Rattle.language.proofs.Reading.Payload.{All}
use Rattle.nodes.proofs.Proper.{Low}

within_text : (text : List ℕ) (w : Word) → Stands text w → place_word w < length text
within_text text w h =
    let e : length (drop (place_word w) text) ≡ suc (length h.rest) = ap length h.there in
    let l = length-drop (place_word w) text in
    omega (arith, e, l)

pub low_places : (text : List ℕ) → length text ≤ 65536 → (ts : List Word) → All (Stands text) ts → All Low ts
low_places text l [] a = tt
low_places text l (w ∷ ts) a = let h = within_text text w a.0 in (omega arith, low_places text l ts a.1)
