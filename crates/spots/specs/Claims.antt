-- What is claimed of the two rows: a log may hold them, and the caret stands under the place.
use Rattle.std.specs.Prelude.{ℕ, ◌+◌, ◌-◌, ◌≤◌, ◌<◌, ◌≡◌, ◌⊎◌, List, [], ◌∷◌, ◌++◌, map, ltb, length, take, get_or}
use Rattle.spots.specs.declared.Spot.{Spot}
use Rattle.spots.specs.Lines.{spot_of}
use Rattle.spots.specs.Shown.{shown, under, from_of, marks, line_shown, caret_shown}

-- a tab, or a byte that prints
abbrev pub Plain : ℕ → Type 0
Plain b = (b ≡ 9) ⊎ ((32 ≤ b) × (b ≤ 126))

abbrev pub AllPlain : List ℕ → Type 0
AllPlain [] = Unit {0}
AllPlain (b ∷ l) = Plain b × AllPlain l

-- Of any text and any place, both rows hold only bytes that print, and tabs.
abbrev pub RowsPlain : Type 0
RowsPlain = (text : List ℕ) (at : ℕ) → AllPlain (line_shown text at) × AllPlain (caret_shown text at)

-- how many bytes of the shown line stand before the place
abbrev pub shown_before : Spot → ℕ
shown_before s = let from = from_of s.start s.place in length (marks (ltb s.start from) 46) + (s.place - from)

-- Before the caret stands what stands before the place, tabs as tabs and all else as spaces: it is as far to the right, however wide tabs are.
abbrev pub CaretUnder : Type 0
CaretUnder = (text : List ℕ) (at : ℕ) → caret_shown text at ≡ map under (take (shown_before (spot_of text at)) (line_shown text at)) ++ (94 ∷ [])

-- Above the caret stands the byte of the place, where its line has one.
abbrev pub PlaceShown : Type 0
PlaceShown =
    (text : List ℕ) (at : ℕ) → (spot_of text at).place < (spot_of text at).end →
    get_or (line_shown text at) (shown_before (spot_of text at)) 0 ≡ shown (get_or text (spot_of text at).place 0)
