-- What a reader is shown of a line: at most 60 bytes before the place and 60 from it on, and only bytes that a log may hold.
use Rattle.std.specs.Prelude.{ℕ, ◌+◌, ◌-◌, min, max, List, [], ◌∷◌, ◌++◌, map, Bool, true, false, cond, eqb, ltb, take, drop}
use Rattle.spots.specs.declared.Spot.{Spot}
use Rattle.spots.specs.declared.Row.{Row}
use Rattle.spots.specs.declared.Row.TheVariants.{Line, Caret}
use Rattle.spots.specs.Lines.{spot_of}

-- a tab (9) stays, a CR (13) is a space, and what does not print is a question mark
abbrev pub shown : ℕ → ℕ
shown b = cond (eqb b 9) 9 (cond (eqb b 13) 32 (cond (ltb b 32) 63 (cond (ltb 126 b) 63 b)))

-- under a tab stands a tab, under any other byte a space
abbrev pub under : ℕ → ℕ
under b = cond (eqb b 9) 9 32

abbrev pub drawn : Row → ℕ → ℕ
drawn Line = shown
drawn Caret = under

-- the bytes of a text from one place to another
abbrev pub part : List ℕ → ℕ → ℕ → List ℕ
part text from to = take (to - from) (drop from text)

-- where the bytes that are shown begin, and where they end
abbrev pub from_of : (start place : ℕ) → ℕ
from_of start place = max start (place - 60)

abbrev pub to_of : (place end : ℕ) → ℕ
to_of place end = min end (place + 60)

-- two bytes where the line is cut
abbrev pub marks : Bool → ℕ → List ℕ
marks true b = b ∷ b ∷ []
marks false b = []

-- the line of a place
abbrev pub line_around : List ℕ → Spot → List ℕ
line_around text s =
    let from = from_of s.start s.place in
    let to = to_of s.place s.end in
    marks (ltb s.start from) 46 ++ (map (drawn Line) (part text from to) ++ marks (ltb to s.end) 46)

unfoldable pub line_shown : List ℕ → ℕ → List ℕ
line_shown text at = line_around text (spot_of text at)

-- the line under it, with the caret, 94, under the place
abbrev pub caret_under : List ℕ → Spot → List ℕ
caret_under text s =
    let from = from_of s.start s.place in
    marks (ltb s.start from) 32 ++ (map (drawn Caret) (part text from s.place) ++ (94 ∷ []))

unfoldable pub caret_shown : List ℕ → ℕ → List ℕ
caret_shown text at = caret_under text (spot_of text at)
