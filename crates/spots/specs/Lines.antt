-- Lines of a text end with LF, 10; a place stands on the line that its byte is in, and a place past the text at the text's end.
use Rattle.std.specs.Prelude.{ℕ, zero, suc, ◌+◌, ◌-◌, min, List, [], ◌∷◌, cond, eqb, length, drop, get_or}
use Rattle.spots.specs.declared.Spot.{Spot}

-- how many lines end before a place
abbrev pub ends_before : List ℕ → ℕ → ℕ
ends_before text zero = 0
ends_before text (suc p) = ends_before text p + cond (eqb (get_or text p 0) 10) 1 0

-- the place past the last line end before a place, or 0
abbrev pub start_of : List ℕ → ℕ → ℕ
start_of text zero = 0
start_of text (suc p) = cond (eqb (get_or text p 0) 10) (suc p) (start_of text p)

-- how many bytes stand before the first line end
abbrev pub before_end : List ℕ → ℕ
before_end [] = 0
before_end (b ∷ text) = cond (eqb b 10) 0 (suc (before_end text))

-- the first line end at or after a place, or the text's end
abbrev pub end_of : List ℕ → ℕ → ℕ
end_of text p = p + before_end (drop p text)

-- lines and columns are counted from 1
abbrev pub spot_there : List ℕ → ℕ → Spot
spot_there text p =
    record { line = ends_before text p + 1; column = p - start_of text p + 1; place = p; start = start_of text p; end = end_of text p }

abbrev pub spot_of : List ℕ → ℕ → Spot
spot_of text at = spot_there text (min at (length text))
