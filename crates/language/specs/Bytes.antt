-- Bytes: those of a quoted text, and when two rows of them are the same.
use Rattle.std.specs.Prelude.{ℕ, Bool, true, false, cond, List, eqb}
use Prim.Native.Char.{code}
use Prim.Native.String.{String, [], ◌∷◌}
use mathlib.Core.List as L

abbrev pub bytes_of : String → List ℕ
bytes_of [] = L.[]
bytes_of (c ∷ s) = L.◌∷◌ (code c) (bytes_of s)

abbrev pub same_bytes : List ℕ → List ℕ → Bool  -- every comparison of names and of key words is this one
same_bytes L.[] L.[] = true
same_bytes L.[] (L.◌∷◌ b y) = false
same_bytes (L.◌∷◌ a x) L.[] = false
same_bytes (L.◌∷◌ a x) (L.◌∷◌ b y) = cond (eqb a b) (same_bytes x y) false
