-- A word is packed into one number, a byte at a time.
use mathlib.Core.Path.{◌≡◌, refl}
use mathlib.Core.List.{List, [], ◌∷◌, ◌++◌}
use Prim.Native.Nat.{ℕ, ◌+◌, ◌*◌, min}
use native.Mathlib.Omega.{arith}
use Rattle.words.specs.Marks.{pack, cap}

pack_push : (n : ℕ) (s : List ℕ) (b : ℕ) → pack n (s ++ b ∷ []) ≡ pack n s * 256 + b
pack_push n [] b = refl
pack_push n (d ∷ s) b = pack_push (n * 256 + d) s b

-- with one byte more, kept at the cap
pub packed_push : (s : List ℕ) (b v w : ℕ) → v ≡ min (pack 0 s) cap → w ≡ min (v * 256 + b) cap → w ≡ min (pack 0 (s ++ b ∷ [])) cap
packed_push s b v w e f = omega (arith, pack_push 0 s b)
