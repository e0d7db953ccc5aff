-- What `==` says of two rows of bytes is what the language's comparison of them says, from the front on.
use Prim.Native.Nat.{ℕ, ◌+◌, ◌<◌, ◌≤◌}
use mathlib.Core.Path.{◌≡◌, refl, sym, ◌∙◌}
use mathlib.Core.Bool.{Bool, true, false, cond, ◌&&◌}
use mathlib.Core.List.{List, [], ◌∷◌}
use native.Mathlib.Omega.{arith}
use native.Mathlib.Numerals.{add-one}
use borrow.Author.Tests.{eq-eqb, ne_eqb}
use lib.Dec.{eqb}
use lib.ListN.{length, get_or, drop, drop_of_length-le}
use lib.Seq.{drop-cons}
use Rattle.language.specs.Bytes.{same_bytes}
use Rattle.std.specs.Cmp.Lexicographic.{pointwise}

pub compared : (a b : List ℕ) → pointwise eqb a b ≡ same_bytes a b
compared [] [] = refl
compared [] (y ∷ b) = refl
compared (x ∷ a) [] = refl
compared (x ∷ a) (y ∷ b) = go (eqb x y) (compared a b)
  where
    go : (t : Bool) → pointwise eqb a b ≡ same_bytes a b → (t && pointwise eqb a b) ≡ cond t (same_bytes a b) false
    go true e = e
    go false e = refl

-- rows of other lengths are not the same
pub other_lengths : (a b : List ℕ) → (length a ≡ length b → ⊥) → same_bytes a b ≡ false
other_lengths [] [] h = absurd (h refl)
other_lengths [] (y ∷ b) h = refl
other_lengths (x ∷ a) [] h = refl
other_lengths (x ∷ a) (y ∷ b) h = go (eqb x y) (other_lengths a b λ e. h (omega arith))
  where
    go : (t : Bool) → same_bytes a b ≡ false → cond t (same_bytes a b) false ≡ false
    go true e = e
    go false e = refl

module _ (a b : List ℕ) (i : ℕ) where
  both : i < length a → i < length b →
      same_bytes (drop i a) (drop i b) ≡ cond (eqb (get_or a i 0) (get_or b i 0)) (same_bytes (drop (i + 1) a) (drop (i + 1) b)) false
  both h k = rw (drop-cons a i 0, drop-cons b i 0, add-one)

  pub same_more : i < length a → i < length b → get_or a i 0 ≡ get_or b i 0 → same_bytes (drop (i + 1) a) (drop (i + 1) b) ≡ same_bytes (drop i a) (drop i b)
  same_more h k e = sym (both h k ∙ rw (eq-eqb (get_or a i 0) (get_or b i 0) e))

  pub other_byte : i < length a → i < length b → (get_or a i 0 ≡ get_or b i 0 → ⊥) → same_bytes (drop i a) (drop i b) ≡ false
  other_byte h k e = both h k ∙ rw (ne_eqb (get_or a i 0) (get_or b i 0) e)

  pub same_end : length a ≤ i → length b ≤ i → same_bytes (drop i a) (drop i b) ≡ true
  same_end h k = rw (drop_of_length-le a h, drop_of_length-le b k)
