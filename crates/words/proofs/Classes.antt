-- The sorts of a byte: std's tests against the language's, and a byte that is no symbol.
use Prim.Native.Nat.{ℕ}
use mathlib.Core.Path.{◌≡◌, refl, sym}
use mathlib.Core.Bool.{Bool, true, false, ◌||◌, ◌&&◌}
use lib.Dec.{eqb, leb}
use borrow.Author.Tests.{ne_eqb}
use mathlib.Core.List.{[], ◌∷◌}
use Rattle.std.specs.Prelude.{None}
use Rattle.std.specs.Char.{is_ascii_alphanumeric}
use Rattle.language.specs.Words.{is_plain, symbols, mark_of}
use Rattle.words.specs.Marks.{marked}

-- letters and digits
pub alphanumeric : (b : ℕ) → is_ascii_alphanumeric b ≡ is_plain b
alphanumeric b = by (leb 48 b && leb b 57) (leb 65 b && leb b 90) (leb 97 b && leb b 122)
  where
    by : (d u l : Bool) → ((d || u) || l) ≡ ((u || l) || d)
    by true true l = refl
    by true false true = refl
    by true false false = refl
    by false true l = refl
    by false false true = refl
    by false false false = refl

pub no_symbol : (b : ℕ)
    → (b ≡ 91 → ⊥) → (b ≡ 93 → ⊥) → (b ≡ 40 → ⊥) → (b ≡ 41 → ⊥) → (b ≡ 59 → ⊥) → (b ≡ 58 → ⊥) → (b ≡ 44 → ⊥) → (b ≡ 42 → ⊥)
    → None ≡ marked (mark_of symbols (b ∷ []))
no_symbol b lb rb lp rp se co cm st =
    simp
    (no 91 lb, no 93 rb, no 40 lp, no 41 rp, no 59 se, no 58 co, no 44 cm, no 42 st)
  where
    no : (n : ℕ) → (b ≡ n → ⊥) → eqb n b ≡ false
    no n h = ne_eqb n b (λ e. h (sym e))
