-- One more round of each loop's definition, where `i` rounds of `n` are over, one more level of the comparison, and a note that says no type.
use Prim.Native.Nat.{ℕ, zero, suc, ◌+◌, ◌-◌, ◌<◌, ◌≤◌}
use mathlib.Core.Path.{◌≡◌, refl, ap}
use mathlib.Core.List.{List}
use mathlib.Core.Bool.{Bool, false}
use native.Mathlib.Numerals.{sub-one}
use native.Mathlib.Omega.{arith}
use lib.ListN.{length}
use lib.Dec.{eqb}
use borrow.Author.Tests.{lt-ltb}
use Rattle.judge.specs.Scopes.{pick, child_at}
use Rattle.judge.specs.Types.{same_parts, same, is_fun, is_vec, note_kind, parts_of, fits_from, returned}

left : (n i : ℕ) → i < n → n - i ≡ suc (n - (i + 1))
left n i h = omega arith

over : (n i : ℕ) → n ≤ i → n - i ≡ 0
over n i h = omega arith

pub rounds_all : (n : ℕ) → n - 0 ≡ n
rounds_all n = omega arith

pub fits_more : (n i : ℕ) → i < n → (t N : List ℕ) (y z : ℕ) → fits_from t N (n - i) y z ≡ fits_from t N (suc (n - (i + 1))) y z
fits_more n i h t N y z = ap (λ j. fits_from t N j y z) (left n i h)

pub fits_end : (n i : ℕ) → n ≤ i → (t N : List ℕ) (y z : ℕ) → fits_from t N (n - i) y z ≡ 0
unfolding fits_from
fits_end n i h t N y z = ap (λ j. fits_from t N j y z) (over n i h)

pub parts_more : (n i : ℕ) → i < n → (f : ℕ → ℕ → Bool) (t N : List ℕ) (a b y z : ℕ) →
    same_parts f t N a b (n - i) y z ≡ same_parts f t N a b (suc (n - (i + 1))) y z
parts_more n i h f t N a b y z = ap (λ j. same_parts f t N a b j y z) (left n i h)

pub parts_end : (n i : ℕ) → n ≤ i → (f : ℕ → ℕ → Bool) (t N : List ℕ) (a b y z : ℕ) → same_parts f t N a b (n - i) y z ≡ false
unfolding same_parts
parts_end n i h f t N a b y z = ap (λ j. same_parts f t N a b j y z) (over n i h)

-- what spells neither a function's type nor a block's has no parts
pub same_base : (l : ℕ) (t N : List ℕ) (a b : ℕ) {j k : ℕ} {f v : Bool} → j ≡ note_kind t a → k ≡ note_kind t b →
    f ≡ is_fun j → f ≡ false → v ≡ is_vec j → v ≡ false → eqb j k ≡ same l t N a b
unfolding same
same_base zero t N a b e d g h p q = rw (← e, ← d, ← g, h, ← p, q)
same_base (suc l) t N a b e d g h p q = rw (← e, ← d, ← g, h, ← p, q)

-- a level less for the parts
pub same_more : (l : ℕ) → (l ≡ 0 → ⊥) → (t N : List ℕ) (a b : ℕ) →
    same l t N a b ≡
    (pick (is_fun (note_kind t a))
    (λ _. pick (is_fun (note_kind t b)) (λ _. same_parts (same (l - 1) t N) t N a b (length t) (parts_of t a) (parts_of t b)) λ _. false) λ _.
    pick (is_vec (note_kind t a)) (λ _. pick (is_vec (note_kind t b)) (λ _. same (l - 1) t N (child_at t a) (child_at t b)) λ _. false) λ _.
    eqb (note_kind t a) (note_kind t b))
unfolding same
same_more zero h t N a b = absurd (h refl)
same_more (suc l) h t N a b = rw sub-one

-- what is below the notes of those that may return says no type
pub returned_none : (f : ℕ) → f < 196608 → 0 ≡ returned f
unfolding returned
returned_none f h = rw (lt-ltb f 327680 (omega (arith, h))) (omega (arith, h))
