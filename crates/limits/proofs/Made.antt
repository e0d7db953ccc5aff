-- What a made limit tells its caller.
use mathlib.Core.Path.{◌≡◌, refl, sym}
use mathlib.Core.Bool.{Bool, true, false, cond}
use Rattle.std.specs.Prelude.{Some, None}
use Prim.Native.Nat.{ℕ, ◌≤◌, ◌<◌}
use native.Mathlib.Omega.{arith}
use lib.Dec.{leb}
use borrow.Author.Tests.{le-leb, lt-leb, leb-true, leb-false}
use Rattle.language.specs.Limits.{greatest_limits}
use Rattle.limits.specs.Greatest.{greatest_room}
use Rattle.limits.specs.Made.{admitted}

-- the three rooms have one greatest value
pub greatest_cells : greatest_limits.cells ≡ greatest_room
greatest_cells = refl

pub greatest_output : greatest_limits.output ≡ greatest_room
greatest_output = refl

never : (n : ℕ) → None ≡ Some n → ⊥
never n e = let z : ◌≡◌ {A = ℕ} 0 1 = cc in omega arith

module _ (most n : ℕ) where
  pub admits : n ≤ most → Some n ≡ admitted most n
  admits h = simp (le-leb n most h)

  pub refuses : most < n → None ≡ admitted most n
  refuses h = simp (lt-leb n most h)

  pub some_admitted : (x : ℕ) → Some x ≡ admitted most n → (x ≡ n) × (n ≤ most)
  some_admitted x = by (leb n most) refl
    where
      by : (t : Bool) → leb n most ≡ t → Some x ≡ cond t (Some n) None → (x ≡ n) × (n ≤ most)
      by true l e = (cc, leb-true n most l)
      by false l e = absurd (never x (sym e))

  pub none_admitted : None ≡ admitted most n → most < n
  none_admitted = by (leb n most) refl
    where
      by : (t : Bool) → leb n most ≡ t → None ≡ cond t (Some n) None → most < n
      by true l e = absurd (never n e)
      by false l e = leb-false n most l
