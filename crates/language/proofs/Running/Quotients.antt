-- div rounds down: quotient and rest, by the signs of dividend and divisor.
use mathlib.Core.Path.{◌≡◌, refl, sym, ap}
use mathlib.Core.Logic.{◌⊎◌, inl, inr}
use mathlib.Core.Bool.{Bool, true, false, cond}
use Prim.Native.Nat.{ℕ, zero, suc, ◌+◌, ◌-◌, ◌*◌, ◌/◌, ◌%◌, ◌<◌, zero-le, suc-le-suc}
use native.Mathlib.Nat.{suc-mul, mod-lt, div-add-mod'}
use native.Mathlib.Omega.{arith}
use lib.Dec.{ltb}
use lib.IntN.{ℤ, pos, negsuc, neg_ℤ, nat_abs, sub_ℕ, ◌+ℤ◌, ◌*ℤ◌}
use lib.Signed.{non_neg}
use borrow.Author.Tests.{ltb-true, ltb-false}
use Rattle.language.specs.Numbers.{quotient}
use Rattle.language.specs.Claims.{RoundsDown}

-- x - r for x = n + r, and for x = n + r + 1 the other way round
sub_above : (x r n : ℕ) → x ≡ n + r → pos n ≡ sub_ℕ x r
sub_above x r n h = go (ltb x r) refl
  where
    go : (t : Bool) → ltb x r ≡ t → pos n ≡ cond t (negsuc (r - suc x)) (pos (x - r))
    go true e = absurd (omega (arith, h, ltb-true x r e))
    go false e = ap pos (omega (arith, h))

sub_below : (r x n : ℕ) → x ≡ suc n + r → negsuc n ≡ sub_ℕ r x
sub_below r x n h = go (ltb r x) refl
  where
    go : (t : Bool) → ltb r x ≡ t → negsuc n ≡ cond t (negsuc (x - suc r)) (pos (r - x))
    go true e = ap negsuc (omega (arith, h))
    go false e = absurd (omega (arith, h, ltb-false r x e))

-- n = x - r, -(n + 1) = -x + r, -n = -x - r
above : (x r n : ℕ) → x ≡ n + r → pos n ≡ pos x +ℤ neg_ℤ (pos r)
above x zero n h = ap pos (omega (arith, h))
above x (suc r) n h = sub_above x (suc r) n h

below : (x r n : ℕ) → x ≡ suc n + r → negsuc n ≡ neg_ℤ (pos x) +ℤ pos r
below zero r n h = absurd (omega (arith, h))
below (suc x) r n h = sub_below r (suc x) n h

both_below : (x r n : ℕ) → x + r ≡ n → neg_ℤ (pos n) ≡ neg_ℤ (pos x) +ℤ neg_ℤ (pos r)
both_below zero zero zero h = refl
both_below zero (suc r) zero h = absurd (omega (arith, h))
both_below (suc x) r zero h = absurd (omega (arith, h))
both_below zero zero (suc n) h = absurd (omega (arith, h))
both_below zero (suc r) (suc n) h = sub_below zero (suc r) n (omega (arith, h))
both_below (suc x) zero (suc n) h = sub_below zero (suc x) n (omega (arith, h))
both_below (suc x) (suc r) (suc n) h = ap negsuc (omega (arith, h))

-- a rest of a negative divisor's sign, and its size
rest_below : (a : ℤ) (m r : ℕ) → a ≡ (quotient a (negsuc m) *ℤ negsuc m) +ℤ neg_ℤ (pos r) → r < suc m →
    (rest : ℤ) × (a ≡ (quotient a (negsuc m) *ℤ negsuc m) +ℤ rest) × ((rest ≡ pos zero) ⊎ (non_neg rest ≡ false)) × (nat_abs rest < suc m)
rest_below a m zero e l = (pos zero, e, inl refl, l)
rest_below a m (suc r) e l = (negsuc r, e, inr refl, l)

-- n + 1, rounded up to a multiple of k = m + 1, and how far that is
up : (n m : ℕ) → suc (n / suc m) * suc m ≡ suc n + (m - n % suc m)
up n m =
    let d = div-add-mod' n (suc m) in let l = mod-lt n {m = suc m} (suc-le-suc zero-le) in
    omega (arith, suc-mul (n / suc m) (suc m), d, l)

pub rounds_down : RoundsDown
rounds_down a (pos zero) h = absurd (h refl)
rounds_down (pos n) (pos (suc m)) h = (pos (n % suc m), ap pos (sym (div-add-mod' n (suc m))), inr refl, mod-lt n (suc-le-suc zero-le))
rounds_down (negsuc n) (pos (suc m)) h = (pos (m - n % suc m), below _ (m - n % suc m) n (up n m), inr refl, omega arith)
rounds_down (pos zero) (negsuc m) h =
    rest_below (pos zero) m (zero % suc m) (both_below _ (zero % suc m) zero (div-add-mod' zero (suc m))) (mod-lt zero (suc-le-suc zero-le))
rounds_down (pos (suc n)) (negsuc m) h = rest_below (pos (suc n)) m (m - n % suc m) (above _ (m - n % suc m) (suc n) (up n m)) (omega arith)
rounds_down (negsuc n) (negsuc m) h =
    rest_below (negsuc n) m (suc n % suc m) (both_below _ (suc n % suc m) (suc n) (div-add-mod' (suc n) (suc m))) (mod-lt (suc n) (suc-le-suc zero-le))
