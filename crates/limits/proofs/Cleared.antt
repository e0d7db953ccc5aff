-- What is known of a cleared table, and that code clears one so.
use mathlib.Core.Path.{◌≡◌, refl, sym, ap, ◌∙◌}
use mathlib.Core.Bool.{Bool, true, false}
use mathlib.Core.List.{List, [], ◌∷◌, ◌++◌}
use Prim.Native.Nat.{ℕ, zero, suc, ◌≤◌, min}
use native.Mathlib.Nat.{not-suc-le-zero, le_of_suc-le-suc}
use native.Mathlib.Omega.{arith}
use lib.Dec.{leb}
use lib.ListN.{length, take, drop, replicate}
use lib.Seq.{length-take-le}
use borrow.Author.Tests.{leb-true, leb-false}
use Rattle.limits.specs.Cleared.{zeroed}

module _ {A : Type 0} (v : A) where
  -- no further than the table's end
  zeroed_all : (l : List A) (n : ℕ) → length l ≤ n → zeroed v (length l) l ≡ zeroed v n l
  zeroed_all [] zero h = refl
  zeroed_all [] (suc n) h = refl
  zeroed_all (x ∷ l) zero h = absurd (not-suc-le-zero h)
  zeroed_all (x ∷ l) (suc n) h = ap (λ (t : List A). v ∷ t) (zeroed_all l n (le_of_suc-le-suc h))

  zeroed_min : (l : List A) (n : ℕ) → zeroed v (min n (length l)) l ≡ zeroed v n l
  zeroed_min l n = by (leb n (length l)) refl
    where
      by : (t : Bool) → leb n (length l) ≡ t → zeroed v (min n (length l)) l ≡ zeroed v n l
      by true e =
          let m : min n (length l) ≡ n = omega (arith, leb-true n (length l) e) in
          ap (λ (k : ℕ). zeroed v k l) m
      by false e =
          let m : min n (length l) ≡ length l = omega (arith, leb-false n (length l) e) in
          ap (λ (k : ℕ). zeroed v k l) m ∙ zeroed_all l n (omega (arith, leb-false n (length l) e))

  -- ---- what is known of a cleared table
  pub length_zeroed : (n : ℕ) (l : List A) → length (zeroed v n l) ≡ length l
  length_zeroed zero l = refl
  length_zeroed (suc n) [] = refl
  length_zeroed (suc n) (x ∷ l) = ap suc (length_zeroed n l)

  pub zeroed_is : (n : ℕ) (l : List A) → n ≤ length l → zeroed v n l ≡ replicate n v ++ drop n l
  zeroed_is zero l h = refl
  zeroed_is (suc n) [] h = absurd (not-suc-le-zero h)
  zeroed_is (suc n) (x ∷ l) h = ap (λ (t : List A). v ∷ t) (zeroed_is n l (le_of_suc-le-suc h))

  pub take_zeroed : (n : ℕ) (l : List A) → n ≤ length l → take n (zeroed v n l) ≡ replicate n v
  take_zeroed zero l h = refl
  take_zeroed (suc n) [] h = absurd (not-suc-le-zero h)
  take_zeroed (suc n) (x ∷ l) h = ap (λ (t : List A). v ∷ t) (take_zeroed n l (le_of_suc-le-suc h))

  pub drop_zeroed : (n : ℕ) (l : List A) → drop n (zeroed v n l) ≡ drop n l
  drop_zeroed zero l = refl
  drop_zeroed (suc n) [] = refl
  drop_zeroed (suc n) (x ∷ l) = drop_zeroed n l

  -- ---- the code's way: the front is filled, and the rest stands behind it
  pub front_filled :
      (l : List A) (n end : ℕ) (t : List A) → end ≡ min n (length l) → t ≡ replicate (length (take end l)) v → t ++ drop end l ≡ zeroed v n l
  front_filled l n end t e f =
      let h : end ≤ length l = omega (arith, e) in
      rw (f, length-take-le end l h) (sym (zeroed_is end l h)) ∙ ap (λ (k : ℕ). zeroed v k l) e ∙ zeroed_min l n
