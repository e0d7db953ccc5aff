-- The digits at the front of some bytes, one at a time, and the number that they write, kept at the cap.
use mathlib.Core.Path.{◌≡◌, refl, sym, ap, subst, ◌∙◌}
use mathlib.Core.Bool.{Bool, true, false, cond, ◌&&◌}
use mathlib.Core.List.{List, [], ◌∷◌}
use Prim.Native.Nat.{ℕ, ◌+◌, ◌-◌, ◌*◌, ◌≤◌, ◌<◌, min}
use native.Mathlib.Numerals.{add-one}
use native.Mathlib.Omega.{arith}
use lib.Dec.{T, leb}
use lib.ListN.{length, drop, get_or, drop_of_length-le}
use lib.Seq.{drop-cons}
use borrow.Author.Tests.{leb-true, leb-false}
use Rattle.language.specs.Numbers.{ranged}
use Rattle.language.specs.Words.{is_digit, stretch, decimal}
use Rattle.std.specs.Prelude.{None}
use Rattle.amounts.specs.Amounts.{Amount, computed}
use Rattle.amounts.specs.Signs.{signed}
use Rattle.numerals.specs.Written.{written, numeral_to, cap, written_from}
use Rattle.amounts.proofs.Range.{far}
use Rattle.numerals.proofs.Written.{is_written}

-- ---- a digit
and_both : (a b : Bool) → (a && b) ≡ true → (a ≡ true) × (b ≡ true)
and_both true b e = (refl, e)
and_both false b e = absurd (subst T (sym e) tt)

pub digit_bounds : (b : ℕ) → is_digit b ≡ true → (48 ≤ b) × (b ≤ 57)
digit_bounds b e =
    let p = and_both (leb 48 b) (leb b 57) e in
    (leb-true 48 b p.0, leb-true b 57 p.1)

-- ---- a stretch at a place, byte by byte
module _ (p : ℕ → Bool) (s : List ℕ) (i : ℕ) where
  pub stretch_past : length s ≤ i → stretch p (drop i s) ≡ []
  stretch_past h = rw (drop_of_length-le s h) refl

  pub stretch_stops : i < length s → p (get_or s i 0) ≡ false → stretch p (drop i s) ≡ []
  stretch_stops h e = rw (drop-cons s i 0 h) (simp e)

  pub stretch_goes : i < length s → p (get_or s i 0) ≡ true → stretch p (drop i s) ≡ get_or s i 0 ∷ stretch p (drop (i + 1) s)
  stretch_goes h e = rw (drop-cons s i 0 h, add-one) (simp e)

-- ---- the number, kept at the cap
kept_step : (n e : ℕ) → min (min n cap * 10 + e) cap ≡ min (n * 10 + e) cap
kept_step n e = omega arith

pub kept_decimal : (ds : List ℕ) (n : ℕ) → min (decimal (min n cap) ds) cap ≡ min (decimal n ds) cap
kept_decimal [] n = omega arith
kept_decimal (d ∷ ds) n =
    sym (kept_decimal ds (min n cap * 10 + (d - 48)))
    ∙ ap (λ (m : ℕ). min (decimal m ds) cap) (kept_step n (d - 48))
    ∙ kept_decimal ds (n * 10 + (d - 48))

-- ---- the loop: the first i bytes are digits and write v, and what is left gives the same answer
pub record Reading (s : List ℕ) (i v : ℕ) : Type 0 where
  pub end : i + length (stretch is_digit (drop i s)) ≡ length (stretch is_digit s)
  pub small : v ≤ cap
  pub same : min (decimal v (stretch is_digit (drop i s))) cap ≡ min (decimal 0 (stretch is_digit s)) cap

pub first : (s : List ℕ) → Reading s 0 0
first s = record { end = omega arith; small = omega arith; same = refl }

module _ (s : List ℕ) (i v : ℕ) (r : Reading s i v) where
  pub more : i < length s → is_digit (get_or s i 0) ≡ true → Reading s (i + 1) (min (v * 10 + (get_or s i 0 - 48)) cap)
  more h d =
      let e = stretch_goes is_digit s i h d in
      record {
        end = omega (arith, r.end, ap length e);
        small = omega arith;
        same =
            kept_decimal (stretch is_digit (drop (i + 1) s)) (v * 10 + (get_or s i 0 - 48))
            ∙ sym (ap (λ (l : List ℕ). min (decimal v l) cap) e)
            ∙ r.same;
      }

  -- where no digit is left
  module _ (e : stretch is_digit (drop i s) ≡ []) where
    pub count : i ≡ length (stretch is_digit s)
    count = omega (arith, r.end, ap length e)

    pub value : v ≡ min (decimal 0 (stretch is_digit s)) cap
    value =
        let q : min (decimal v (stretch is_digit (drop i s))) cap ≡ min v cap = ap (λ (l : List ℕ). min (decimal v l) cap) e in
        omega (arith, r.same, r.small, q)

-- ---- a stretch is no longer than what it is the front of
pub taken_long : (p : ℕ → Bool) (s : List ℕ) → length (stretch p s) ≤ length s
taken_long p [] = omega arith
taken_long p (b ∷ s) = by (p b) (taken_long p s)
  where
    by : (t : Bool) → length (stretch p s) ≤ length s → length (cond t (b ∷ stretch p s) []) ≤ length (b ∷ s)
    by true h = omega (arith, h)
    by false h = omega arith

-- ---- the answer
written_kept : (a : Amount) (negative : Bool) (n : ℕ) → computed a ≡ ranged (signed negative (min n cap)) → a ≡ written (signed negative n)
written_kept a negative n c = by (leb n cap) refl
  where
    least : n ≤ cap → min n cap ≡ n
    least h = omega arith

    by : (t : Bool) → leb n cap ≡ t → a ≡ written (signed negative n)
    by true e = is_written a (signed negative n) (c ∙ ap (λ (m : ℕ). ranged (signed negative m)) (least (leb-true n cap e)))
    by false e =
        let h : cap < n = leb-false n cap e in
        is_written a (signed negative n) (c ∙ sym (far negative (min n cap) (omega arith)) ∙ far negative n (omega arith))

module _ (from : ℕ) (negative : Bool) (ds : List ℕ) where
  pub written_none : length ds ≡ 0 → None ≡ written_from from negative ds
  written_none h = by ds h
    where
      by : (l : List ℕ) → length l ≡ 0 → None ≡ written_from from negative l
      by [] e = refl
      by (b ∷ l) e = absurd (omega arith)

  pub written_some :
      (n v : ℕ) → n ≡ length ds → (n ≡ 0 → ⊥) → v ≡ min (decimal 0 ds) cap → (a : Amount) → computed a ≡ ranged (signed negative v)
      → numeral_to (from + n) a ≡ written_from from negative ds
  written_some n v e h k a c = by ds e k
    where
      by : (l : List ℕ) → n ≡ length l → v ≡ min (decimal 0 l) cap → numeral_to (from + n) a ≡ written_from from negative l
      by [] e k = absurd (h e)
      by (b ∷ l) e k = rw (e, written_kept a negative (decimal 0 (b ∷ l)) (c ∙ ap (λ (n : ℕ). ranged (signed negative n)) k)) refl
