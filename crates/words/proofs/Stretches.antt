-- The longest front whose bytes pass a test, and the name at a place.
use Prim.Native.Nat.{ℕ, suc, ◌+◌, ◌≤◌, ◌<◌, zero-le, suc-le-suc}
use mathlib.Core.Path.{◌≡◌, refl, sym, ap, ◌∙◌}
use mathlib.Core.Bool.{Bool, true, false, cond}
use mathlib.Core.List.{List, [], ◌∷◌}
use native.Mathlib.Omega.{arith}
use lib.ListN.{length, take, drop, get_or, drop_of_length-le, length-drop}
use lib.Seq.{drop-cons, get_or-drop}
use Rattle.language.specs.Words.{is_letter, is_plain, stretch, name_at}

take_more : (t : Bool) (b : ℕ) (s x : List ℕ) → x ≡ take (length x) s → cond t (b ∷ x) [] ≡ take (length (cond t (b ∷ x) [])) (b ∷ s)
take_more true b s x h = ap (λ (l : List ℕ). b ∷ l) h
take_more false b s x h = refl

short_more : (t : Bool) (b : ℕ) (s x : List ℕ) → length x ≤ length s → length (cond t (b ∷ x) []) ≤ suc (length s)
short_more true b s x h = suc-le-suc h
short_more false b s x h = zero-le

module _ (p : ℕ → Bool) where
  -- it is a front
  pub stretch_take : (s : List ℕ) → stretch p s ≡ take (length (stretch p s)) s
  stretch_take [] = refl
  stretch_take (b ∷ s) = take_more (p b) b s (stretch p s) (stretch_take s)

  pub stretch_short : (s : List ℕ) → length (stretch p s) ≤ length s
  stretch_short [] = zero-le
  stretch_short (b ∷ s) = short_more (p b) b s (stretch p s) (stretch_short s)

  -- its bytes pass the test throughout
  pub stretch_whole : (s : List ℕ) → stretch p (stretch p s) ≡ stretch p s
  stretch_whole [] = refl
  stretch_whole (b ∷ s) = by (p b) refl (stretch_whole s)
    where
      by : (t : Bool) → p b ≡ t → stretch p (stretch p s) ≡ stretch p s → stretch p (cond t (b ∷ stretch p s) []) ≡ cond t (b ∷ stretch p s) []
      by true e q = rw (e, q) refl
      by false e q = refl

  -- the byte behind it does not
  pub stretch_ends : (s : List ℕ) → length (stretch p s) < length s → p (get_or s (length (stretch p s)) 0) ≡ false
  stretch_ends [] h = absurd (omega arith)
  stretch_ends (b ∷ s) h = by (p b) refl h (stretch_ends s)
    where
      by : (t : Bool) → p b ≡ t → length (cond t (b ∷ stretch p s) []) < suc (length s)
          → (length (stretch p s) < length s → p (get_or s (length (stretch p s)) 0) ≡ false)
          → p (get_or (b ∷ s) (length (cond t (b ∷ stretch p s) [])) 0) ≡ false
      by true e k q = q (omega arith)
      by false e k q = e

  -- the same, of a stretch from a place on
  pub behind_stretch : (s : List ℕ) (i e : ℕ) → e ≡ i + length (stretch p (drop i s)) → e < length s → p (get_or s e 0) ≡ false
  behind_stretch s i e is h =
      let l : length (stretch p (drop i s)) < length (drop i s) = omega (arith, length-drop i s) in
      ap p (ap (λ (n : ℕ). get_or s n 0) is ∙ sym (get_or-drop i s (length (stretch p (drop i s))) 0)) ∙ stretch_ends (drop i s) l

module _ (s : List ℕ) (i : ℕ) where
  pub name_past : length s ≤ i → name_at s i ≡ []
  name_past h = rw drop_of_length-le

  pub name_none : i < length s → is_letter (get_or s i 0) ≡ false → name_at s i ≡ []
  name_none h t = rw (drop-cons s i 0, t)

  pub name_some : i < length s → is_letter (get_or s i 0) ≡ true → name_at s i ≡ stretch is_plain (drop i s)
  name_some h t = rw (drop-cons s i 0, t)

  pub name_whole : i < length s → is_letter (get_or s i 0) ≡ true → (w : List ℕ) → w ≡ name_at s i → stretch is_plain w ≡ w
  name_whole h t w e = let q = e ∙ name_some h t in ap (stretch is_plain) q ∙ stretch_whole is_plain (drop i s) ∙ sym q
