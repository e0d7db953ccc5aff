-- The laws of a word's bytes: which are copied, and what stands before them.
use mathlib.Core.Path.{◌≡◌, refl, sym, ◌∙◌, ap, subst}
use mathlib.Core.Bool.{Bool, true, false, cond, not, true≢false}
use mathlib.Core.List.{List, [], ◌∷◌, ◌++◌}
use Prim.Native.Nat.{ℕ, zero, suc, ◌+◌, ◌-◌, ◌≤◌, ◌<◌}
use native.Mathlib.Omega.{arith}
use borrow.Author.Tests.{eqb-true, ne_eqb}
use lib.Dec.{eqb}
use lib.ListN.{length, take, drop, get_or, set, length-append, length-drop}
use lib.Seq.{take_all, drop-cons, sets, sets-eq, length-sets}
use borrow.Rule.Slice.PartMut.{put_mid}
use Rattle.std.proofs.lemmas.Slice.{put_mid-paste}
use Rattle.std.specs.List.{prefix_len, take_while}
use Rattle.std.proofs.lemmas.List.Folds.{length-prefix_len}
use Rattle.language.specs.Words.{is_digit}
use Rattle.house_form.proofs.Digits.{digit_range}
use Rattle.house_form.proofs.Stripped.{stripped}
use Rattle.house_form.proofs.Copied.{signed, behind_minus, tidy}
use Rattle.writing.specs.Pieces.{zeros, skipped_behind, skipped, sign_kept, sign, gap, piece}

-- ---- zeros

-- the zeros before the last digit, as the code counts them
zeros_before_last : (l : List ℕ) (n : ℕ) → suc n ≡ length l → prefix_len (λ b. eqb b 48) (take n l) ≡ zeros l
zeros_before_last [] n h = absurd (omega (arith, h))
zeros_before_last (b ∷ []) zero h = refl
zeros_before_last (b ∷ []) (suc n) h = absurd (omega (arith, h))
zeros_before_last (b ∷ d ∷ l) zero h = absurd (omega (arith, h))
zeros_before_last (b ∷ d ∷ l) (suc n) h =
    let k : suc n ≡ length (d ∷ l) = omega (arith, h) in
    let one : 1 + prefix_len (λ b. eqb b 48) (take n (d ∷ l)) ≡ suc (zeros (d ∷ l)) = omega (arith, zeros_before_last (d ∷ l) n k) in
    ap (λ (m : ℕ). cond (eqb b 48) m 0) one

pub zeros_counted : (l : List ℕ) (n : ℕ) → n ≡ length l - 1 → length (take_while (λ b. eqb b 48) (take n l)) ≡ zeros l
zeros_counted [] n h = let none : n ≡ 0 = omega (arith, h) in rw none
zeros_counted (b ∷ l) n h = length-prefix_len (λ b. eqb b 48) (take n (b ∷ l)) ∙ zeros_before_last (b ∷ l) n (omega (arith, h))

zeros_few : (b : ℕ) (l : List ℕ) → zeros (b ∷ l) ≤ length l
zeros_few b [] = omega arith
zeros_few b (d ∷ l) = go (eqb b 48) (zeros_few d l)
  where
    go : (t : Bool) → zeros (d ∷ l) ≤ length l → cond t (suc (zeros (d ∷ l))) 0 ≤ suc (length l)
    go true h = omega (arith, h)
    go false h = omega arith

pub zeros_less : (l : List ℕ) → 0 < length l → zeros l < length l
zeros_less [] h = absurd (omega (arith, h))
zeros_less (b ∷ l) h = omega (arith, zeros_few b l)

stripped_drop : (l : List ℕ) → stripped l ≡ drop (zeros l) l
stripped_drop [] = refl
stripped_drop (b ∷ []) = refl
stripped_drop (b ∷ d ∷ l) = go (eqb b 48) (stripped_drop (d ∷ l))
  where
    go : (t : Bool) → stripped (d ∷ l) ≡ drop (zeros (d ∷ l)) (d ∷ l) → cond t (stripped (d ∷ l)) (b ∷ d ∷ l) ≡ drop (cond t (suc (zeros (d ∷ l))) 0) (b ∷ d ∷ l)
    go true h = h
    go false h = refl

pub zeros_within : (l : List ℕ) → zeros l ≤ length l
zeros_within [] = omega arith
zeros_within (b ∷ l) = omega (arith, zeros_few b l)

-- ---- what is not copied

pub skipped_less : (w : List ℕ) → 0 < length w → skipped w < length w
skipped_less [] h = absurd (omega (arith, h))
skipped_less (b ∷ l) h = go (is_digit b) (eqb b 45) (behind l)
  where
    behind : (l : List ℕ) → skipped_behind l ≤ length l
    behind [] = omega arith
    behind (d ∷ m) = by (is_digit d)
      where
        by : (t : Bool) → cond t (suc (zeros (d ∷ m))) 0 ≤ suc (length m)
        by true = omega (arith, zeros_few d m)
        by false = omega arith

    go : (t u : Bool) → skipped_behind l ≤ length l → cond t (zeros (b ∷ l)) (cond u (skipped_behind l) 0) < suc (length l)
    go true u k = omega (arith, zeros_few b l)
    go false true k = omega (arith, k)
    go false false k = omega arith

-- ---- a word as the form has it: its sign, where it keeps one, and the bytes that are copied

not_kept : (w : List ℕ) (k : ℕ) → eqb (get_or w 0 0) 45 ≡ false → sign_kept w k ≡ false
not_kept w k e = ap (λ (b : Bool). cond (eqb k 0) false (cond b (not (eqb (get_or w k 0) 48)) false)) e ∙ both (eqb k 0)
  where
    both : (t : Bool) → cond t false (cond false (not (eqb (get_or w k 0) 48)) false) ≡ false
    both true = refl
    both false = refl

digit_no_minus : (b : ℕ) → is_digit b ≡ true → eqb b 45 ≡ false
digit_no_minus b e = let r = digit_range b e in ne_eqb b 45 λ q. omega (arith, r, q)

signed_as : (x : ℕ) (r : List ℕ) → signed (x ∷ r) ≡ sign (not (eqb x 48)) ++ x ∷ r
signed_as x r = go (eqb x 48)
  where
    go : (t : Bool) → cond t (x ∷ r) (45 ∷ x ∷ r) ≡ sign (not t) ++ x ∷ r
    go true = refl
    go false = refl

-- behind a `-`
behind_as : (l : List ℕ) → behind_minus l ≡ sign (sign_kept (45 ∷ l) (skipped_behind l)) ++ drop (skipped_behind l) (45 ∷ l)
behind_as [] = refl
behind_as (d ∷ m) = go (is_digit d)
  where
    z : ℕ
    z = zeros (d ∷ m)

    number : signed (stripped (d ∷ m)) ≡ sign (not (eqb (get_or (d ∷ m) z 0) 48)) ++ drop z (d ∷ m)
    number =
        let c : drop z (d ∷ m) ≡ get_or (d ∷ m) z 0 ∷ drop (suc z) (d ∷ m) = drop-cons (d ∷ m) z 0 (zeros_less (d ∷ m) (omega arith)) in
        ap signed (stripped_drop (d ∷ m) ∙ c) ∙ signed_as (get_or (d ∷ m) z 0) (drop (suc z) (d ∷ m)) ∙ ap (λ (r : List ℕ). sign (not (eqb (get_or (d ∷ m) z 0) 48)) ++ r) (sym c)

    go : (t : Bool) → cond t (signed (stripped (d ∷ m))) (45 ∷ d ∷ m) ≡ sign (sign_kept (45 ∷ d ∷ m) (cond t (suc z) 0)) ++ drop (cond t (suc z) 0) (45 ∷ d ∷ m)
    go true = number ∙ ap (λ (t : Bool). sign (cond t false (not (eqb (get_or (d ∷ m) z 0) 48))) ++ drop z (d ∷ m)) (sym (ne_eqb (suc z) 0 λ q. omega (arith, q)))
    go false = refl

pub tidy_as : (w : List ℕ) → tidy w ≡ sign (sign_kept w (skipped w)) ++ drop (skipped w) w
tidy_as [] = refl
tidy_as (b ∷ l) = go (is_digit b) (eqb b 45) refl refl
  where
    plain : (k : ℕ) → eqb b 45 ≡ false → drop k (b ∷ l) ≡ sign (sign_kept (b ∷ l) k) ++ drop k (b ∷ l)
    plain k e = sym (ap (λ (t : Bool). sign t ++ drop k (b ∷ l)) (not_kept (b ∷ l) k e))

    go : (t u : Bool) → is_digit b ≡ t → eqb b 45 ≡ u → cond t (stripped (b ∷ l)) (cond u (behind_minus l) (b ∷ l)) ≡
        sign (sign_kept (b ∷ l) (cond t (zeros (b ∷ l)) (cond u (skipped_behind l) 0))) ++ drop (cond t (zeros (b ∷ l)) (cond u (skipped_behind l) 0)) (b ∷ l)
    go true u e f = stripped_drop (b ∷ l) ∙ plain (zeros (b ∷ l)) (digit_no_minus b e)
    go false true e f = subst (λ (a : ℕ). behind_minus l ≡ sign (sign_kept (a ∷ l) (skipped_behind l)) ++ drop (skipped_behind l) (a ∷ l)) (sym (eqb-true b 45 f)) (behind_as l)
    go false false e f = plain 0 f

-- ---- what a word adds

module _ (n : ℕ) (w : List ℕ) where
  pub piece_as : piece n w ≡ gap n ++ (sign (sign_kept w (skipped w)) ++ drop (skipped w) w)
  piece_as = ap (λ (l : List ℕ). gap n ++ l) (tidy_as w)

  pub piece_length : length (piece n w) ≡ length (gap n) + length (sign (sign_kept w (skipped w))) + (length w - skipped w)
  piece_length =
      omega (
        arith,
        ap length piece_as,
        length-append (gap n) (sign (sign_kept w (skipped w)) ++ drop (skipped w) w),
        length-append (sign (sign_kept w (skipped w))) (drop (skipped w) w),
        length-drop (skipped w) w,
      )

pub gap_short : (n : ℕ) → length (gap n) ≤ 1
gap_short zero = omega arith
gap_short (suc n) = omega arith

pub sign_short : (t : Bool) → length (sign t) ≤ 1
sign_short true = omega arith
sign_short false = omega arith

-- as the code finds them
pub gap_none : (n : ℕ) → n ≡ 0 → 0 ≡ n + length (gap n)
gap_none zero e = refl
gap_none (suc n) e = absurd (omega (arith, e))

pub gap_some : (n : ℕ) → ¬ (n ≡ 0) → n + 1 ≡ n + length (gap n)
gap_some zero h = absurd (h refl)
gap_some (suc n) h = refl

pub gap_none_set : (page : List ℕ) (n : ℕ) → n ≡ 0 → page ≡ sets page n (gap n)
gap_none_set page zero e = refl
gap_none_set page (suc n) e = absurd (omega (arith, e))

pub gap_some_set : (page : List ℕ) (n : ℕ) → ¬ (n ≡ 0) → set page n 32 ≡ sets page n (gap n)
gap_some_set page zero h = absurd (h refl)
gap_some_set page (suc n) h = refl

pub sign_some : (n : ℕ) (t : Bool) → t ≡ true → n + 1 ≡ n + length (sign t)
sign_some n true e = refl
sign_some n false e = absurd (true≢false (sym e))

pub sign_none : (n : ℕ) (t : Bool) → t ≡ false → n ≡ n + length (sign t)
sign_none n true h = absurd (true≢false h)
sign_none n false h = omega arith

pub sign_some_set : (page : List ℕ) (n : ℕ) (t : Bool) → t ≡ true → set page n 45 ≡ sets page n (sign t)
sign_some_set page n true e = refl
sign_some_set page n false e = absurd (true≢false (sym e))

pub sign_none_set : (page : List ℕ) (n : ℕ) (t : Bool) → t ≡ false → page ≡ sets page n (sign t)
sign_none_set page n true h = absurd (true≢false h)
sign_none_set page n false h = refl

-- the bytes from place k on
pub tail_is : (w : List ℕ) (k : ℕ) → take (length w - k) (drop k w) ≡ drop k w
tail_is w k = take_all (length w - k) (drop k w) (omega (arith, length-drop k w))

tail_length : (w : List ℕ) (k : ℕ) → length (take (length w - k) (drop k w)) ≡ length w - k
tail_length w k = ap length (tail_is w k) ∙ length-drop k w

pub below : (w : List ℕ) (k : ℕ) → 0 < length w → k ≡ skipped w → k < length w
below w k h e = omega (arith, e, skipped_less w h)

-- a word is counted
module _ (w : List ℕ) (n k : ℕ) (minus : Bool) (g m : ℕ) (sk : k ≡ skipped w) (sg : minus ≡ sign_kept w k) (gp : g ≡ n + length (gap n)) (sn : m ≡ g + length (sign minus)) where
  same_sign : length (sign minus) ≡ length (sign (sign_kept w (skipped w)))
  same_sign = ap (λ (t : Bool). length (sign t)) (sg ∙ ap (sign_kept w) sk)

  pub counted : m + (length w - k) ≡ n + length (piece n w)
  counted = omega (arith, sk, gp, sn, same_sign, piece_length n w)

pub gap_bound : (n g : ℕ) → n ≤ 131072 → g ≡ n + length (gap n) → g ≤ 131073
gap_bound n g h e = omega (arith, h, e, gap_short n)

pub sign_bound : (g m : ℕ) (minus : Bool) → g ≤ 131073 → m ≡ g + length (sign minus) → m ≤ 131074
sign_bound g m minus h e = omega (arith, h, e, sign_short minus)

-- ---- stores one after the other

pub sets_append : (a b l : List ℕ) (n : ℕ) → sets l n (a ++ b) ≡ sets (sets l n a) (n + length a) b
sets_append [] b l n = let e : n + 0 ≡ n = omega arith in ap (λ (k : ℕ). sets l k b) (sym e)
sets_append (x ∷ a) b l n =
    let e : suc n + length a ≡ n + suc (length a) = omega arith in
    sets_append a b (set l n x) (suc n) ∙ ap (λ (k : ℕ). sets (sets (set l n x) (suc n) a) k b) e

-- bytes copied to the part of a page from n on
pub copied_there : (bytes new page : List ℕ) (n k : ℕ) → new ≡ bytes → k ≡ length bytes → n + length bytes ≤ length page → put_mid n k page new ≡ sets page n bytes
copied_there bytes new page n k e f h =
    put_mid-paste n k page new bytes (length bytes) e (sym f) refl
    ∙ ap (λ (l : List ℕ). take n page ++ l ++ drop (n + length bytes) page) (take_all (length bytes) bytes (omega arith))
    ∙ sym (sets-eq bytes page n h)

-- a word is written: its gap, its sign, the bytes that are copied
module _ (w page : List ℕ) (n k : ℕ) (minus : Bool) (some : 0 < length w) (room : n + length (piece n w) ≤ length page) (sk : k ≡ skipped w) (sg : minus ≡ sign_kept w k) where
  pub first_room : n < length page
  first_room = omega (arith, room, piece_length n w, skipped_less w some)

  module _ (g : ℕ) (p₁ : List ℕ) (gp : (g ≡ n + length (gap n)) × (p₁ ≡ sets page n (gap n))) where
    pub second_room : g < length p₁
    second_room = omega (arith, room, piece_length n w, skipped_less w some, gp.0, ap length gp.1, length-sets page n (gap n))

    module _ (m : ℕ) (p₂ : List ℕ) (sn : (m ≡ g + length (sign minus)) × (p₂ ≡ sets p₁ g (sign minus))) where
      abbrev tail : List ℕ
      tail = take (length w - k) (drop k w)

      pub third_room : m + length tail ≤ length p₂
      third_room =
          omega (arith, room, counted w n k minus g m sk sg gp.0 sn.0, tail_length w k, ap length gp.1, length-sets page n (gap n), ap length sn.1, length-sets p₁ g (sign minus))

      pub written : (r : ℕ) (p₃ : List ℕ) → (r ≡ m + length tail) × (p₃ ≡ sets p₂ m tail) → (r ≡ n + length (piece n w)) × (p₃ ≡ sets page n (piece n w))
      written r p₃ cp = (
        omega (arith, cp.0, counted w n k minus g m sk sg gp.0 sn.0, tail_length w k),
        cp.1 ∙ (λ j. sets (sn.1 j) (sn.0 j) (copied j)) ∙ sym (sets_append (sign minus) (drop (skipped w) w) p₁ g) ∙ (λ j. sets (gp.1 j) (gp.0 j) (kept j ++ drop (skipped w) w)) ∙
            sym (sets_append (gap n) (sign (sign_kept w (skipped w)) ++ drop (skipped w) w) page n) ∙ ap (sets page n) (sym (piece_as n w)),
      )
        where
          copied : tail ≡ drop (skipped w) w
          copied = tail_is w k ∙ ap (λ (j : ℕ). drop j w) sk

          kept : sign minus ≡ sign (sign_kept w (skipped w))
          kept = ap sign (sg ∙ ap (sign_kept w) sk)
