-- For the writer's code: the digits of a number that a text writes are the text's own, without the zeros before them.
use mathlib.Core.Path.{◌≡◌, refl, sym, ◌∙◌, ap}
use mathlib.Core.Bool.{Bool, true, false, cond}
use mathlib.Core.List.{List, [], ◌∷◌, ◌++◌, append-nil, append_assoc}
use Prim.Native.Nat.{ℕ, zero, suc, ◌+◌, ◌-◌, ◌*◌, ◌/◌, ◌%◌, ◌≤◌, ◌<◌}
use native.Mathlib.Omega.{arith}
use borrow.Author.Tests.{ltb-false, lt-ltb, le-ltb, eqb-true, eqb-false}
use lib.Dec.{ltb, eqb}
use lib.ListN.{length}
use Rattle.language.specs.Words.{is_digit, stretch, decimal}
use Rattle.house_form.specs.House.{digits_in, digits}
use Rattle.house_form.proofs.Digits.{digit_range, whole_tail}

abbrev pub stripped : List ℕ → List ℕ  -- digits without the zeros before them; of zeros alone the last is left
stripped [] = []
stripped (b ∷ []) = b ∷ []
stripped (b ∷ d ∷ l) = cond (eqb b 48) (stripped (d ∷ l)) (b ∷ d ∷ l)

-- any count that is large enough gives the same digits
same_count : (k j n : ℕ) → n ≤ k → n ≤ j → digits_in k n ≡ digits_in j n
unfolding digits_in
same_count zero zero n h l = refl
same_count zero (suc j) n h l = let q : n ≡ 0 = omega arith in rw q
same_count (suc k) zero n h l = let q : n ≡ 0 = omega arith in rw q
same_count (suc k) (suc j) n h l = go (ltb n 10) refl (same_count k j (n / 10))
  where
    go : (t : Bool) → ltb n 10 ≡ t → (n / 10 ≤ k → n / 10 ≤ j → digits_in k (n / 10) ≡ digits_in j (n / 10)) →
        ◌≡◌ {A = List ℕ} (elim t as (λ _. List ℕ) [ true ↦ (48 + n) ∷ [] | false ↦ digits_in k (n / 10) ++ ((48 + n % 10) ∷ []) ])
        (elim t as (λ _. List ℕ) [ true ↦ (48 + n) ∷ [] | false ↦ digits_in j (n / 10) ++ ((48 + n % 10) ∷ []) ])
    go true e ih = refl
    go false e ih = let b : 10 ≤ n = ltb-false n 10 e in ap (λ (l : List ℕ). l ++ ((48 + n % 10) ∷ [])) (ih (omega arith) (omega arith))

one_more : (k n : ℕ) → 10 ≤ n → n ≤ suc k → digits_in (suc k) n ≡ digits (n / 10) ++ ((48 + n % 10) ∷ [])
unfolding digits_in
one_more k n h l =
    ap (λ (t : Bool). elim t as (λ _. List ℕ) [ true ↦ (48 + n) ∷ [] | false ↦ digits_in k (n / 10) ++ ((48 + n % 10) ∷ []) ]) (le-ltb n 10 h) ∙
    ap (λ (d : List ℕ). d ++ ((48 + n % 10) ∷ [])) (same_count k (n / 10) (n / 10) (omega arith) (omega arith))

-- a digit behind a number that is not 0
digits_more : (n d : ℕ) → 1 ≤ n → d < 10 → digits (n * 10 + d) ≡ digits n ++ ((48 + d) ∷ [])
digits_more n d h l = go (n * 10 + d) refl
  where
    go : (m : ℕ) → n * 10 + d ≡ m → digits_in m m ≡ digits n ++ ((48 + d) ∷ [])
    go zero e = absurd (omega arith)
    go (suc k) e =
        let q : suc k / 10 ≡ n = omega arith in let r : suc k % 10 ≡ d = omega arith in
        one_more k (suc k) (omega arith) (omega arith) ∙ (ap (λ (x : ℕ). digits x ++ ((48 + suc k % 10) ∷ [])) q ∙ ap (λ (x : ℕ). digits n ++ ((48 + x) ∷ [])) r)

digits_behind : (l : List ℕ) (n : ℕ) → 1 ≤ n → stretch is_digit l ≡ l → digits (decimal n l) ≡ digits n ++ l
digits_behind [] n h e = sym (append-nil (digits n))
digits_behind (x ∷ l) n h e =
    let w = whole_tail is_digit x l e in
    let r = digit_range x w.0 in
    let q : 48 + (x - 48) ≡ x = omega (arith, r) in
    digits_behind l (n * 10 + (x - 48)) (omega (arith, h)) w.1 ∙
    (ap (λ (d : List ℕ). d ++ l) (digits_more n (x - 48) h (omega (arith, r))) ∙
    (append_assoc (digits n) ((48 + (x - 48)) ∷ []) l ∙ ap (λ (b : ℕ). digits n ++ (b ∷ l)) q))

small : (k n : ℕ) → n < 10 → digits_in k n ≡ (48 + n) ∷ []
unfolding digits_in
small zero n h = refl
small (suc k) n h =
    ap (λ (t : Bool). elim t as (λ _. List ℕ) [ true ↦ (48 + n) ∷ [] | false ↦ digits_in k (n / 10) ++ ((48 + n % 10) ∷ []) ]) (lt-ltb n 10 h)

one_digit : (b : ℕ) → is_digit b ≡ true → digits (b - 48) ≡ b ∷ []
one_digit b e =
    let r = digit_range b e in let q : 48 + (b - 48) ≡ b = omega (arith, r) in
    small (b - 48) (b - 48) (omega (arith, r)) ∙ ap (λ (x : ℕ). x ∷ []) q

first_digit : (b : ℕ) (l : List ℕ) → decimal 0 (b ∷ l) ≡ decimal (b - 48) l
first_digit b l = let q : 0 * 10 + (b - 48) ≡ b - 48 = omega arith in ap (λ (n : ℕ). decimal n l) q

-- The digits of the number that a text's digits write.
pub digits_stripped : (b : ℕ) (l : List ℕ) → stretch is_digit (b ∷ l) ≡ b ∷ l → digits (decimal 0 (b ∷ l)) ≡ stripped (b ∷ l)
digits_stripped b [] e = ap digits (first_digit b []) ∙ one_digit b (whole_tail is_digit b [] e).0
digits_stripped b (d ∷ l) e = go (eqb b 48) refl (digits_stripped d l (whole_tail is_digit b (d ∷ l) e).1)
  where
    go : (t : Bool) → eqb b 48 ≡ t → digits (decimal 0 (d ∷ l)) ≡ stripped (d ∷ l) → digits (decimal 0 (b ∷ d ∷ l)) ≡ cond t (stripped (d ∷ l)) (b ∷ d ∷ l)
    go true q ih =
        let z : b ≡ 48 = eqb-true b 48 q in let y : b - 48 ≡ 0 = omega arith in
        ap digits (first_digit b (d ∷ l) ∙ ap (λ (n : ℕ). decimal n (d ∷ l)) y) ∙ ih
    go false q ih =
        let w = whole_tail is_digit b (d ∷ l) e in
        let r = digit_range b w.0 in
        let n : ¬ (b ≡ 48) = eqb-false b 48 q in
        ap digits (first_digit b (d ∷ l)) ∙ (digits_behind (d ∷ l) (b - 48) (omega (arith, r, n)) w.1 ∙ ap (λ (x : List ℕ). x ++ (d ∷ l)) (one_digit b w.0))

pub stripped_short : (b : ℕ) (l : List ℕ) → length (stripped (b ∷ l)) ≤ length (b ∷ l)
stripped_short b [] = omega arith
stripped_short b (d ∷ l) = go (eqb b 48) (stripped_short d l)
  where
    go : (t : Bool) → length (stripped (d ∷ l)) ≤ length (d ∷ l) → length (cond t (stripped (d ∷ l)) (b ∷ d ∷ l)) ≤ length (b ∷ d ∷ l)
    go true h = omega (arith, h)
    go false h = omega arith
