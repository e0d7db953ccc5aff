-- The digits of a number: they are digits, they write it, and they begin with a zero only where that is all.
use mathlib.Core.Path.{◌≡◌, refl, ◌∙◌, ap}
use mathlib.Core.Bool.{Bool, true, false, cond, ◌&&◌}
use mathlib.Core.List.{List, [], ◌∷◌, ◌++◌, append-nil}
use Prim.Native.Nat.{ℕ, zero, suc, ◌+◌, ◌-◌, ◌*◌, ◌/◌, ◌%◌, ◌≤◌, ◌<◌}
use native.Mathlib.Omega.{arith}
use borrow.Author.Tests.{ltb-true, ltb-false, leb-true, le-leb}
use lib.Dec.{ltb, leb}
use lib.ListN.{length, length-append}
use Rattle.language.specs.Words.{is_digit, stretch, decimal}
use Rattle.house_form.specs.House.{digits_in, digits}

-- ---- bytes that all pass a test: the longest front of them is the whole

pub whole_tail : (p : ℕ → Bool) (x : ℕ) (a : List ℕ) → stretch p (x ∷ a) ≡ x ∷ a → (p x ≡ true) × (stretch p a ≡ a)
whole_tail p x a e = go (p x) refl e
  where
    go : (t : Bool) → p x ≡ t → cond t (x ∷ stretch p a) [] ≡ x ∷ a → (p x ≡ true) × (stretch p a ≡ a)
    go true q e = (q, cc)
    go false q e = let z : ◌≡◌ {A = ℕ} 0 1 = cc in absurd (omega arith)

pub whole_append : (p : ℕ → Bool) (a b : List ℕ) → stretch p a ≡ a → stretch p (a ++ b) ≡ a ++ stretch p b
whole_append p [] b e = refl
whole_append p (x ∷ a) b e =
    let w = whole_tail p x a e in
    ap (λ (t : Bool). cond t (x ∷ stretch p (a ++ b)) []) w.0 ∙ ap (λ (l : List ℕ). x ∷ l) (whole_append p a b w.1)

pub whole_before : (p : ℕ → Bool) (a b : List ℕ) → stretch p a ≡ a → stretch p b ≡ [] → stretch p (a ++ b) ≡ a
whole_before p a b e f = whole_append p a b e ∙ (ap (λ (l : List ℕ). a ++ l) f ∙ append-nil a)

pub whole_both : (p : ℕ → Bool) (a b : List ℕ) → stretch p a ≡ a → stretch p b ≡ b → stretch p (a ++ b) ≡ a ++ b
whole_both p a b e f = whole_append p a b e ∙ ap (λ (l : List ℕ). a ++ l) f

pub stretch_whole : (p : ℕ → Bool) (a : List ℕ) → stretch p (stretch p a) ≡ stretch p a
stretch_whole p [] = refl
stretch_whole p (x ∷ a) = go (p x) refl (stretch_whole p a)
  where
    go : (t : Bool) → p x ≡ t → stretch p (stretch p a) ≡ stretch p a → stretch p (cond t (x ∷ stretch p a) []) ≡ cond t (x ∷ stretch p a) []
    go true e ih = rw (e, ih)
    go false e ih = refl

-- ---- digits

pub a_digit : (d : ℕ) → d < 10 → is_digit (48 + d) ≡ true
a_digit d h = let a : 48 ≤ 48 + d = omega arith in let b : 48 + d ≤ 57 = omega arith in rw (le-leb 48 (48 + d) a, le-leb (48 + d) 57 b)

pub digit_range : (x : ℕ) → is_digit x ≡ true → (48 ≤ x) × (x ≤ 57)
digit_range x e = go (leb 48 x) (leb x 57) refl refl e
  where
    go : (a b : Bool) → leb 48 x ≡ a → leb x 57 ≡ b → (a && b) ≡ true → (48 ≤ x) × (x ≤ 57)
    go true true p q e = (leb-true 48 x p, leb-true x 57 q)
    go true false p q e = let z : ◌≡◌ {A = ℕ} 0 1 = cc in absurd (omega arith)
    go false b p q e = let z : ◌≡◌ {A = ℕ} 0 1 = cc in absurd (omega arith)

one_digit : (d : ℕ) → d < 10 → stretch is_digit ((48 + d) ∷ []) ≡ (48 + d) ∷ []
one_digit d h = ap (λ (t : Bool). cond t ((48 + d) ∷ []) []) (a_digit d h)

in_digits : (k n : ℕ) → n ≤ k → stretch is_digit (digits_in k n) ≡ digits_in k n
unfolding digits_in
in_digits zero n h = one_digit n (omega arith)
in_digits (suc k) n h = go (ltb n 10) refl (in_digits k (n / 10))
  where
    go : (t : Bool) → ltb n 10 ≡ t → (n / 10 ≤ k → stretch is_digit (digits_in k (n / 10)) ≡ digits_in k (n / 10)) →
        stretch is_digit (elim t as (λ _. List ℕ) [ true ↦ (48 + n) ∷ [] | false ↦ digits_in k (n / 10) ++ ((48 + n % 10) ∷ []) ]) ≡
        elim t as (λ _. List ℕ) [ true ↦ (48 + n) ∷ [] | false ↦ digits_in k (n / 10) ++ ((48 + n % 10) ∷ []) ]
    go true e ih = one_digit n (ltb-true n 10 e)
    go false e ih = let b : 10 ≤ n = ltb-false n 10 e in whole_both is_digit (digits_in k (n / 10)) ((48 + n % 10) ∷ []) (ih (omega arith)) (one_digit (n % 10) (omega arith))

pub digits_whole : (n : ℕ) → stretch is_digit (digits n) ≡ digits n
digits_whole n = in_digits n n (omega arith)

decimal_append : (n : ℕ) (a : List ℕ) (b : ℕ) → decimal n (a ++ (b ∷ [])) ≡ decimal n a * 10 + (b - 48)
decimal_append n [] b = refl
decimal_append n (x ∷ a) b = decimal_append (n * 10 + (x - 48)) a b

in_decimal : (k n : ℕ) → n ≤ k → decimal 0 (digits_in k n) ≡ n
unfolding digits_in
in_decimal zero n h = omega arith
in_decimal (suc k) n h = go (ltb n 10) refl (in_decimal k (n / 10))
  where
    go : (t : Bool) → ltb n 10 ≡ t → (n / 10 ≤ k → decimal 0 (digits_in k (n / 10)) ≡ n / 10) →
        decimal 0 (elim t as (λ _. List ℕ) [ true ↦ (48 + n) ∷ [] | false ↦ digits_in k (n / 10) ++ ((48 + n % 10) ∷ []) ]) ≡ n
    go true e ih = omega arith
    go false e ih = let b : 10 ≤ n = ltb-false n 10 e in let i = ih (omega arith) in omega (arith, decimal_append 0 (digits_in k (n / 10)) (48 + n % 10), i)

pub digits_decimal : (n : ℕ) → decimal 0 (digits n) ≡ n
digits_decimal n = in_decimal n n (omega arith)

-- the first digit
pub record Headed (l : List ℕ) : Type 0 where
  pub head : ℕ
  pub rest : List ℕ
  pub is : l ≡ head ∷ rest
  pub digit : is_digit head ≡ true

headed : (l : List ℕ) → stretch is_digit l ≡ l → ¬ (l ≡ []) → Headed l
headed [] e n = absurd (n refl)
headed (x ∷ l) e n = record { head = x; rest = l; is = refl; digit = (whole_tail is_digit x l e).0 }

in_some : (k n : ℕ) → 1 ≤ length (digits_in k n)
unfolding digits_in
in_some zero n = omega arith
in_some (suc k) n = go (ltb n 10)
  where
    go : (t : Bool) → 1 ≤ length {A = ℕ} (elim t as (λ _. List ℕ) [ true ↦ (48 + n) ∷ [] | false ↦ digits_in k (n / 10) ++ ((48 + n % 10) ∷ []) ])
    go true = omega arith
    go false = omega (arith, length-append (digits_in k (n / 10)) ((48 + n % 10) ∷ []))

pub digits_headed : (n : ℕ) → Headed (digits n)
digits_headed n = headed (digits n) (digits_whole n) λ e. let h : length (digits n) ≡ 0 = ap length e in omega (arith, in_some n n)

-- ---- they begin with a zero only where that is all

in_plain : (k n : ℕ) → n ≤ k → (l : List ℕ) → digits_in k n ≡ 48 ∷ l → (n ≡ 0) × (l ≡ [])
unfolding digits_in
in_plain zero n h l e = (omega arith, cc)
in_plain (suc k) n h l e = go (ltb n 10) refl e (in_plain k (n / 10)) (in_some k (n / 10))
  where
    one : (48 + n) ∷ [] ≡ 48 ∷ l → (n ≡ 0) × (l ≡ [])
    one e = let a : 48 + n ≡ 48 = cc in let b : l ≡ [] = cc in (omega arith, b)

    more : (d : List ℕ) → 1 ≤ length d → d ++ ((48 + n % 10) ∷ []) ≡ 48 ∷ l → ((r : List ℕ) → d ≡ 48 ∷ r → n / 10 ≡ 0) → 10 ≤ n → ⊥
    more [] s e f b = omega (arith, s)
    more (x ∷ d) s e f b = let a : x ≡ 48 = cc in let z = f d (ap (λ (y : ℕ). y ∷ d) a) in omega (arith, z)

    go : (t : Bool) → ltb n 10 ≡ t → elim t as (λ _. List ℕ) [ true ↦ (48 + n) ∷ [] | false ↦ digits_in k (n / 10) ++ ((48 + n % 10) ∷ []) ] ≡ 48 ∷ l →
        (n / 10 ≤ k → (r : List ℕ) → digits_in k (n / 10) ≡ 48 ∷ r → (n / 10 ≡ 0) × (r ≡ [])) → 1 ≤ length (digits_in k (n / 10)) → (n ≡ 0) × (l ≡ [])
    go true q e ih s = one e
    go false q e ih s = let b : 10 ≤ n = ltb-false n 10 q in absurd (more (digits_in k (n / 10)) s e (λ r f. (ih (omega arith) r f).0) b)

pub plain_digits : (n : ℕ) → (decimal 0 (digits n) ≡ n) × ((l : List ℕ) → digits n ≡ 48 ∷ l → (n ≡ 0) × (l ≡ []))
plain_digits n = (digits_decimal n, in_plain n n (omega arith))
