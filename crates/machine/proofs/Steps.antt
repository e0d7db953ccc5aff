-- How far a jump leads, and how many steps a name takes: the bindings in force stand in blocks of 1, 3, 7, 15, ... bindings, and a jump is over one block.
use mathlib.Core.Path.{◌≡◌, refl, sym, ap, subst}
use mathlib.Core.Logic.{⊎_elim}
use mathlib.Core.Bool.{Bool, true, false, cond}
use mathlib.Core.List.{List, [], ◌∷◌}
use Prim.Native.Nat.{ℕ, zero, suc, ◌+◌, ◌≤◌}
use native.Mathlib.Nat.{le_trans, not-suc-le-zero}
use native.Mathlib.Omega.{arith}
use lib.Dec.{T, eqb, eqb→eq}
use borrow.Author.Tests.{eq-eqb, ne_eqb, eqb-false}
use Rattle.language.specs.Syntax.{Name}
use Rattle.nodes.proofs.Links.{below_or_not}
use Rattle.machine.specs.Entries.{first_free}
use Rattle.machine.specs.Codes.{code_over}

-- how many bindings a block of rank r has
unfoldable pub full : ℕ → ℕ
full zero = 0
full (suc r) = suc (full r + full r)

-- the first of some ranks, 0 where there is none, and the others
abbrev pub head : List ℕ → ℕ
head [] = 0
head (r ∷ l) = r

abbrev pub tail : List ℕ → List ℕ
tail [] = []
tail (r ∷ l) = l

-- one binding more: with two equal blocks it makes one of the next rank, else it is a block of its own
unfoldable pub more : List ℕ → List ℕ
more l = cond (eqb (full (head l)) (full (head (tail l)))) (suc (head l) ∷ tail (tail l)) (1 ∷ l)

-- the ranks of the blocks in which some names stand, the latest first
unfoldable pub blocks : List Name → List ℕ
blocks [] = []
blocks (x ∷ Γ) = more (blocks Γ)

-- how many bindings some blocks have
unfoldable pub total : List ℕ → ℕ
total [] = 0
total (r ∷ l) = full r + total l

pub total_is : (l : List ℕ) → total l ≡ full (head l) + total (tail l)
unfolding total full
total_is [] = refl
total_is (r ∷ l) = refl

-- what one binding more does, by its test
pub data More (l : List ℕ) : List ℕ → Type 0 where
  joined : full (head l) ≡ full (head (tail l)) → More l (suc (head l) ∷ tail (tail l))
  single : (full (head l) ≡ full (head (tail l)) → ⊥) → More l (1 ∷ l)

pub more_is : (l : List ℕ) → More l (more l)
unfolding more
more_is l = by-test (eqb (full (head l)) (full (head (tail l)))) refl
  where
    by-test : (b : Bool) → eqb (full (head l)) (full (head (tail l))) ≡ b → More l (cond b (suc (head l) ∷ tail (tail l)) (1 ∷ l))
    by-test true e = joined (eqb→eq _ _ (subst T (sym e) tt))
    by-test false e = single (eqb-false _ _ e)

total_more : {l k : List ℕ} → More l k → total k ≡ suc (total l)
unfolding total full
total_more {l} (joined e) = let a = total_is l in let b = total_is (tail l) in omega (arith, a, b, e)
total_more {l} (single e) = omega arith

-- the code of the latest binding by the blocks
pub code_blocks : (Γ : List Name) → code_over Γ ≡ first_free + total (blocks Γ)
unfolding code_over blocks total
code_blocks [] = refl
code_blocks (x ∷ Γ) = let h = code_blocks Γ in let e = total_more (more_is (blocks Γ)) in omega (arith, h, e)

-- ---- ranks

pub full_up : (r s : ℕ) → r ≤ s → full r ≤ full s
unfolding full
full_up zero s h = omega arith
full_up (suc r) zero h = absurd (not-suc-le-zero h)
full_up (suc r) (suc s) h = let k = full_up r s (omega arith) in omega (arith, k)

pub full_none : (r : ℕ) → r + r ≤ 0 → full r ≡ 0
unfolding full
full_none zero h = refl
full_none (suc r) h = absurd (omega (arith, h))

pub full_most : (r s : ℕ) → full r ≤ full s → r ≤ s
unfolding full
full_most r s h = ⊎_elim (λ l. let k = full_up (suc s) r l in absurd (omega (arith, k, h))) (λ l. l) (below_or_not s r)

thirteen : full 13 ≡ 8191
unfolding full
thirteen = refl

-- of a block with at most 4,096 bindings
rank_most : (r : ℕ) → full r ≤ 4096 → r ≤ 12
rank_most r h = ⊎_elim (λ l. let k = full_up 13 r l in absurd (omega (arith, k, h, thirteen))) (λ l. l) (below_or_not 12 r)

-- blocks whose ranks rise, from r on
pub data Up : ℕ → List ℕ → Type 0 where
  up_none : {r : ℕ} → Up r []
  up_more : {r s : ℕ} {l : List ℕ} → r ≤ s → s ≤ 12 → Up (suc s) l → Up r (s ∷ l)

-- only the first two may be equal
pub data Heap : List ℕ → Type 0 where
  heap_none : Heap []
  heap_more : {r : ℕ} {l : List ℕ} → 1 ≤ r → r ≤ 12 → Up r l → Heap (r ∷ l)

up_from : {r s : ℕ} {l : List ℕ} → r ≤ s → Up s l → Up r l
up_from h up_none = up_none
up_from h (up_more a b c) = up_more (le_trans h a) b c

full_some : (r : ℕ) → 1 ≤ r → full r ≡ 0 → ⊥
unfolding full
full_some zero h e = not-suc-le-zero h
full_some (suc r) h e = omega (arith, e)

heap_step : {l k : List ℕ} → Heap l → More l k → total k ≤ 4096 → Heap k
unfolding total full
heap_step heap_none (joined e) h = heap_more {r = 1} (omega arith) (omega arith) up_none
heap_step heap_none (single n) h = absurd (n refl)
heap_step (heap_more a b up_none) (joined e) h = absurd (full_some _ a e)
heap_step (heap_more a b up_none) (single n) h = heap_more {r = 1} (omega arith) (omega arith) (up_more a b up_none)
heap_step (heap_more {r = r} a b (up_more c d u)) (joined e) h = heap_more {r = suc r} (omega arith) (rank_most (suc r) (omega (arith, h))) (up_from (omega arith) u)
heap_step (heap_more {r = r} a b (up_more {s = s} c d u)) (single n) h =
    heap_more {r = 1} (omega arith) (omega arith) (up_more a b (up_more (⊎_elim (λ l. l) (λ l. absurd (n (ap full (same l)))) (below_or_not r s)) d u))
  where
    same : s ≤ r → r ≡ s
    same l = omega (arith, c, l)

pub heap : (Γ : List Name) → total (blocks Γ) ≤ 4096 → Heap (blocks Γ)
unfolding blocks
heap [] h = heap_none
heap (x ∷ Γ) h = let e = total_more (more_is (blocks Γ)) in heap_step (heap Γ (omega (arith, e, h))) (more_is (blocks Γ)) h

-- ---- the machine's test for two equal jumps, by the codes at their ends

same_test : (a b c d : ℕ) → (a ≡ b → c ≡ d) → (c ≡ d → a ≡ b) → eqb a b ≡ eqb c d
same_test a b c d f h = go (eqb a b) refl
  where
    go : (t : Bool) → eqb a b ≡ t → t ≡ eqb c d
    go true e = sym (eq-eqb c d (f (eqb→eq a b (subst T (sym e) tt))))
    go false e = sym (ne_eqb c d (λ q. eqb-false a b e (h q)))

-- the jump from l leads over its first block, the next one over the second
pub equal_jumps : (l : List ℕ) (c d e : ℕ) → c ≡ first_free + total l → d ≡ first_free + total (tail l) → e ≡ first_free + total (tail (tail l)) →
    eqb (c + e) (d + d) ≡ eqb (full (head l)) (full (head (tail l)))
equal_jumps l c d e hc hd he =
    let a = total_is l in let b = total_is (tail l) in
    same_test (c + e) (d + d) (full (head l)) (full (head (tail l))) (λ q. omega (arith, a, b, hc, hd, he, q)) (λ q. omega (arith, a, b, hc, hd, he, q))
