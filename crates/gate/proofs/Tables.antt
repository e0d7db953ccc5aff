-- Tables: which are large enough, what is zero in them, and the tree words of a text.
use mathlib.Core.Path.{◌≡◌, refl, sym, ◌∙◌, ap}
use mathlib.Core.Bool.{Bool, true, false, cond}
use mathlib.Core.List.{List, [], ◌∷◌, ◌++◌, append_assoc}
use Prim.Native.Nat.{ℕ, zero, suc, ◌+◌, ◌-◌, ◌≤◌}
use native.Mathlib.Omega.{arith}
use lib.Dec.{leb}
use lib.ListN.{length, take, drop, get_or, replicate, length-append, length-replicate}
use lib.Seq.{take_at}
use borrow.Author.Tests.{leb-true}
use Rattle.language.specs.Promises.{Lent, large_enough, zeroed, holding, cleared}
use Rattle.limits.specs.Cleared as limits
use Rattle.limits.proofs.Cleared.{zeroed_is}
use Rattle.machine.proofs.Relation.{Kept}

-- ---- which are large enough

never_false : {A : Type 0} → false ≡ true → A
never_false e = absurd (let z : ◌≡◌ {A = ℕ} 0 1 = ap (λ t. cond t 1 0) e in omega arith)

-- both tests hold
pub both : (t u : Bool) → cond t u false ≡ true → (t ≡ true) × (u ≡ true)
both true u e = (refl, e)
both false u e = never_false e

pub fits_in : (n : ℕ) (l : List ℕ) (u : Bool) → cond (leb n (length l)) u false ≡ true → n ≤ length l
fits_in n l u e = leb-true n (length l) (both (leb n (length l)) u e).0

-- the first tables are large enough, and so are those behind them
pub front_large : (ts us : List Lent) → large_enough (ts ++ us) ≡ true → large_enough ts ≡ true
front_large [] us e = refl
front_large (t ∷ ts) us e =
    let h = both (leb t.size (length t.holds)) (large_enough (ts ++ us)) e in
    ap (λ b. cond b (large_enough ts) false) h.0 ∙ front_large ts us h.1

pub rest_large : (ts us : List Lent) → large_enough (ts ++ us) ≡ true → large_enough us ≡ true
rest_large [] us e = e
rest_large (t ∷ ts) us e = rest_large ts us (both (leb t.size (length t.holds)) (large_enough (ts ++ us)) e).1

pub cleared_append : (ts us : List Lent) → cleared (ts ++ us) ≡ cleared ts ++ cleared us
cleared_append [] us = refl
cleared_append (t ∷ ts) us = ap (λ l. zeroed t.size t.holds ∷ l) (cleared_append ts us)

-- ---- what is zero

-- clearing what a run has left beyond n is clearing what it was lent
pub cleared_kept : (n : ℕ) (old now : List ℕ) → n ≤ length old → Kept n old now → limits.zeroed 0 n now ≡ zeroed n old
cleared_kept n old now h k =
    let long = k.long in
    zeroed_is 0 n now (omega arith) ∙ ap (λ l. replicate n 0 ++ l) k.beyond

pub cleared_lent : (n : ℕ) (l : List ℕ) → n ≤ length l → limits.zeroed 0 n l ≡ zeroed n l
cleared_lent n l h = zeroed_is 0 n l h

-- ---- the tree words

no_more : (n j : ℕ) → ◌≡◌ {A = ℕ} (get_or (replicate n 0) j 0) 0
no_more zero j = refl
no_more (suc n) zero = refl
no_more (suc n) (suc j) = no_more n j

zeros_behind : (l : List ℕ) (n j : ℕ) → get_or (l ++ replicate n 0) j 0 ≡ get_or l j 0
zeros_behind [] n j = no_more n j
zeros_behind (x ∷ l) n zero = refl
zeros_behind (x ∷ l) n (suc j) = zeros_behind l n j

-- the first n words are the tree and then zeros
pub first_words : (n : ℕ) (l t : List ℕ) → length l ≤ n → take n (holding n l t) ≡ l ++ replicate (n - length l) 0
first_words n l t h =
    let long : length (l ++ replicate (n - length l) 0) ≡ n = length-append l _ ∙ ap (λ k. length l + k) (length-replicate (n - length l) 0) ∙ omega arith in
    ap (take n) (sym (append_assoc l (replicate (n - length l) 0) (drop n t))) ∙ take_at (l ++ replicate (n - length l) 0) (drop n t) n long

pub word_of_tree : (n : ℕ) (l t : List ℕ) → length l ≤ n → (j : ℕ) → get_or (take n (holding n l t)) j 0 ≡ get_or l j 0
word_of_tree n l t h j = ap (λ w. get_or w j 0) (first_words n l t h) ∙ zeros_behind l (n - length l) j
