-- One more round of each loop's definition, where `i` rounds of `n` are over, and the pass's first and last rounds.
use Prim.Native.Nat.{ℕ, suc, ◌+◌, ◌-◌, ◌<◌, ◌≤◌}
use mathlib.Core.Path.{◌≡◌, ap}
use mathlib.Core.Bool.{false}
use mathlib.Core.List.{List}
use native.Mathlib.Omega.{arith}
use Rattle.judge.specs.Scopes.{find_from, named_from, scopes_from, scopes_of, scope_step, row_after}

left : (n i : ℕ) → i < n → n - i ≡ suc (n - (i + 1))
left n i h = omega arith

pub find_more : (n i : ℕ) → i < n → (x t S : List ℕ) (p e : ℕ) → find_from x t S p (n - i) e ≡ find_from x t S p (suc (n - (i + 1))) e
find_more n i h x t S p e = ap (λ j. find_from x t S p j e) (left n i h)

pub named_more : (n i : ℕ) → i < n → (x t S : List ℕ) (p e : ℕ) → named_from x t S p (n - i) e ≡ named_from x t S p (suc (n - (i + 1))) e
named_more n i h x t S p e = ap (λ j. named_from x t S p j e) (left n i h)

pub scopes_more : (n i : ℕ) → i < n → (x t : List ℕ) (row : ℕ) (S : List ℕ) →
    scopes_from x t (n - i) i row S ≡ scopes_from x t (n - (i + 1)) (i + 1) (row_after t i row) (scope_step x t S row i)
unfolding scopes_from
scopes_more n i h x t row S = ap (λ j. scopes_from x t j i row S) (left n i h)

over : (n i : ℕ) → n ≤ i → n - i ≡ 0
over n i h = omega arith

pub find_end : (n i : ℕ) → n ≤ i → (x t S : List ℕ) (p e : ℕ) → find_from x t S p (n - i) e ≡ 0
unfolding find_from
find_end n i h x t S p e = ap (λ j. find_from x t S p j e) (over n i h)

pub named_end : (n i : ℕ) → n ≤ i → (x t S : List ℕ) (p e : ℕ) → named_from x t S p (n - i) e ≡ false
unfolding named_from
named_end n i h x t S p e = ap (λ j. named_from x t S p j e) (over n i h)

pub scopes_start : (n : ℕ) (x t S : List ℕ) → scopes_from x t (n - 0) 0 0 S ≡ scopes_of x t n S
unfolding scopes_of
scopes_start n x t S = ap (λ j. scopes_from x t j 0 0 S) (omega arith)

pub scopes_end : (n i : ℕ) → n ≤ i → (x t : List ℕ) (row : ℕ) (S : List ℕ) → scopes_from x t (n - i) i row S ≡ S
unfolding scopes_from
scopes_end n i h x t row S = ap (λ j. scopes_from x t j i row S) (over n i h)
