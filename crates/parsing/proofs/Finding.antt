-- The rules of a symbol, and the loop over them.
use mathlib.Core.Path.{◌≡◌, refl}
use mathlib.Core.List.{List, []}
use Prim.Native.Nat.{ℕ, ◌+◌, ◌-◌, ◌/◌, ◌%◌, ◌<◌, ◌≤◌}
use native.Mathlib.Numerals.{add-one}
use native.Mathlib.Omega.{arith}
use lib.ListN.{length, get_or, drop, drop_of_length-le, get_or-eq_default}
use lib.Seq.{drop-cons}
use borrow.Author.Tests.{eq-eqb, ne_eqb}
use Rattle.std.specs.Prelude.{Some, None}
use Rattle.parsing.specs.Steps.{sym_in, found, rule_in}

-- at the rule of place i
module _ (rules : List ℕ) (k i : ℕ) where
  pub ended : length rules ≤ i → found k (drop i rules) ≡ None
  unfolding found
  ended h = let e : drop i rules ≡ [] = drop_of_length-le rules h in rw e refl

  module _ (inside : i < length rules) where
    pub it_is : k ≡ get_or rules i 0 / 33554432 → found k (drop i rules) ≡ Some (record { bits = get_or rules i 0 % 33554432 })
    unfolding found
    it_is e = rw (drop-cons rules i 0 inside, eq-eqb k (get_or rules i 0 / 33554432) e) refl

    pub it_is_not : (k ≡ get_or rules i 0 / 33554432 → ⊥) → found k (drop i rules) ≡ found k (drop (i + 1) rules)
    unfolding found
    it_is_not e = rw (drop-cons rules i 0 inside, ne_eqb k (get_or rules i 0 / 33554432) e, add-one i) refl

-- a symbol that is none has no rules
pub no_symbol : (rules starts : List ℕ) (w x : ℕ) → length starts ≤ sym_in w + 1 → rule_in rules starts w x ≡ None
unfolding found
no_symbol rules starts w x h =
    let e : get_or starts (sym_in w + 1) 0 ≡ 0 = get_or-eq_default starts 0 h in
    let none : get_or starts (sym_in w + 1) 0 - get_or starts (sym_in w) 0 ≡ 0 = omega (arith, e) in
    rw none refl
