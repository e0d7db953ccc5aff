-- What it says that a number names a node, or none, and that a name is one of the nine, or none.
use Prim.Native.Nat.{ℕ, zero, suc}
use mathlib.Core.Path.{◌≡◌, refl}
use mathlib.Core.Bool.{false, not}
use native.Mathlib.Omega.{arith}
use borrow.Author.Tests.{ne_eqb}
use lib.Dec.{eqb}
use Rattle.std.specs.Prelude.{Some, None}
use Rattle.std.specs.Bool.{then_some}
use Rattle.nodes.specs.Nodes.{some_node}
use Rattle.nodes.specs.Meanings.{number}
use Rattle.nodes.specs.declared.Meaning.{Meaning}
use Rattle.nodes.specs.declared.Meaning.TheVariants.{True, False, Not, Eq, Lt, Add, Sub, Mul, Div}

apart : (n : ℕ) → eqb (suc n) 0 ≡ false
apart n = ne_eqb (suc n) 0 λ e. omega arith

pub tested : (n : ℕ) → then_some (not (eqb n 0)) n ≡ some_node n
unfolding some_node
tested zero = refl
tested (suc n) = rw (apart n)

-- no node: the number is 0
pub is_none : (n : ℕ) → None ≡ some_node n → n ≡ 0
unfolding some_node
is_none zero h = refl
is_none (suc n) h = absurd cc

-- a node: the number is its own, and is not 0
pub is_some : (n : ℕ) {b : ℕ} → Some b ≡ some_node n → b ≡ n
unfolding some_node
is_some zero h = absurd cc
is_some (suc n) h = cc

pub is_there : (n : ℕ) {b : ℕ} → Some b ≡ some_node n → eqb n 0 ≡ false
unfolding some_node
is_there zero h = absurd cc
is_there (suc n) h = apart n

-- a number that is 0 names none, and any other a node
pub none_is : (n : ℕ) → n ≡ 0 → None ≡ some_node n
unfolding some_node
none_is zero h = refl
none_is (suc n) h = absurd cc

pub some_is : (n : ℕ) → (n ≡ 0 → ⊥) → Some n ≡ some_node n
unfolding some_node
some_is zero h = absurd (h refl)
some_is (suc n) h = refl

-- one of the nine has no number 0
pub is_one : (m : Meaning) → eqb (number m) 0 ≡ false
is_one True = refl
is_one False = refl
is_one Not = refl
is_one Eq = refl
is_one Lt = refl
is_one Add = refl
is_one Sub = refl
is_one Mul = refl
is_one Div = refl
