-- The names in force as the code knows them: a stack of binders' nodes.
use Rattle.std.specs.Prelude.{ℕ, zero, suc, ◌<◌, ◌≡◌, List, [], ◌∷◌, Option, Some, None, eqb, ltb, length, get_or, set}
use Rattle.std.proofs.Math.Option as names
use Rattle.language.specs.Syntax.{Name}
use Rattle.nodes.specs.Trees.{Script}
use Rattle.machine.specs.Entries.{pick}
use Rattle.machine.specs.Leaves.{is_param}
use Rattle.machine.specs.Codes.{name_of}

-- the own name of a recursive definition, by its node
unfoldable pub own_binder : (kind child : ℕ) → Option ℕ
own_binder k c = pick (eqb k 4) (λ _. Some c) λ _. pick (eqb k 7) (λ _. Some c) λ _. pick (eqb k 33) (λ _. Some c) λ _. None

-- what a node of this kind binds for its siblings
unfoldable pub binder_of : (kind i child : ℕ) → Option ℕ
binder_of k i c =
    pick (ltb k 2) (λ _. None) λ _. pick (ltb k 8) (λ _. Some c) λ _. pick (is_param k) (λ _. Some i) λ _. pick (ltb k 32) (λ _. None) λ _. Some c

-- a binder that counts for the last node of a row only, and one that counts for all others
unfoldable pub when_last : (next : ℕ) (binder : Option ℕ) → Option ℕ
when_last n b = pick (eqb n 0) (λ _. b) λ _. None

unfoldable pub when_more : (next : ℕ) (binder : Option ℕ) → Option ℕ
when_more n b = pick (eqb n 0) (λ _. None) λ _. b

-- the stack with this binder on it, and how deep it is then
unfoldable pub pushed : (scopes : List ℕ) (depth : ℕ) (binder : Option ℕ) → List ℕ
pushed s d None = s
pushed s d (Some i) = set s d i

unfoldable pub deeper : (depth : ℕ) (binder : Option ℕ) → ℕ
deeper d None = d
deeper d (Some i) = suc d

pub record Pushed (scopes : List ℕ) (depth : ℕ) (binder : Option ℕ) (scopes' : List ℕ) (depth' : ℕ) : Type 0 where
  pub stack_is : scopes' ≡ pushed scopes depth binder
  pub depth_is : depth' ≡ deeper depth binder

-- entries below the depth are as they were
pub record Kept (depth : ℕ) (before after : List ℕ) : Type 0 where
  pub size_kept : length after ≡ length before
  pub below : (j : ℕ) → j < depth → get_or after j 0 ≡ get_or before j 0

module _ (g : Script) where
  -- the names of the binders on a stack, the latest first
  unfoldable pub names_in : (scopes : List ℕ) (depth : ℕ) → List Name
  names_in s zero = []
  names_in s (suc d) = name_of g (get_or s d 0) ∷ names_in s d

  -- the name of a binder
  unfoldable pub binder_name : Option ℕ → names.Option Name
  binder_name None = names.none
  binder_name (Some i) = names.some (name_of g i)

-- one more name in force, or none
unfoldable pub joined : names.Option Name → List Name → List Name
joined names.none Γ = Γ
joined (names.some x) Γ = x ∷ Γ
