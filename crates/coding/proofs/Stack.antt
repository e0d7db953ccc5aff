-- The stack of binders is the names in force.
use mathlib.Core.Path.{◌≡◌, refl, ap, ◌∙◌}
use mathlib.Core.Bool.{Bool, true, false}
use mathlib.Core.List.{List, ◌∷◌}
use Prim.Native.Nat.{ℕ, zero, suc, ◌+◌, ◌-◌, ◌≤◌, ◌<◌}
use native.Mathlib.Omega.{arith}
use lib.ListN.{length, get_or, set, length-set}
use lib.Seq.{get_or-set_same, get_or-set_other}
use Rattle.std.specs.Prelude.{Option, Some, None, IsSome}
use Rattle.language.specs.Bytes.{same_bytes}
use Rattle.language.specs.Syntax.{Name}
use Rattle.language.specs.Words.{name_at}
use Rattle.nodes.specs.Nodes.{node_at}
use Rattle.nodes.specs.Trees.{Script}
use Rattle.machine.specs.Codes.{name_of, code_over, level_among}
use Rattle.coding.specs.Stack.{pushed, deeper, Pushed, Kept, names_in, binder_name, joined}

-- ---- what is kept

pub kept_all : (d : ℕ) (s : List ℕ) → Kept d s s
kept_all d s = record { size_kept = refl; below = λ j h. refl }

pub kept_both : (d e : ℕ) (r s t : List ℕ) → d ≤ e → Kept d r s → Kept e s t → Kept d r t
kept_both d e r s t l a b = record { size_kept = b.size_kept ∙ a.size_kept; below = λ j h. b.below j (omega arith) ∙ a.below j h }

pub pushed_kept : (s : List ℕ) (d : ℕ) (b : Option ℕ) → Kept d s (pushed s d b)
unfolding pushed
pushed_kept s d None = kept_all d s
pushed_kept s d (Some b) = record { size_kept = length-set s d b; below = λ j h. get_or-set_other s d j b 0 (λ e. omega (arith, e, h)) }

-- ---- one binder more

pub no_push : (s : List ℕ) (d : ℕ) → Pushed s d None s d
unfolding pushed deeper
no_push s d = record { stack_is = refl; depth_is = refl }

pub one_push : (s : List ℕ) (d i : ℕ) (t : List ℕ) → t ≡ set s d i → Pushed s d (Some i) t (d + 1)
unfolding pushed deeper
one_push s d i t e = record { stack_is = e; depth_is = omega arith }

pub deeper_most : (d : ℕ) (b : Option ℕ) → deeper d b ≤ d + 1
unfolding deeper
deeper_most d None = omega arith
deeper_most d (Some b) = omega arith

pub deeper_least : (d : ℕ) (b : Option ℕ) → d ≤ deeper d b
unfolding deeper
deeper_least d None = omega arith
deeper_least d (Some b) = omega arith

pub deeper_none : (d : ℕ) → deeper d None ≡ d
unfolding deeper
deeper_none d = refl

module _ (g : Script) where
  pub names_kept : (s t : List ℕ) (d : ℕ) → Kept d s t → names_in g t d ≡ names_in g s d
  unfolding names_in
  names_kept s t zero k = refl
  names_kept s t (suc d) k =
      ap (λ (i : ℕ). name_of g i ∷ names_in g t d) (k.below d (omega arith)) ∙
      ap (λ (Γ : List Name). name_of g (get_or s d 0) ∷ Γ) (names_kept s t d (record { size_kept = k.size_kept; below = λ j h. k.below j (omega arith) }))

  pub names_pushed : (s : List ℕ) (d : ℕ) (b : Option ℕ) → (IsSome b → d < length s) → names_in g (pushed s d b) (deeper d b) ≡ joined (binder_name g b) (names_in g s d)
  unfolding names_in pushed deeper binder_name joined
  names_pushed s d None h = refl
  names_pushed s d (Some b) h =
      ap (λ (i : ℕ). name_of g i ∷ names_in g (set s d b) d) (get_or-set_same s d b 0 (h refl)) ∙
      ap (λ (Γ : List Name). name_of g b ∷ Γ) (names_kept s (set s d b) d (pushed_kept s d (Some b)))

  -- ---- the latest of a name

  pub code_over_lem : (s : List ℕ) (d : ℕ) → code_over (names_in g s d) ≡ 10 + d
  unfolding names_in code_over
  code_over_lem s zero = refl
  code_over_lem s (suc d) = let h = code_over_lem s d in omega (arith, h)

  pub level_none : (s : List ℕ) (d : ℕ) (x : Name) → d ≤ 0 → 10 ≡ level_among (names_in g s d) x
  unfolding names_in level_among
  level_none s d x h = let z : d ≡ 0 = omega (arith, h) in rw z

  -- the binder on top of d binders, its node and its place
  module _ (s : List ℕ) (d : ℕ) (x : Name) (there : 0 < d) (i : ℕ) (i-is : i ≡ get_or s (d - 1) 0) (p : ℕ) (p-is : p ≡ (node_at g.tree i).place)
      (t : Bool) (t-is : t ≡ same_bytes (name_at g.text p) x) where
    top_is : level_among (names_in g s (suc (d - 1))) x ≡ level_among (names_in g s d) x
    top_is = ap (λ (k : ℕ). level_among (names_in g s k) x) (omega arith)

    pub level_found : t ≡ true → 11 + (d - 1) ≡ level_among (names_in g s d) x
    unfolding names_in level_among
    level_found h = rw (← top_is, ← i-is, ← p-is, ← t-is, h) (let o = code_over_lem s (d - 1) in omega (arith, o))

    pub level_next : t ≡ false → level_among (names_in g s (d - 1)) x ≡ level_among (names_in g s d) x
    unfolding names_in level_among
    level_next h = rw (← top_is, ← i-is, ← p-is, ← t-is, h)
