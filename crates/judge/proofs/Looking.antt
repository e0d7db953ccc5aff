-- The binders that a node's scope leads to are the names in force there: a look-up along the scopes is a look-up among the names.
use Prim.Native.Nat.{ℕ, zero, suc, ◌+◌, ◌-◌, ◌*◌, ◌/◌, ◌%◌, ◌<◌, ◌≤◌}
use mathlib.Core.Path.{◌≡◌, refl, ap, sym, ◌∙◌, subst}
use mathlib.Core.Bool.{Bool, true, false, cond}
use mathlib.Core.List.{List, [], ◌∷◌, ◌++◌}
use mathlib.Core.Option.{Option, none, some}
use native.Mathlib.Omega.{arith}
use lib.Dec.{T, eqb}
use lib.ListN.{length}
use borrow.Author.Tests.{ne_eqb}
use Rattle.language.specs.Syntax.{Name}
use Rattle.language.specs.Bytes.{same_bytes}
use Rattle.language.specs.Names.{not, eq, lt, add, sub, mul, div, Meaning, literal, operator, free, lookup, meaning, unless_nine}
use Rattle.language.specs.Words.{name_at}
use Rattle.language.specs.Types.{Ty, Par, value, ref, Entity, plain, procedure, Ctx, find}
use Rattle.language.specs.Typing.{IsBase, among}
use Rattle.language.proofs.Typing.Names.{same_names}
use Rattle.nodes.specs.Names.{meaning_no}
use Rattle.judge.specs.Names.{same_name, nine_at}
use Rattle.judge.specs.Scopes.{pick, kind_at, place_at, child_at, next_at, env_at, role_at, behind_at, role_in, row_of, binds_of, inner_at, shown_at, outer_at, binder_place, find_from, named_from}
use Rattle.judge.specs.Rules.{binder_of, read_type, ref_type, is_proc}
use Rattle.judge.proofs.Shapes.{Nodes}
use Rattle.judge.proofs.Spelling.{pos_not, Spells, Row}
use Rattle.judge.proofs.Verdicts.{Run, Seat, below}

-- names are the same or not
same_name_lem : (a b : Name) → same_bytes a b ≡ true → a ≡ b
same_name_lem a b h = (same_names a b).0 (subst T (sym h) tt)

self_same : (a : Name) → same_bytes a a ≡ true
self_same a = by-test (same_bytes a a) ((same_names a a).1 refl)
  where
    by-test : (b : Bool) → T b → b ≡ true
    by-test true h = refl
    by-test false h = absurd h

-- two different names may change places, and one hides another of its name
swapped : (y f : Name) (P F : Entity) (Δ : Ctx) (z : Name) → same_bytes y f ≡ false → lookup ((y, P) ∷ (f, F) ∷ Δ) z ≡ lookup ((f, F) ∷ (y, P) ∷ Δ) z
swapped y f P F Δ z h = by_tests (same_bytes y z) refl (same_bytes f z) refl
  where
    by_tests : (a : Bool) → same_bytes y z ≡ a → (b : Bool) → same_bytes f z ≡ b
        → cond a (some P) (cond b (some F) (lookup Δ z)) ≡ cond b (some F) (cond a (some P) (lookup Δ z))
    by_tests true d true e =
        let w : same_bytes y f ≡ true = subst (λ w. same_bytes y w ≡ true) (same_name_lem y z d ∙ sym (same_name_lem f z e)) (self_same y) in
        let o : ◌≡◌ {A = ℕ} 0 1 = cc in absurd (omega arith)
    by_tests true d false e = refl
    by_tests false d true e = refl
    by_tests false d false e = refl

hidden : (f : Name) (P F : Entity) (Δ : Ctx) (z : Name) → lookup ((f, F) ∷ Δ) z ≡ lookup ((f, F) ∷ (f, P) ∷ Δ) z
hidden f P F Δ z = by-test (same_bytes f z)
  where
    by-test : (b : Bool) → cond b (some F) (lookup Δ z) ≡ cond b (some F) (cond b (some P) (lookup Δ z))
    by-test true = refl
    by-test false = refl

module _ (g : Run) where
  -- r spells a type, whatever the notes are
  abbrev pub Written : ℕ → Ty → Type 0
  Written r τ = (M : List ℕ) (lo : ℕ) → Spells g.tree M lo r τ

  -- what the binder b makes of its name
  pub data Binder (b : ℕ) : Entity → Type 0 where
    binds_value : {τ : Ty} (r : ℕ) → read_type g.tree b ≡ r → eqb (r % 65536) 0 ≡ false → Written r τ → ref_type g.tree b ≡ 0 → is_proc (kind_at g.tree b) ≡ false
        → Binder b (plain (value τ))
    binds_ref : {τ : Ty} (r : ℕ) → read_type g.tree b ≡ r → eqb (r % 65536) 0 ≡ false → Written r τ → ref_type g.tree b ≡ r → IsBase τ
        → is_proc (kind_at g.tree b) ≡ false → Binder b (plain (ref τ))
    binds_proc : {qs : List Par} → read_type g.tree b ≡ 65536 → ref_type g.tree b ≡ 0 → is_proc (kind_at g.tree b) ≡ true
        → ((M : List ℕ) (lo : ℕ) → Row g.tree M lo (λ l. Unit {0}) (next_at g.tree (child_at g.tree b)) qs) → Binder b (procedure qs)

  pub data Found : Option Entity → ℕ → Type 0 where
    found_none : Found none 0
    found : {τ : Entity} {b : ℕ} → (b ≡ 0 → ⊥) → Binder b τ → Found (some τ) b

  -- from e outward the scopes hold the names Γ
  abbrev pub Looks : ℕ → Ctx → Type 0
  Looks e Γ = (n : ℕ) → e ≤ n → (p : ℕ) → Found (lookup Γ (name_at g.text p)) (find_from g.text g.tree g.scopes p n e)

  pub looks_none : Looks 0 []
  unfolding find_from
  looks_none zero l p = found_none
  looks_none (suc n) l p = found_none

  looks_same : (e : ℕ) (Γ Δ : Ctx) → ((z : Name) → lookup Γ z ≡ lookup Δ z) → Looks e Γ → Looks e Δ
  looks_same e Γ Δ h k n l p = subst (λ o. Found o (find_from g.text g.tree g.scopes p n e)) (h (name_at g.text p)) (k n l p)

  pub looks_more : (b : ℕ) (Γ : Ctx) (y : Name) (τ : Entity) → env_at g.scopes b < b → name_at g.text (binder_place g.tree b) ≡ y → Binder b τ
      → Looks (env_at g.scopes b) Γ → Looks b ((y, τ) ∷ Γ)
  unfolding find_from same_name
  looks_more b Γ y τ l e i k zero u p = absurd (omega arith)
  looks_more b Γ y τ l e i k (suc n) u p =
      rw (ne_eqb b 0 (λ z. omega arith), e) (by-test (same_bytes y (name_at g.text p)) (k n (omega arith) p))
    where
      by-test : (o : Bool) → Found (lookup Γ (name_at g.text p)) (find_from g.text g.tree g.scopes p n (env_at g.scopes b))
          → Found (cond o (some τ) (lookup Γ (name_at g.text p))) (pick o (λ _. b) λ _. find_from g.text g.tree g.scopes p n (env_at g.scopes b))
      by-test true f = found (pos_not b (omega arith)) i
      by-test false f = f

  -- the parameters from e on, the latest first, have the names xs
  abbrev pub Names : ℕ → List Name → Type 0
  Names e xs = (n : ℕ) → e ≤ n → (p : ℕ) → named_from g.text g.tree g.scopes p n e ≡ among (name_at g.text p) xs

  names_none : Names 0 []
  unfolding named_from
  names_none zero l p = refl
  names_none (suc n) l p = refl

  names_more : (b : ℕ) (xs : List Name) (y : Name) → behind_at g.scopes b < b → name_at g.text (place_at g.tree b) ≡ y → Names (behind_at g.scopes b) xs
      → Names b (y ∷ xs)
  unfolding named_from same_name
  names_more b xs y l e k zero u p = absurd (omega arith)
  names_more b xs y l e k (suc n) u p =
      rw (ne_eqb b 0 (λ z. omega arith), e, k n (omega arith) p) (by-test (same_bytes y (name_at g.text p)) (among (name_at g.text p) xs))
    where
      by-test : (o a : Bool) → pick o (λ _. true) (λ _. a) ≡ cond o true a
      by-test true a = refl
      by-test false a = refl

  -- the role of a node in a parameter list or behind it, after the parameters with the names xs
  pub record Listed (n role : ℕ) (xs : List Name) : Type 0 where
    pub silent : eqb role 1 ≡ false
    pub head : eqb role 2 ≡ false
    pub low : role - 2 < n
    pub names : Names (role - 2) xs

  pub first_listed : {n : ℕ} → 0 < n → Listed n 0 []
  first_listed z = record { silent = refl; head = refl; low = omega arith; names = names_none }

  -- the nine names are looked up nowhere
  unfoldable nine : ℕ → ℕ → ℕ
  nine k b = pick (eqb k 0) (λ _. b) λ _. 0

  nine_found : (m : Meaning) (o : Option Entity) (b : ℕ) → Found o b → Found (unless_nine m o) (nine (meaning_no m) b)
  unfolding nine
  nine_found (literal true) o b f = found_none
  nine_found (literal false) o b f = found_none
  nine_found (operator not) o b f = found_none
  nine_found (operator eq) o b f = found_none
  nine_found (operator lt) o b f = found_none
  nine_found (operator add) o b f = found_none
  nine_found (operator sub) o b f = found_none
  nine_found (operator mul) o b f = found_none
  nine_found (operator div) o b f = found_none
  nine_found free o b f = f

  pub binder_found : (e : ℕ) (Γ : Ctx) (p : ℕ) → e ≤ length g.tree → Looks e Γ → Found (find Γ (name_at g.text p)) (binder_of g.text g.tree g.scopes e p)
  unfolding binder_of nine_at nine
  binder_found e Γ p l k = nine_found (meaning (name_at g.text p)) (lookup Γ (name_at g.text p)) _ (k (length g.tree) l p)

  -- the scope v, of a node below n, has this role and leads to the names Γ
  pub record Scope (n v role : ℕ) (Γ : Ctx) : Type 0 where
    pub role_is : v / 65536 ≡ role
    pub low : v % 65536 < n
    pub looks : Looks (v % 65536) Γ

  pub scope_up : {n m v role : ℕ} {Γ : Ctx} → n ≤ m → Scope n v role Γ → Scope m v role Γ
  scope_up l s = record { role_is = s.role_is; low = let h = s.low in omega arith; looks = s.looks }

  -- a word with a role and a binder
  scope_of : (v role e n : ℕ) (Γ : Ctx) → v ≡ role * 65536 + e → e < 65536 → e < n → Looks e Γ → Scope n v role Γ
  scope_of v role e n Γ h s l k =
      let w : e ≡ v % 65536 = omega arith in
      record { role_is = omega arith; low = omega arith; looks = subst (λ e. Looks e Γ) w k }

  module _ {k p n m row row' v : ℕ} {c s : Nodes} (h : Seat g k p c s n m row row' v) where
    env_is : env_at g.scopes n ≡ v % 65536
    unfolding env_at
    env_is = rw h.scope

    -- the first child, and in a REC definition
    pub scope_inner : {ρ role : ℕ} {Γ : Ctx} → role_in k ≡ role → eqb (row_of k) 1 ≡ false → Scope (suc n) v ρ Γ
        → Scope (suc n) (inner_at g.tree g.scopes n) role Γ
    unfolding inner_at
    scope_inner {role = role} {Γ} e f q = scope_of _ role (v % 65536) (suc n) Γ (rw (h.kind, e, f, env_is)) (omega arith) q.low q.looks

    pub scope_rec : {Γ : Ctx} → role_in k ≡ 1 → eqb (row_of k) 1 ≡ true → n < 65536 → Looks n Γ → Scope (suc n) (inner_at g.tree g.scopes n) 1 Γ
    unfolding inner_at
    scope_rec {Γ} e f l q = scope_of _ 1 n (suc n) Γ (rw (h.kind, e, f)) l (omega arith) q

    -- the next sibling: of a node that binds nothing, of a definition
    pub scope_outer : {ρ : ℕ} {Γ : Ctx} → binds_of k ≡ 0 → Scope n v ρ Γ → Scope h.mid (outer_at g.text g.tree g.scopes row n) 0 Γ
    unfolding outer_at
    scope_outer {Γ = Γ} e q =
        scope_of _ 0 (v % 65536) h.mid Γ (rw (h.kind, e, env_is) (omega arith)) (omega arith) (let l = q.low in omega (arith, below g h)) q.looks

    pub scope_def : {Γ : Ctx} → binds_of k ≡ 1 → n < 65536 → Looks n Γ → Scope h.mid (outer_at g.text g.tree g.scopes row n) 0 Γ
    unfolding outer_at
    scope_def {Γ} e l q = scope_of _ 0 n h.mid Γ (rw (h.kind, e) (omega arith)) l (below g h) q

  -- the REC name in front of the parameters, if there is one
  pub data Front (row : ℕ) : Ctx → Type 0 where
    no_front : row ≡ 0 → Front row []
    rec_front : {f : Name} {F : Entity} → (row ≡ 0 → ⊥) → name_at g.text (place_at g.tree (child_at g.tree row)) ≡ f → Front row ((f, F) ∷ [])

  module _ {k p n m row row' v : ℕ} {c s : Nodes} (h : Seat g k p c s n m row row' v) (e : binds_of k ≡ 2) where
    param_place : binder_place g.tree n ≡ p
    unfolding binder_place
    param_place = rw (h.kind, e, h.place)

    param_binds : {role : ℕ} {y : Name} {τ : Entity} {Γ : Ctx} → name_at g.text p ≡ y → Binder n τ → Scope n v role Γ → Looks n ((y, τ) ∷ Γ)
    param_binds {y = y} {τ} {Γ} f b q =
        looks_more n Γ y τ (rw env-is' q.low) (ap (name_at g.text) param_place ∙ f) b (rw env-is' q.looks)
      where
        env-is' : env_at g.scopes n ≡ v % 65536
        env-is' = env_is h

    -- the node after a parameter
    pub scope_param : {role : ℕ} {y : Name} {τ : Entity} {fs : Ctx} (Δ : Ctx) → n < 65536 → name_at g.text p ≡ y → Binder n τ → Front row fs
        → Scope n v role (fs ++ Δ) → Scope h.mid (outer_at g.text g.tree g.scopes row n) (n + 2) (fs ++ ((y, τ) ∷ Δ))
    unfolding outer_at shown_at same_name
    scope_param {y = y} {τ} Δ l f b (no_front z) q =
        scope_of _ (n + 2) n h.mid ((y, τ) ∷ Δ) (rw (h.kind, e, z) (omega arith)) l (below g h) (param_binds f b q)
    scope_param {y = y} {τ} Δ l f b (rec_front {f = d} {F} z w) q =
        by-test (same_bytes y d) refl
      where
        Next : Type 0
        Next = Scope h.mid (outer_at g.text g.tree g.scopes row n) (n + 2) ((d, F) ∷ (y, τ) ∷ Δ)

        by-test : (o : Bool) → same_bytes y d ≡ o → Next
        by-test true i =
            scope_of _ (n + 2) (v % 65536) h.mid ((d, F) ∷ (y, τ) ∷ Δ) (rw (h.kind, e, ne_eqb row 0 z, h.place, f, w, i) (omega (arith, env_is h))) (omega arith)
            (let u = q.low in omega (arith, below g h))
            (looks_same (v % 65536) ((d, F) ∷ Δ) ((d, F) ∷ (y, τ) ∷ Δ)
            (λ u. subst (λ a. lookup ((d, F) ∷ Δ) u ≡ lookup ((d, F) ∷ (a, τ) ∷ Δ) u) (sym (same_name_lem y d i)) (hidden d τ F Δ u)) q.looks)
        by-test false i =
            scope_of _ (n + 2) n h.mid ((d, F) ∷ (y, τ) ∷ Δ) (rw (h.kind, e, ne_eqb row 0 z, h.place, f, w, i) (omega arith)) l (below g h)
            (looks_same n ((y, τ) ∷ (d, F) ∷ Δ) ((d, F) ∷ (y, τ) ∷ Δ) (λ u. swapped y d τ F Δ u i) (param_binds f b q))

    -- the parameters before it, and before the node behind it
    behind_is : {role : ℕ} {Γ : Ctx} → Scope n v role Γ → behind_at g.scopes n ≡ role - 2
    unfolding behind_at role_at
    behind_is q = rw (h.scope, q.role_is)

    pub named_is : {role : ℕ} {xs : List Name} {Γ : Ctx} → n ≤ length g.tree → Scope n v role Γ → Listed n role xs
        → named_from g.text g.tree g.scopes p (length g.tree) (behind_at g.scopes n) ≡ among (name_at g.text p) xs
    named_is u q i = rw (behind_is q) (i.names (length g.tree) (let l = i.low in omega arith) p)

    pub next_listed : {role : ℕ} {xs : List Name} {y : Name} {Γ : Ctx} → 0 < n → name_at g.text p ≡ y → Scope n v role Γ → Listed n role xs
        → Listed h.mid (n + 2) (y ∷ xs)
    next_listed {role} {xs} {y} z f q i =
        record {
          silent = ne_eqb (n + 2) 1 (λ e. omega arith);
          head = ne_eqb (n + 2) 2 (λ e. omega arith);
          low = omega (arith, below g h);
          names = subst (λ e. Names e (y ∷ xs)) (less n)
              (names_more n xs y (rw (behind_is q) i.low) (ap (name_at g.text) h.place ∙ f) (rw (behind_is q) i.names));
        }
      where
        less : (n : ℕ) → n ≡ n + 2 - 2
        less n = omega arith
