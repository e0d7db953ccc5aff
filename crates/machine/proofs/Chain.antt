-- The chain of bindings is the rules' environment: what a code finds in it, by jumps, is what the rules find by the name.
use mathlib.Core.Path.{◌≡◌, refl, sym, ap, ◌∙◌, subst}
use mathlib.Core.Logic.{⊎_elim}
use mathlib.Core.Bool.{Bool, true, false, cond}
use mathlib.Core.List.{List, [], ◌∷◌}
use mathlib.Core.Option.{Option, none, some}
use Prim.Native.Nat.{ℕ, zero, suc, ◌+◌, ◌-◌, ◌≤◌, ◌<◌}
use native.Mathlib.Nat.{le_refl, le_trans}
use native.Mathlib.Omega.{arith}
use lib.Dec.{T, eqb, leb, leb→le, eqb-suc-zero}
use borrow.Author.Tests.{eq-eqb, ne_eqb, eqb-false, leb-false}
use Rattle.language.specs.Bytes.{same_bytes}
use Rattle.language.specs.Syntax.{Name}
use Rattle.language.specs.Rules.{Val, Env, empty, bound, lookup_env}
use Rattle.nodes.proofs.Links.{below_or_not}
use Rattle.machine.specs.declared.Ending.{Ending}
use Rattle.machine.specs.declared.Ending.TheVariants.{Value}
use Rattle.machine.specs.Entries.{pick, first_free, most_steps, binding, binding_at}
use Rattle.machine.specs.Codes.{code_over, level_among}
use Rattle.machine.specs.Leaves.{code_in, jump_at, jump_from, walk}
use Rattle.machine.proofs.Steps.{full, head, tail, more, blocks, total, total_is, More, joined, single, more_is, code_blocks, full_up, full_none, full_most, Up, up_none, up_more, Heap, heap_none, heap_more, heap, equal_jumps}
use Rattle.machine.proofs.Relation.{Stage, value, names, Rep, e_none, e_bound, ValR, EnvR, Found, found, lost, scope, Outer, outer_self, outer_more}
use Rattle.machine.proofs.Agree.{keep}

less_one : (k : ℕ) → suc k - 1 ≡ k
less_one k = omega arith

walk_suc : (b : List ℕ) (c n k : ℕ) → walk b c (suc n) (suc k) ≡
    pick (eqb (binding_at b k).code c) (λ _. Value (binding_at b k).tag (binding_at b k).word) λ _.
    pick (leb c (code_in b (binding_at b k).jump)) (λ _. walk b c n (binding_at b k).jump) λ _. walk b c n (binding_at b k).link
unfolding walk pick
walk_suc b c n k = rw (eqb-suc-zero k, less_one k)

-- ---- what the rules find by a name stands at the name's code

-- the value with the code c: by the place of its binding alone
abbrev pub at_code : Env → ℕ → Option Val
at_code empty c = none
at_code (bound y u ρ) c = cond (eqb (suc (code_over (scope ρ))) c) (some u) (at_code ρ c)

pub over_least : (Γ : List Name) → first_free ≤ code_over Γ
unfolding code_over
over_least [] = le_refl _
over_least (z ∷ Γ) = let h = over_least Γ in omega (arith, h)

level_most : (Γ : List Name) (x : Name) → level_among Γ x ≤ code_over Γ
unfolding level_among code_over
level_most [] x = omega arith
level_most (y ∷ Γ) x = either (same_bytes y x) (level_most Γ x)
  where
    either : (b : Bool) → level_among Γ x ≤ code_over Γ → cond b (suc (code_over Γ)) (level_among Γ x) ≤ suc (code_over Γ)
    either true h = le_refl _
    either false h = omega arith

pub looked : (ρ : Env) (x : Name) → lookup_env ρ x ≡ at_code ρ (level_among (scope ρ) x)
unfolding level_among
looked empty x = refl
looked (bound y u ρ) x = either (same_bytes y x) (looked ρ x) (level_most (scope ρ) x)
  where
    either : (b : Bool) → lookup_env ρ x ≡ at_code ρ (level_among (scope ρ) x) → level_among (scope ρ) x ≤ code_over (scope ρ) →
        cond b (some u) (lookup_env ρ x) ≡
        cond (eqb (suc (code_over (scope ρ))) (cond b (suc (code_over (scope ρ))) (level_among (scope ρ) x))) (some u)
        (at_code ρ (cond b (suc (code_over (scope ρ))) (level_among (scope ρ) x)))
    either true h l = rw (eq-eqb (suc (code_over (scope ρ))) (suc (code_over (scope ρ))) refl)
    either false h l = rw (ne_eqb (suc (code_over (scope ρ))) (level_among (scope ρ) x) (λ e. omega (arith, e, l))) h

-- ---- further out

pub outer_then : {ρ ρ' ρ'' : Env} → Outer ρ'' ρ' → Outer ρ' ρ → Outer ρ'' ρ
outer_then a outer_self = a
outer_then a (outer_more b) = outer_more (outer_then a b)

outer_most : {ρ ρ' : Env} → Outer ρ' ρ → code_over (scope ρ') ≤ code_over (scope ρ)
unfolding code_over
outer_most outer_self = le_refl _
outer_most (outer_more a) = let h = outer_most a in omega (arith, h)

-- what stands at a code stands there further out, as far as there are as many names
pub at_outer : {ρ ρ' : Env} → Outer ρ' ρ → (c : ℕ) → c ≤ code_over (scope ρ') → at_code ρ c ≡ at_code ρ' c
at_outer outer_self c h = refl
at_outer (outer_more {ρ = ρ} a) c h =
    let l = outer_most a in rw (ne_eqb (suc (code_over (scope ρ))) c (λ e. omega (arith, e, l, h))) (at_outer a c h)

module _ {g : Stage} where
  -- ---- codes

  -- as many bindings are in force as there are names
  pub code_in_lem : {b : List ℕ} {c : ℕ} {ρ : Env} {e : ℕ} → EnvR g b c ρ e → code_in b e ≡ code_over (scope ρ)
  unfolding code_in code_over pick
  code_in_lem e_none = refl
  code_in_lem {b} (e_bound {k = k} l e u m q w j) = rw (eqb-suc-zero k, less_one k, e)

  -- and no more than were made
  pub code_most : {b : List ℕ} {c : ℕ} {ρ : Env} {e : ℕ} → EnvR g b c ρ e → code_over (scope ρ) ≤ first_free + c
  unfolding code_over
  code_most e_none = omega arith
  code_most (e_bound l e u m q w j) = let h = code_most m in omega (arith, h, l)

  -- a jump leads further out, over one block
  pub jump_in : {b : List ℕ} {c : ℕ} {ρ : Env} {e : ℕ} → EnvR g b c ρ e →
      (ρ' : Env) × Outer ρ' ρ × EnvR g b c ρ' (jump_at b e) × (blocks (scope ρ') ≡ tail (blocks (scope ρ)))
  unfolding jump_at pick blocks
  jump_in e_none = (empty, outer_self, e_none, refl)
  jump_in {b} (e_bound {k = k} {ρ' = ρ'} l e u m q w j) = (ρ', outer_more q, rw (eqb-suc-zero k, less_one k, e) (keep j (omega arith) (λ i s. refl)), w)

  either_way : {b : List ℕ} {c e e' : ℕ} {ρ ρ' : Env} (s : Bool) → s ≡ eqb (full (head (blocks (scope ρ)))) (full (head (tail (blocks (scope ρ))))) →
      EnvR g b c ρ e → Outer ρ' ρ → EnvR g b c ρ' e' → blocks (scope ρ') ≡ tail (tail (blocks (scope ρ))) →
      (ρ'' : Env) × Outer ρ'' ρ × EnvR g b c ρ'' (pick s (λ _. e') λ _. e) × (blocks (scope ρ'') ≡ tail (more (blocks (scope ρ))))
  unfolding pick more
  either_way true t r q r' w = (_, q, r', rw (← t) w)
  either_way false t r q r' w = (_, outer_self, r, rw (← t))

  pub jump_from_lem : {b : List ℕ} {c : ℕ} {ρ : Env} {e : ℕ} → EnvR g b c ρ e →
      (ρ' : Env) × Outer ρ' ρ × EnvR g b c ρ' (jump_from b e) × (blocks (scope ρ') ≡ tail (more (blocks (scope ρ))))
  unfolding jump_from
  jump_from_lem {b} {ρ = ρ} {e = e} r =
      let i = jump_in r in let j = jump_in i.2 in
      let two : blocks (scope j.0) ≡ tail (tail (blocks (scope ρ))) = j.3 ∙ ap tail i.3 in
      either_way _
      (equal_jumps (blocks (scope ρ)) (code_in b e) (code_in b (jump_at b e)) (code_in b (jump_at b (jump_at b e))) (code_in_lem r ∙ code_blocks (scope ρ))
      (code_in_lem i.2 ∙ (code_blocks (scope i.0) ∙ ap (λ (l : List ℕ). first_free + total l) i.3))
      (code_in_lem j.2 ∙ (code_blocks (scope j.0) ∙ ap (λ (l : List ℕ). first_free + total l) two)))
      r (outer_then j.1 i.1) j.2 two

  -- ---- the chain of bindings is the rules' environment

  found_up : {b : List ℕ} {k c : ℕ} {o : Option Val} {a : Ending} → k ≤ c → Found g b k o a → Found g b c o a
  found_up h (found u) = found (keep u h (λ j s. refl))
  found_up h lost = lost

  -- one step, from a binding on: it is the one, or a jump does not lead past the code, or it does
  go_on : {b : List ℕ} {c k t x l j : ℕ} (z : Name) {u : Val} {ρ ρ' : Env} → suc k ≤ c → binding_at b k ≡ binding (suc (code_over (scope ρ))) t x l j →
      Rep g b k (value u t x) → Outer ρ' ρ → Rep g b k (names ρ' j) → (y n : ℕ) →
      ((y ≡ suc (code_over (scope ρ)) → ⊥) → code_over (scope ρ') < y → Found g b k (at_code ρ y) (walk b y n l)) →
      (y ≤ code_over (scope ρ') → Found g b k (at_code ρ' y) (walk b y n j)) → Found g b c (at_code (bound z u ρ) y) (walk b y (suc n) (suc k))
  unfolding pick
  go_on {b} {c} {k} {t} {x} {l} {j} z {u} {ρ} {ρ'} h e v q r y n f f' =
      rw (walk_suc b y n k, e, code_in_lem r) (by_code (eqb (suc (code_over (scope ρ))) y) refl)
    where
      by_jump : (y ≡ suc (code_over (scope ρ)) → ⊥) → (s : Bool) → leb y (code_over (scope ρ')) ≡ s →
          Found g b k (at_code ρ y) (pick s (λ _. walk b y n j) λ _. walk b y n l)
      by_jump a true p =
          let i : y ≤ code_over (scope ρ') = leb→le _ _ (subst T (sym p) tt) in
          subst (λ (o : Option Val). Found g b k o (walk b y n j)) (sym (at_outer q y i)) (f' i)
      by_jump a false p = f a (leb-false _ _ p)

      by_code : (s : Bool) → eqb (suc (code_over (scope ρ))) y ≡ s →
          Found g b c (cond s (some u) (at_code ρ y)) (pick s (λ _. Value t x) λ _.
          pick (leb y (code_over (scope ρ'))) (λ _. walk b y n j) λ _. walk b y n l)
      by_code true p = found (keep v (omega arith) (λ j s. refl))
      by_code false p = found_up (omega arith) (by_jump (λ i. eqb-false _ _ p (sym i)) (leb y (code_over (scope ρ'))) refl)

module _ (g : Stage) where
  -- the code y stands in the first block of an environment, whose rank is at most r: 2 * r - 1 steps are enough
  abbrev InBlock : (b : List ℕ) (r y : ℕ) → Type 0
  InBlock b r y =
      (c : ℕ) (ρ : Env) (e n : ℕ) → EnvR g b c ρ e → head (blocks (scope ρ)) ≤ r → first_free + total (tail (blocks (scope ρ))) < y →
      y ≤ code_over (scope ρ) → r + r ≤ suc n → Found g b c (at_code ρ y) (walk b y n e)

  -- in the second of two equal ones: a jump leads to it
  in_second : (b : List ℕ) (r y : ℕ) → InBlock b r y → (c : ℕ) (ρ : Env) (e n : ℕ) → EnvR g b c ρ e → head (blocks (scope ρ)) ≤ r →
      full (head (blocks (scope ρ))) ≡ full (head (tail (blocks (scope ρ)))) → first_free + total (tail (tail (blocks (scope ρ)))) < y →
      y ≤ first_free + total (tail (blocks (scope ρ))) → r + r ≤ n → Found g b c (at_code ρ y) (walk b y n e)
  unfolding blocks total
  in_second b r y f c empty e n m h q a o k = absurd (omega (arith, a, o))
  in_second b r y f c (bound z u ρ) e zero (e_bound l i v m p w j) h q a o k =
      let d = full_up (head (more (blocks (scope ρ)))) r h in let t = total_is (tail (more (blocks (scope ρ)))) in
      absurd (omega (arith, d, full_none r k, q, a, o, t))
  in_second b r y f c (bound z u ρ) e (suc n) (e_bound {ρ' = ρ'} l i v m p w j) h q a o k =
      let t : code_over (scope ρ') ≡ first_free + total (tail (more (blocks (scope ρ)))) = code_blocks (scope ρ') ∙ ap (λ (x : List ℕ). first_free + total x) w in
      go_on z l i v p j y n (λ _ d. absurd (omega (arith, d, t, o)))
      λ d. f _ ρ' _ n j
      (rw w (le_trans (full_most _ _ (subst (λ (x : ℕ). full (head (tail (more (blocks (scope ρ))))) ≤ x) (sym q) (le_refl _))) h))
      (rw w a) d k

  -- a binding that is no block of its own has two equal ones before it
  by_more : (b : List ℕ) (r y : ℕ) → InBlock b r y → (c : ℕ) (ρ : Env) (e n : ℕ) {l : List ℕ} → EnvR g b c ρ e → More (blocks (scope ρ)) l → head l ≤ suc r →
      first_free + total (tail l) < y → y ≤ code_over (scope ρ) → r + r ≤ n → Found g b c (at_code ρ y) (walk b y n e)
  by_more b r y f c ρ e n m (joined d) h a o k =
      ⊎_elim (λ s. f _ ρ _ n m (omega (arith, h)) s o (omega (arith, k)))
      (λ s. in_second b r y f _ ρ _ n m (omega (arith, h)) d a (omega (arith, s)) k)
      (below_or_not (first_free + total (tail (blocks (scope ρ)))) y)
  by_more b r y f c ρ e n m (single d) h a o k = absurd (omega (arith, a, o, code_blocks (scope ρ)))

  in_block : (b : List ℕ) (r y : ℕ) → InBlock b r y
  unfolding blocks total full code_over
  in_block b zero y c ρ e n m h a o k =
      let d = full_up (head (blocks (scope ρ))) 0 h in let t = total_is (blocks (scope ρ)) in absurd (omega (arith, d, t, code_blocks (scope ρ), a, o))
  in_block b (suc r) y c empty e n m h a o k = absurd (omega (arith, a, o))
  in_block b (suc r) y c (bound z u ρ) e zero m h a o k = absurd (omega (arith, k))
  in_block b (suc r) y c (bound z u ρ) e (suc n) (e_bound {ρ' = ρ'} l q v m p w j) h a o k =
      let t : code_over (scope ρ') ≡ first_free + total (tail (more (blocks (scope ρ)))) = code_blocks (scope ρ') ∙ ap (λ (x : List ℕ). first_free + total x) w in
      go_on z l q v p j y n (λ d _. by_more b r y (in_block b r y) _ ρ _ n m (more_is (blocks (scope ρ))) h a (omega (arith, d, o)) (omega (arith, k)))
      (λ d. absurd (omega (arith, d, t, a)))

  -- from block to block, whose ranks rise from r on
  abbrev Rising : (b : List ℕ) (y n : ℕ) → Type 0
  Rising b y n = (c : ℕ) (ρ : Env) (e r : ℕ) → EnvR g b c ρ e → Up r (blocks (scope ρ)) → y ≤ code_over (scope ρ) → most_steps ≤ n + r →
      Found g b c (at_code ρ y) (walk b y n e)

  -- a first block of rank s, and then others
  past_first : (b : List ℕ) (y n : ℕ) → Rising b y n → (c : ℕ) (ρ : Env) (e s r : ℕ) (l : List ℕ) → EnvR g b c ρ e → blocks (scope ρ) ≡ s ∷ l → s + s ≤ suc (suc n) →
      Up r l → y ≤ code_over (scope ρ) → most_steps ≤ n + r → Found g b c (at_code ρ y) (walk b y (suc n) e)
  unfolding walk pick blocks
  past_first b y n f c empty e s r l e_none w a u o k = lost
  past_first b y n f c (bound z v ρ) e s r l (e_bound {k = i'} {ρ' = ρ'} h i x m p q j) w a u o k =
      let t : code_over (scope ρ') ≡ first_free + total l = code_blocks (scope ρ') ∙ ap (λ (x : List ℕ). first_free + total x) (q ∙ ap tail w) in
      ⊎_elim (λ d. in_block b s y _ (bound z v ρ) _ (suc n) (e_bound h i x m p q j) (rw w (le_refl s)) (rw w d) o a)
      (λ d. go_on z h i x p j y n (λ _ d'. absurd (omega (arith, d, d', t))) λ d'. f _ ρ' _ r j (rw (q, w) u) d' k)
      (below_or_not (first_free + total l) y)

  no_block : (b : List ℕ) (y n : ℕ) (c : ℕ) (ρ : Env) (e : ℕ) → EnvR g b c ρ e → blocks (scope ρ) ≡ [] → Found g b c (at_code ρ y) (walk b y n e)
  unfolding walk pick code_over total
  no_block b y zero c empty e e_none w = lost
  no_block b y (suc n) c empty e e_none w = lost
  no_block b y n c (bound z u ρ) e m w =
      let t : suc (code_over (scope ρ)) ≡ first_free + total [] = code_blocks (z ∷ scope ρ) ∙ ap (λ (x : List ℕ). first_free + total x) w in
      absurd (omega (arith, t, over_least (scope ρ)))

  by_up : (b : List ℕ) (y n : ℕ) → ((k : ℕ) → suc k ≡ n → Rising b y k) → (c : ℕ) (ρ : Env) (e r : ℕ) (l : List ℕ) → EnvR g b c ρ e → blocks (scope ρ) ≡ l → Up r l →
      y ≤ code_over (scope ρ) → most_steps ≤ n + r → Found g b c (at_code ρ y) (walk b y n e)
  by_up b y n f c ρ e r l m w up_none o k = no_block b y n c ρ e m w
  by_up b y zero f c ρ e r l m w (up_more a a' u) o k = absurd (omega (arith, a, a', k))
  by_up b y (suc n) f c ρ e r l m w (up_more {s = s} a a' u) o k =
      past_first b y n (f n refl) c ρ e s (suc s) _ m w (omega (arith, a, a', k)) u o (omega (arith, a, k))

  rising : (b : List ℕ) (y n : ℕ) → Rising b y n
  rising b y zero c ρ e r m u o k = by_up b y zero (λ k e. absurd (omega (arith, e))) c ρ e r _ m refl u o k
  rising b y (suc n) c ρ e r m u o k =
      by_up b y (suc n) (λ k e. subst (λ (i : ℕ). Rising b y i) (omega (arith, e)) (rising b y n)) c ρ e r _ m refl u o k

  -- the blocks of at most 4,096 bindings
  by_heap : (b : List ℕ) (y : ℕ) (c : ℕ) (ρ : Env) (e : ℕ) (l : List ℕ) → EnvR g b c ρ e → blocks (scope ρ) ≡ l → Heap l → y ≤ code_over (scope ρ) →
      Found g b c (at_code ρ y) (walk b y most_steps e)
  by_heap b y c ρ e l m w heap_none o = no_block b y most_steps c ρ e m w
  by_heap b y c ρ e l m w (heap_more {r = r} a a' u) o = past_first b y 34 (rising b y 34) c ρ e r r _ m w (omega (arith, a')) u o (omega (arith, a))

-- what the rules find by a name is found by its code, in so many steps
pub name_finds : {g : Stage} {b : List ℕ} {c : ℕ} {ρ : Env} {e : ℕ} → EnvR g b c ρ e → c ≤ 4096 → (x : Name) →
    Found g b c (lookup_env ρ x) (walk b (level_among (scope ρ) x) most_steps e)
name_finds {g} {b} {c} {ρ} {e} r h x =
    let y = code_most r in
    subst (λ (o : Option Val). Found g b c o (walk b (level_among (scope ρ) x) most_steps e)) (sym (looked ρ x))
    (by_heap g b (level_among (scope ρ) x) c ρ e _ r refl (heap (scope ρ) (omega (arith, h, y, code_blocks (scope ρ)))) (level_most (scope ρ) x))
