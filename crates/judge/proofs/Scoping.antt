-- The forward pass leaves a table in which every node's scope is what its parent or its sibling before gives it.
use Prim.Native.Nat.{ℕ, suc, ◌+◌, ◌<◌, ◌≤◌}
use mathlib.Core.Path.{◌≡◌, refl, ap, sym, ◌∙◌, subst}
use mathlib.Core.Bool.{Bool, true, false}
use mathlib.Core.List.{List}
use native.Mathlib.Numerals.{add-one}
use native.Mathlib.Omega.{arith}
use lib.Dec.{eqb}
use lib.ListN.{length, get_or, set, length-set}
use lib.Seq.{get_or-set_same, get_or-set_other}
use borrow.Author.Tests.{ne_eqb, eqb-false}
use Rattle.language.specs.Table.{Forest, none, leaf, fork}
use Rattle.language.specs.Table as Table
use Rattle.nodes.specs.Forests.{Laid, laid_none, laid_leaf, laid_fork}
use Rattle.judge.specs.Scopes.{pick, kind_at, place_at, child_at, next_at, env_at, inner_at, shown_at, outer_at, row_after, give, scope_step, scopes_from, scopes_of}
use Rattle.judge.proofs.Shapes.{Nodes, end, node, nodes_of}

unfoldable pub size : Nodes → ℕ
size end = 0
size (node k p c s) = suc (size c + size s)

-- the number of a row's first node, if that is n; 0 where it has none
abbrev pub first : Nodes → ℕ → ℕ
first end n = 0
first (node k p c s) n = n

pub size_is : (f : Forest) → size (nodes_of f) ≡ Table.size f
unfolding size Table.size
size_is none = refl
size_is (leaf k p s) = let a = size_is s in omega arith
size_is (fork k p c s) = let a = size_is c in let b = size_is s in omega arith

module _ (t : List ℕ) where
  -- from n on the table has the nodes of a row, numbered in text order
  abbrev pub At : Nodes → ℕ → Type 0
  At end n = Unit {0}
  At (node k p c s) n =
      record {
        kind : kind_at t n ≡ k;
        place : place_at t n ≡ p;
        child : child_at t n ≡ first c (suc n);
        next : next_at t n ≡ first s (suc (n + size c));
        kids : At c (suc n);
        rest : At s (suc (n + size c));
      }

  first_is : (f : Forest) (n : ℕ) → first (nodes_of f) n ≡ Table.first f n
  unfolding Table.first
  first_is none n = refl
  first_is (leaf k p s) n = refl
  first_is (fork k p c s) n = refl

  pub laid_at : {f : Forest} {n : ℕ} → Laid t f n → At (nodes_of f) n
  unfolding size
  laid_at laid_none = tt
  laid_at (laid_leaf {n} {s = s} f h) =
      record {
        kind = f.kind_is;
        place = f.place_is;
        child = f.child_is;
        next = f.next_is ∙ (sym (first_is s (n + 1)) ∙ ap (first (nodes_of s)) (omega arith));
        kids = tt;
        rest = subst (At (nodes_of s)) (omega arith) (laid_at h);
      }
  laid_at (laid_fork {n} {c = c} {s} f g h) =
      let e = size_is c in
      record {
        kind = f.kind_is;
        place = f.place_is;
        child = f.child_is ∙ (sym (first_is c (n + 1)) ∙ ap (first (nodes_of c)) (omega arith));
        next = f.next_is ∙ (sym (first_is s (n + 1 + Table.size c)) ∙ ap (first (nodes_of s)) (omega arith));
        kids = subst (At (nodes_of c)) (omega arith) (laid_at g);
        rest = subst (At (nodes_of s)) (omega arith) (laid_at h);
      }

-- a row that has a first node has this scope at it
abbrev Gets : List ℕ → Nodes → ℕ → ℕ → Type 0
Gets S end n v = Unit {0}
Gets S (node k p c s) n v = get_or S n 0 ≡ v

give_other : (S : List ℕ) (i v j : ℕ) → (i ≡ j → i ≡ 0) → get_or (give S i v) j 0 ≡ get_or S j 0
unfolding give
give_other S i v j h = by-test (eqb i 0) refl
  where
    by-test : (b : Bool) → eqb i 0 ≡ b → get_or (pick b (λ _. S) λ _. set S i v) j 0 ≡ get_or S j 0
    by-test true e = refl
    by-test false e = get_or-set_other S i j v 0 (λ q. eqb-false i 0 e (h (sym q)))

give_same : (S : List ℕ) (i v : ℕ) → (i ≡ 0 → ⊥) → i < length S → get_or (give S i v) i 0 ≡ v
unfolding give
give_same S i v h l = rw (ne_eqb i 0 h) (get_or-set_same S i v 0 l)

give_long : (S : List ℕ) (i v : ℕ) → length (give S i v) ≡ length S
unfolding give
give_long S i v = by-test (eqb i 0)
  where
    by-test : (b : Bool) → length (pick b (λ _. S) λ _. set S i v) ≡ length S
    by-test true = refl
    by-test false = length-set S i v

first_low : (f : Nodes) (m j : ℕ) → j < m → first f m ≡ j → first f m ≡ 0
first_low end m j h e = refl
first_low (node k p c s) m j h e = absurd (omega arith)

first_high : (f : Nodes) (m j : ℕ) → m + size f ≤ j → first f m ≡ j → first f m ≡ 0
unfolding size
first_high end m j h e = refl
first_high (node k p c s) m j h e = absurd (omega arith)

module _ (x t : List ℕ) where
  -- the nodes n up to m are those of a row; row and row' are the REC definitions that the pass remembers before and after them, and v is the first one's scope
  pub data Sits (S : List ℕ) : Nodes → (n m row row' v : ℕ) → Type 0 where
    sits_end : {n row v : ℕ} → Sits S end n n row row v
    sits_node : {k p n m row row' v : ℕ} {c s : Nodes} (mid later : ℕ) → kind_at t n ≡ k → place_at t n ≡ p → child_at t n ≡ first c (suc n)
        → next_at t n ≡ first s mid → get_or S n 0 ≡ v → Sits S c (suc n) mid (row_after t n row) later (inner_at t S n)
        → Sits S s mid m later row' (outer_at x t S row n) → Sits S (node k p c s) n m row row' v

  -- a node of such a row: where its children end, and the rest
  pub record Cell (S : List ℕ) (k p : ℕ) (c s : Nodes) (n m row row' v : ℕ) : Type 0 where
    pub mid : ℕ
    pub later : ℕ
    pub kind : kind_at t n ≡ k
    pub place : place_at t n ≡ p
    pub child : child_at t n ≡ first c (suc n)
    pub next : next_at t n ≡ first s mid
    pub scope : get_or S n 0 ≡ v
    pub kids : Sits S c (suc n) mid (row_after t n row) later (inner_at t S n)
    pub rest : Sits S s mid m later row' (outer_at x t S row n)

  abbrev pub cell : {S : List ℕ} {k p n m row row' v : ℕ} {c s : Nodes} → Sits S (node k p c s) n m row row' v → Cell S k p c s n m row row' v
  cell (sits_node mid later kind place child next scope kids rest) =
      record { mid = mid; later = later; kind = kind; place = place; child = child; next = next; scope = scope; kids = kids; rest = rest }

  -- the pass over a row, and the REC definition that it remembers then
  unfoldable rows_after : Nodes → ℕ → ℕ → ℕ
  rows_after end n row = row
  rows_after (node k p c s) n row = rows_after s (suc (n + size c)) (rows_after c (suc n) (row_after t n row))

  unfoldable pass : Nodes → ℕ → ℕ → List ℕ → List ℕ
  pass end n row S = S
  pass (node k p c s) n row S =
      pass s (suc (n + size c)) (rows_after c (suc n) (row_after t n row)) (pass c (suc n) (row_after t n row) (scope_step x t S row n))

  pass_is : (f : Nodes) (n row : ℕ) (S : List ℕ) (k : ℕ)
      → scopes_from x t (size f + k) n row S ≡ scopes_from x t k (n + size f) (rows_after f n row) (pass f n row S)
  unfolding size rows_after pass scopes_from
  pass_is end n row S k = ap (λ j. scopes_from x t j n row S) (zero-plus k) ∙ ap (λ i. scopes_from x t k i row S) (plus-zero n)
    where
      zero-plus : (k : ℕ) → 0 + k ≡ k
      zero-plus k = omega arith

      plus-zero : (n : ℕ) → n ≡ n + 0
      plus-zero n = omega arith
  pass_is (node h p c s) n row S k =
      let r₁ = row_after t n row in
      let r₂ = rows_after c (suc n) r₁ in
      let S₁ = scope_step x t S row n in
      let S₂ = pass c (suc n) r₁ S₁ in
      ap (λ j. scopes_from x t j n row S) (split (size c) (size s) k)
      ∙ (ap (λ i. scopes_from x t (size c + (size s + k)) i r₁ S₁) (add-one n)
      ∙ (pass_is c (suc n) r₁ S₁ (size s + k)
      ∙ (ap (λ i. scopes_from x t (size s + k) i r₂ S₂) (near n (size c))
      ∙ (pass_is s (suc (n + size c)) r₂ S₂ k
      ∙ ap (λ i. scopes_from x t k i (rows_after (node h p c s) n row) (pass (node h p c s) n row S)) (far n (size c) (size s))))))
    where
      split : (a b k : ℕ) → suc (a + b) + k ≡ suc (a + (b + k))
      split a b k = omega arith

      near : (n a : ℕ) → suc n + a ≡ suc (n + a)
      near n a = omega arith

      far : (n a b : ℕ) → suc (n + a) + b ≡ n + suc (a + b)
      far n a b = omega arith

  -- a node's step leaves the scopes of the nodes up to it and of those behind its siblings
  step_low : (c s : Nodes) (n row : ℕ) (S : List ℕ) (j : ℕ) → child_at t n ≡ first c (suc n) → next_at t n ≡ first s (suc (n + size c)) → j ≤ n
      → get_or (scope_step x t S row n) j 0 ≡ get_or S j 0
  unfolding scope_step
  step_low c s n row S j e g h =
      rw (e, g) (give_other _ (first s (suc (n + size c))) _ j (first_low s (suc (n + size c)) j (omega arith))
      ∙ give_other S (first c (suc n)) _ j (first_low c (suc n) j (omega arith)))

  step_high : (c s : Nodes) (n row : ℕ) (S : List ℕ) (j : ℕ) → child_at t n ≡ first c (suc n) → next_at t n ≡ first s (suc (n + size c))
      → suc (n + size c) + size s ≤ j → get_or (scope_step x t S row n) j 0 ≡ get_or S j 0
  unfolding scope_step
  step_high c s n row S j e g h =
      rw (e, g) (give_other _ (first s (suc (n + size c))) _ j (first_high s (suc (n + size c)) j (omega arith))
      ∙ give_other S (first c (suc n)) _ j (first_high c (suc n) j (omega arith)))

  step_long : (n row : ℕ) (S : List ℕ) → length (scope_step x t S row n) ≡ length S
  unfolding scope_step
  step_long n row S = give_long (give S (child_at t n) (inner_at t S n)) (next_at t n) (outer_at x t S row n) ∙ give_long S (child_at t n) (inner_at t S n)

  long : (f : Nodes) (n row : ℕ) (S : List ℕ) → length (pass f n row S) ≡ length S
  unfolding pass
  long end n row S = refl
  long (node k p c s) n row S =
      long s (suc (n + size c)) (rows_after c (suc n) (row_after t n row)) (pass c (suc n) (row_after t n row) (scope_step x t S row n))
      ∙ (long c (suc n) (row_after t n row) (scope_step x t S row n) ∙ step_long n row S)

  -- so does the pass over a row
  low : (f : Nodes) (n row : ℕ) (S : List ℕ) (j : ℕ) → At t f n → j ≤ n → get_or (pass f n row S) j 0 ≡ get_or S j 0
  unfolding pass
  low end n row S j a h = refl
  low (node k p c s) n row S j a h =
      low s (suc (n + size c)) (rows_after c (suc n) (row_after t n row)) (pass c (suc n) (row_after t n row) (scope_step x t S row n)) j a.rest (omega arith)
      ∙ (low c (suc n) (row_after t n row) (scope_step x t S row n) j a.kids (omega arith) ∙ step_low c s n row S j a.child a.next h)

  high : (f : Nodes) (n row : ℕ) (S : List ℕ) (j : ℕ) → At t f n → n + size f ≤ j → get_or (pass f n row S) j 0 ≡ get_or S j 0
  unfolding pass size
  high end n row S j a h = refl
  high (node k p c s) n row S j a h =
      high s (suc (n + size c)) (rows_after c (suc n) (row_after t n row)) (pass c (suc n) (row_after t n row) (scope_step x t S row n)) j a.rest (omega arith)
      ∙ (high c (suc n) (row_after t n row) (scope_step x t S row n) j a.kids (omega arith) ∙ step_high c s n row S j a.child a.next (omega arith))

  inner_same : (S R : List ℕ) (n : ℕ) → get_or S n 0 ≡ get_or R n 0 → inner_at t S n ≡ inner_at t R n
  unfolding inner_at env_at
  inner_same S R n h = rw h

  outer_same : (S R : List ℕ) (row n : ℕ) → get_or S n 0 ≡ get_or R n 0 → outer_at x t S row n ≡ outer_at x t R row n
  unfolding outer_at shown_at env_at
  outer_same S R row n h = rw h

  pub sits_up : {S : List ℕ} {f : Nodes} {n m row row' v : ℕ} → Sits S f n m row row' v → n ≤ m
  sits_up sits_end = omega arith
  sits_up (sits_node mid later kd pl ch nx sc kids rest) = let a = sits_up kids in let b = sits_up rest in omega arith

  -- only the scopes of the row's own nodes count
  sits_same : (S R : List ℕ) {f : Nodes} {n m row row' v : ℕ} → ((j : ℕ) → n ≤ j → j < m → get_or R j 0 ≡ get_or S j 0) → Sits S f n m row row' v
      → Sits R f n m row row' v
  sits_same S R h sits_end = sits_end
  sits_same S R h (sits_node {n = n} {m} {row} {row'} {v} {c} {s} mid later kd pl ch nx sc kids rest) =
      let u = sits_up kids in
      let w = sits_up rest in
      let here : get_or S n 0 ≡ get_or R n 0 = sym (h n (omega arith) (omega arith)) in
      sits_node mid later kd pl ch nx (sym here ∙ sc)
      (subst (λ v. Sits R c (suc n) mid (row_after t n row) later v) (inner_same S R n here) (sits_same S R (λ j l r. h j (omega arith) (omega arith)) kids))
      (subst (λ v. Sits R s mid m later row' v) (outer_same S R row n here) (sits_same S R (λ j l r. h j (omega arith) (omega arith)) rest))

  -- what a node's step gives
  step_kid : (c s : Nodes) (n row : ℕ) (S : List ℕ) → child_at t n ≡ first c (suc n) → next_at t n ≡ first s (suc (n + size c)) → n + size c < length S
      → Gets (scope_step x t S row n) c (suc n) (inner_at t S n)
  unfolding scope_step size
  step_kid end s n row S e g l = tt
  step_kid (node k p a b) s n row S e g l =
      let m = suc (n + suc (size a + size b)) in
      rw (e, g) (give_other (give S (suc n) (inner_at t S n)) (first s m) (outer_at x t S row n) (suc n) (first_low s m (suc n) (omega arith))
      ∙ give_same S (suc n) (inner_at t S n) (omega arith) (omega arith))

  step_sib : (c s : Nodes) (n row : ℕ) (S : List ℕ) → next_at t n ≡ first s (suc (n + size c)) → n + size c + size s < length S
      → Gets (scope_step x t S row n) s (suc (n + size c)) (outer_at x t S row n)
  unfolding scope_step size
  step_sib c end n row S g l = tt
  step_sib c (node k p a b) n row S g l =
      rw g (give_same (give S (child_at t n) (inner_at t S n)) (suc (n + size c)) (outer_at x t S row n) (omega arith)
      (omega (arith, give_long S (child_at t n) (inner_at t S n))))

  gets_kept : (f : Nodes) (n : ℕ) (S R : List ℕ) (v : ℕ) → (0 < size f → get_or R n 0 ≡ get_or S n 0) → Gets S f n v → Gets R f n v
  unfolding size
  gets_kept end n S R v h g = tt
  gets_kept (node k p c s) n S R v h g = h (omega arith) ∙ g

  -- The pass over a row whose first node has its scope.
  sits : (f : Nodes) (n row : ℕ) (S : List ℕ) (v : ℕ) → At t f n → n + size f ≤ length S → Gets S f n v
      → Sits (pass f n row S) f n (n + size f) row (rows_after f n row) v
  unfolding pass size rows_after
  sits end n row S v a l g = subst (λ m. Sits S end n m row row v) (omega arith) sits_end
  sits (node k p c s) n row S v a l g =
      let m = suc (n + size c) in
      let r₁ = row_after t n row in
      let r₂ = rows_after c (suc n) r₁ in
      let S₁ = scope_step x t S row n in
      let S₂ = pass c (suc n) r₁ S₁ in
      let F = pass s m r₂ S₂ in
      let l₁ : length S₁ ≡ length S = step_long n row S in
      let l₂ : length S₂ ≡ length S₁ = long c (suc n) r₁ S₁ in
      let here : get_or F n 0 ≡ get_or S n 0 =
      low s m r₂ S₂ n a.rest (omega arith) ∙ (low c (suc n) r₁ S₁ n a.kids (omega arith) ∙ step_low c s n row S n a.child a.next (omega arith)) in
      let kid : Gets S₁ c (suc n) (inner_at t F n) =
      subst (Gets S₁ c (suc n)) (inner_same S F n (sym here)) (step_kid c s n row S a.child a.next (omega arith)) in
      let sib : Gets S₂ s m (outer_at x t F row n) =
      gets_kept s m S₁ S₂ (outer_at x t F row n) (λ z. high c (suc n) r₁ S₁ m a.kids (omega arith))
      (subst (Gets S₁ s m) (outer_same S F row n (sym here)) (step_sib c s n row S a.next (omega arith))) in
      sits_node {m = n + suc (size c + size s)} m r₂ a.kind a.place a.child a.next (here ∙ g)
      (subst (λ i. Sits F c (suc n) i r₁ r₂ (inner_at t F n)) (omega arith)
      (sits_same S₂ F (λ j b u. low s m r₂ S₂ j a.rest (omega arith)) (sits c (suc n) r₁ S₁ (inner_at t F n) a.kids (omega arith) kid)))
      (subst (λ i. Sits F s m i r₂ (rows_after s m r₂) (outer_at x t F row n)) (omega arith)
      (sits s m r₂ S₂ (outer_at x t F row n) a.rest (omega arith) sib))

  -- The pass over a table that has the nodes of a row from 0 on.
  pub scopes_sit : (f : Nodes) (S : List ℕ) → At t f 0 → size f ≤ length S → get_or S 0 0 ≡ 0
      → (row : ℕ) × Sits (scopes_of x t (size f) S) f 0 (size f) 0 row 0
  unfolding scopes_of scopes_from
  scopes_sit f S a l z =
      let e : scopes_from x t (size f) 0 0 S ≡ pass f 0 0 S = ap (λ k. scopes_from x t k 0 0 S) (plus (size f)) ∙ pass_is f 0 0 S 0 in
      (rows_after f 0 0, rw e (subst (λ m. Sits (pass f 0 0 S) f 0 m 0 (rows_after f 0 0) 0) (omega arith) (sits f 0 0 S 0 a (omega arith) (root f))))
    where
      plus : (n : ℕ) → n ≡ n + 0
      plus n = omega arith

      root : (f : Nodes) → Gets S f 0 0
      root end = tt
      root (node k p c s) = z
