-- Links lead forward: a node's first child is the next node, its next sibling comes behind its children, and both are nodes of the table.
use Prim.Native.Nat.{ℕ, ◌+◌, ◌<◌, ◌≤◌}
use mathlib.Core.Path.{◌≡◌, refl, ◌∙◌, subst}
use mathlib.Core.Bool.{Bool, true, false, not}
use mathlib.Core.List.{List}
use mathlib.Core.Logic.{◌⊎◌, inl, inr, ⊎_elim}
use native.Mathlib.Nat.{eq-or-lt_of_le}
use native.Mathlib.Omega.{arith}
use lib.Dec.{T, ltb, ltb→lt, nltb→le}
use Rattle.language.specs.Table.{Forest, none, leaf, fork, size, first}
use Rattle.nodes.specs.Nodes.{node_at}
use Rattle.nodes.specs.Forests.{Fields, Laid, laid_leaf, laid_fork}
use Rattle.nodes.proofs.Proper.{Filled, Proper, Known, is_kind}
use Rattle.nodes.proofs.Encoded.{filled_size, first_filled}

pub below_or_not : (i m : ℕ) → (i < m) ⊎ (m ≤ i)
below_or_not i m = go (ltb i m) (ltb→lt i m) (nltb→le i m)
  where
    go : (t : Bool) → (T t → i < m) → (T (not t) → m ≤ i) → (i < m) ⊎ (m ≤ i)
    go true a b = inl (a tt)
    go false a b = inr (b tt)

module _ (tree : List ℕ) where
  -- the node i among those below `end`
  pub record Linked (end i : ℕ) : Type 0 where
    pub known : is_kind (node_at tree i).kind ≡ true
    pub child_next : ((node_at tree i).child ≡ 0 → ⊥) → ((node_at tree i).child ≡ i + 1) × (i + 1 < end)
    pub next_later : ((node_at tree i).next ≡ 0 → ⊥) → (i < (node_at tree i).next) × ((node_at tree i).next < end)
    pub next_behind : ((node_at tree i).next ≡ 0 → ⊥) → ((node_at tree i).child ≡ 0 → ⊥) → i + 1 < (node_at tree i).next

  linked_more : {m n i : ℕ} → m ≤ n → Linked m i → Linked n i
  linked_more l h =
      record {
        known = h.known;
        child_next = λ z. ((h.child_next z).0, omega (arith, (h.child_next z).1));
        next_later = λ z. ((h.next_later z).0, omega (arith, (h.next_later z).1));
        next_behind = h.next_behind;
      }

  -- a forest's first node, where it has one, is a node of it
  first_within : (s : Forest) (m : ℕ) → (first s m ≡ 0 → ⊥) → (first s m ≡ m) × (m < m + size s)
  unfolding first size
  first_within none m z = absurd (z refl)
  first_within (leaf k p s) m z = (refl, omega arith)
  first_within (fork k p c s) m z = (refl, omega arith)

  leaf_linked : {n k p : ℕ} (s : Forest) → Known k p → Fields tree n k p 0 (first s (n + 1)) → Linked (n + 1 + size s) n
  leaf_linked {n} {k} {p} s h x =
      record {
        known = rw x.kind_is h.0;
        child_next = λ z. absurd (z x.child_is);
        next_later = λ z. let w = first_within s (n + 1) (λ e. z (x.next_is ∙ e)) in omega (arith, x.next_is, w.0, w.1);
        next_behind = λ z u. absurd (u x.child_is);
      }

  fork_linked : {n k p : ℕ} (c s : Forest) → Known k p → Filled c → Fields tree n k p (first c (n + 1)) (first s (n + 1 + size c)) →
      Linked (n + 1 + size c + size s) n
  fork_linked {n} {k} {p} c s h l x =
      let a = first_filled c (n + 1) l in let b = filled_size c l in
      record {
        known = rw x.kind_is h.0;
        child_next = λ z. (x.child_is ∙ a, omega arith);
        next_later = λ z. let w = first_within s (n + 1 + size c) (λ e. z (x.next_is ∙ e)) in omega (arith, x.next_is, w.0, w.1);
        next_behind = λ z u. let w = first_within s (n + 1 + size c) (λ e. z (x.next_is ∙ e)) in omega (arith, x.next_is, w.0, w.1);
      }

  -- Every node of a forest is linked so.
  pub linked : (f : Forest) (n i : ℕ) → Laid tree f n → Proper f → n ≤ i → i < n + size f → Linked (n + size f) i
  unfolding size
  linked none n i a p l u = absurd (omega arith)
  linked (leaf k q s) n i (laid_leaf x a) p l u =
      ⊎_elim (λ e. subst (λ j. Linked (n + (1 + size s)) j) e (linked_more (omega arith) (leaf_linked s p.0 x)))
      (λ m. linked_more (omega arith) (linked s (n + 1) i a p.1 (omega arith) (omega arith))) (eq-or-lt_of_le l)
  linked (fork k q c s) n i (laid_fork x a b) p l u =
      ⊎_elim (λ e. subst (λ j. Linked (n + (1 + size c + size s)) j) e (linked_more (omega arith) (fork_linked c s p.0 p.1 x)))
      (λ m. ⊎_elim (λ v. linked_more (omega arith) (linked c (n + 1) i a p.2 (omega arith) v))
      (λ v. linked_more (omega arith) (linked s (n + 1 + size c) i b p.3 v (omega arith))) (below_or_not i (n + 1 + size c))) (eq-or-lt_of_le l)
