-- A function's node gets the kind that goes with a block when the block's first command is read, long after it was written: this changes nothing else.
use mathlib.Core.Path.{◌≡◌, refl, sym, ◌∙◌, ap}
use mathlib.Core.List.{List, [], ◌∷◌, ◌++◌}
use Prim.Native.Nat.{ℕ, zero, suc, ◌+◌, ◌≤◌, ◌<◌}
use native.Mathlib.Omega.{arith}
use lib.ListN.{length, length-append}
use Rattle.language.specs.Table.{Forest, none, leaf, fork, Node, node}
use Rattle.language.proofs.Reading.Machine.{set_sib, link, add_leaf, add_fork, retype, with_block, set_block, blocked, put}

length_set_sib : (q m : ℕ) (t : List Node) → length (set_sib q m t) ≡ length t
unfolding set_sib
length_set_sib q m [] = refl
length_set_sib zero m (x ∷ t) = refl
length_set_sib (suc q) m (x ∷ t) = ap suc (length_set_sib q m t)

pub length_link : (q m : ℕ) (t : List Node) → length (link q m t) ≡ length t
unfolding link
length_link zero m t = refl
length_link (suc q) m t = length_set_sib q m t

pub length_retype : (k : ℕ) (t : List Node) → length (retype k t) ≡ length t
unfolding retype
length_retype k [] = refl
length_retype k (x ∷ []) = refl
length_retype k (x ∷ y ∷ t) = ap suc (length_retype k (y ∷ t))

pub length_set_block : (i : ℕ) (t : List Node) → length (set_block i t) ≡ length t
unfolding set_block
length_set_block i [] = refl
length_set_block zero (x ∷ t) = refl
length_set_block (suc i) (x ∷ t) = ap suc (length_set_block i t)

pub length_blocked : (c : ℕ) (t : List Node) → length (blocked c t) ≡ length t
unfolding blocked
length_blocked zero t = refl
length_blocked (suc i) t = length_set_block i t

length_leaf : (k p q : ℕ) (t : List Node) → length (add_leaf k p q t) ≡ suc (length t)
unfolding add_leaf
length_leaf k p q t = omega (arith, length-append (link q (length t) t) (node k p 0 0 ∷ []), length_link q (length t) t)

pub length_fork : (k p q : ℕ) (t : List Node) → length (add_fork k p q t) ≡ suc (length t)
unfolding add_fork
length_fork k p q t = omega (arith, length-append (link q (length t) t) (node k p (suc (length t)) 0 ∷ []), length_link q (length t) t)

pub put_grows : (f : Forest) (q : ℕ) (t : List Node) → length t ≤ length (put f q t)
unfolding put
put_grows none q t = omega arith
put_grows (leaf k p s) q t = omega (arith, length_leaf k p q t, put_grows s (suc (length t)) (add_leaf k p q t))
put_grows (fork k p c s) q t =
    omega (arith, length_fork k p q t, put_grows c 0 (add_fork k p q t), put_grows s (suc (length t)) (put c 0 (add_fork k p q t)))

-- links and new nodes are the same before and after
sib_block : (q m i : ℕ) (t : List Node) → set_sib q m (set_block i t) ≡ set_block i (set_sib q m t)
unfolding set_sib set_block
sib_block q m i [] = refl
sib_block zero m zero (node k p c s ∷ t) = refl
sib_block zero m (suc i) (x ∷ t) = refl
sib_block (suc q) m zero (x ∷ t) = refl
sib_block (suc q) m (suc i) (x ∷ t) = ap (λ (l : List Node). x ∷ l) (sib_block q m i t)

link_block : (q m i : ℕ) (t : List Node) → link q m (set_block i t) ≡ set_block i (link q m t)
unfolding link
link_block zero m i t = refl
link_block (suc q) m i t = sib_block q m i t

snoc_block : (i : ℕ) (t : List Node) (x : Node) → i < length t → set_block i (t ++ (x ∷ [])) ≡ set_block i t ++ (x ∷ [])
unfolding set_block
snoc_block i [] x h = absurd (omega (arith, h))
snoc_block zero (y ∷ t) x h = refl
snoc_block (suc i) (y ∷ t) x h = ap (λ (l : List Node). y ∷ l) (snoc_block i t x (omega (arith, h)))

added_block : (q i : ℕ) (t : List Node) (x : Node) → i < length t
    → link q (length (set_block i t)) (set_block i t) ++ (x ∷ []) ≡ set_block i (link q (length t) t ++ (x ∷ []))
added_block q i t x h =
    ap (λ (n : ℕ). link q n (set_block i t) ++ (x ∷ [])) (length_set_block i t)
    ∙ (ap (λ (l : List Node). l ++ (x ∷ [])) (link_block q (length t) i t) ∙ sym (snoc_block i (link q (length t) t) x (omega (arith, h, length_link q (length t) t))))

leaf_block : (k p q i : ℕ) (t : List Node) → i < length t → add_leaf k p q (set_block i t) ≡ set_block i (add_leaf k p q t)
unfolding add_leaf
leaf_block k p q i t h = added_block q i t (node k p 0 0) h

fork_block : (k p q i : ℕ) (t : List Node) → i < length t → add_fork k p q (set_block i t) ≡ set_block i (add_fork k p q t)
unfolding add_fork
fork_block k p q i t h =
    ap (λ (n : ℕ). link q (length (set_block i t)) (set_block i t) ++ (node k p (suc n) 0 ∷ [])) (length_set_block i t)
    ∙ added_block q i t (node k p (suc (length t)) 0) h

-- So the kind may be changed before a forest is written or after.
pub put_block : (f : Forest) (q i : ℕ) (t : List Node) → i < length t → put f q (set_block i t) ≡ set_block i (put f q t)
unfolding put
put_block none q i t h = refl
put_block (leaf k p s) q i t h =
    rw (length_set_block i t, leaf_block k p q i t h) (put_block s (suc (length t)) i (add_leaf k p q t) (omega (arith, h, length_leaf k p q t)))
put_block (fork k p c s) q i t h =
    rw (length_set_block i t, fork_block k p q i t h, put_block c 0 i (add_fork k p q t) (omega (arith, h, length_fork k p q t)))
    (put_block s (suc (length t)) i (put c 0 (add_fork k p q t)) (omega (arith, h, length_fork k p q t, put_grows c 0 (add_fork k p q t))))

last_block : (l : List Node) (x : Node) → set_block (length l) (l ++ (x ∷ [])) ≡ l ++ (with_block x ∷ [])
unfolding set_block
last_block [] x = refl
last_block (y ∷ l) x = ap (λ (z : List Node). y ∷ z) (last_block l x)

pub fork_kind : (k p q : ℕ) (t : List Node) → add_fork (29 + k) p q t ≡ set_block (length t) (add_fork k p q t)
unfolding add_fork
fork_kind k p q t =
    sym (last_block (link q (length t) t) (node k p (suc (length t)) 0))
    ∙ ap (λ (n : ℕ). set_block n (link q (length t) t ++ (node k p (suc (length t)) 0 ∷ []))) (length_link q (length t) t)
