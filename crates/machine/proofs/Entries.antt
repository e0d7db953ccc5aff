-- What is read after a write: rows, bindings and closures.
use mathlib.Core.Path.{◌≡◌, refl, ap, ◌∙◌}
use mathlib.Core.Logic.{◌≢◌, ⊎_elim}
use Prim.Native.Nat.{ℕ, zero, suc, ◌+◌, ◌*◌, ◌≤◌, ◌<◌}
use native.Mathlib.Omega.{arith}
use mathlib.Core.Bool.{Bool, true, false}
use mathlib.Core.List.{List}
use lib.Dec.{ltb, lt→ltb}
use lib.ListN.{length, get_or, set, drop, length-set}
use lib.Seq.{get_or-set_same, get_or-set_other, drop-set-lt}
use Rattle.nodes.specs.Nodes.{node_at}
use Rattle.nodes.proofs.Links.{below_or_not}
use Rattle.machine.specs.declared.Cell.{Cell}
use Rattle.machine.specs.declared.Binding.{Binding}
use Rattle.machine.specs.Entries.{pick, most_rows, row, row_at, put_row, cell, cell_head, cell_of, cell_at, put_cell, put_cells, binding, head_of, binding_of, binding_at, put_binding, closure_word, node_of, env_of}
use Rattle.machine.proofs.Members.{pick_true}

row_eq : {t t' x x' : ℕ} → t ≡ t' → x ≡ x' → row t x ≡ row t' x'
row_eq p q = rw (p, q)

binding_eq : {c c' t t' x x' l l' j j' : ℕ} → c ≡ c' → t ≡ t' → x ≡ x' → l ≡ l' → j ≡ j' → binding c t x l j ≡ binding c' t' x' l' j'
binding_eq a b c d e = rw (a, b, c, d, e)

module _ (l : List ℕ) (k t x : ℕ) where
  -- the row is written
  abbrev written : List ℕ
  written = set (set l (2 * k) t) (2 * k + 1) x

  length_written : length written ≡ length l
  length_written = length-set (set l (2 * k) t) (2 * k + 1) x ∙ length-set l (2 * k) t

  own : 2 * suc k ≤ length l → row (get_or written (2 * k) 0) (get_or written (2 * k + 1) 0) ≡ row t x
  own h =
      row_eq (get_or-set_other (set l (2 * k) t) (2 * k + 1) (2 * k) x 0 (omega arith) ∙ get_or-set_same l (2 * k) t 0 (omega arith))
      (get_or-set_same (set l (2 * k) t) (2 * k + 1) x 0 (let e = length-set l (2 * k) t in omega (arith, e)))

  elsewhere : (j i : ℕ) → i ≢ 2 * k → i ≢ 2 * k + 1 → get_or written i 0 ≡ get_or l i 0
  elsewhere j i p q = get_or-set_other (set l (2 * k) t) (2 * k + 1) i x 0 q ∙ get_or-set_other l (2 * k) i t 0 p

  other : (j : ℕ) → j ≢ k → (b c : Bool) →
      pick c (λ _. row (get_or (pick b (λ _. written) λ _. l) (2 * j) 0) (get_or (pick b (λ _. written) λ _. l) (2 * j + 1) 0)) (λ _. row 0 0) ≡
      pick c (λ _. row (get_or l (2 * j) 0) (get_or l (2 * j + 1) 0)) (λ _. row 0 0)
  unfolding pick
  other j h true true = row_eq (elsewhere j (2 * j) (omega arith) (omega arith)) (elsewhere j (2 * j + 1) (omega arith) (omega arith))
  other j h false true = refl
  other j h true false = refl
  other j h false false = refl

  long : (b : Bool) → length (pick b (λ _. written) λ _. l) ≡ length l
  unfolding pick
  long true = length_written
  long false = refl

  beyond : (n : ℕ) (b : Bool) → 2 * suc k ≤ n → drop n (pick b (λ _. written) λ _. l) ≡ drop n l
  unfolding pick
  beyond n true h = drop-set-lt n (set l (2 * k) t) (2 * k + 1) x (omega arith) ∙ drop-set-lt n l (2 * k) t (omega arith)
  beyond n false h = refl

  pub row_length : length (put_row l k t x) ≡ length l
  unfolding put_row
  row_length = long (ltb k most_rows)

  pub row_beyond : (n : ℕ) → 2 * suc k ≤ n → drop n (put_row l k t x) ≡ drop n l
  unfolding put_row
  row_beyond n h = beyond n (ltb k most_rows) h

  pub row_other : (j : ℕ) → j ≢ k → row_at (put_row l k t x) j ≡ row_at l j
  unfolding row_at put_row
  row_other j h = other j h (ltb k most_rows) (ltb j most_rows)

  pub row_own : k < most_rows → 2 * suc k ≤ length l → row_at (put_row l k t x) k ≡ row t x
  unfolding row_at put_row
  row_own m h =
      pick_true (ltb k most_rows) _ _ (lt→ltb k most_rows m) ∙
      ap (λ (w : List ℕ). row (get_or w (2 * k) 0) (get_or w (2 * k + 1) 0)) (pick_true (ltb k most_rows) (λ _. written) _ (lt→ltb k most_rows m)) ∙ own h

-- a cell's parts that fit 16 bits come back
cell_eq : {p p' t t' x x' : ℕ} → p ≡ p' → t ≡ t' → x ≡ x' → cell p t x ≡ cell p' t' x'
cell_eq a b c = rw (a, b, c)

cell_back : (p t x : ℕ) → p < 65536 → t < 65536 → cell_of (row (cell_head p t) x) ≡ cell p t x
cell_back p t x hp ht = cell_eq (omega arith) (omega arith) refl

pub made_small : (l : List ℕ) (k : ℕ) → (cell_at l k).made < 65536
unfolding cell_at
made_small l k = omega arith

module _ (c : Cell) where
  pub cell_length : (l : List ℕ) (k : ℕ) → length (put_cell l k c) ≡ length l
  unfolding put_cell
  cell_length l k = row_length l k _ _

  pub cell_beyond : (l : List ℕ) (k r : ℕ) → 2 * suc k ≤ r → drop r (put_cell l k c) ≡ drop r l
  unfolding put_cell
  cell_beyond l k r h = row_beyond l k _ _ r h

  pub cell_other : (l : List ℕ) (k j : ℕ) → j ≢ k → cell_at (put_cell l k c) j ≡ cell_at l j
  unfolding cell_at put_cell
  cell_other l k j h = ap cell_of (row_other l k _ _ j h)

  pub cell_own : (l : List ℕ) (k : ℕ) → c.made < 65536 → c.tag < 65536 → k < most_rows → 2 * suc k ≤ length l → cell_at (put_cell l k c) k ≡ c
  unfolding cell_at put_cell
  cell_own l k hp ht m h = ap cell_of (row_own l k _ _ m h) ∙ cell_back c.made c.tag c.word hp ht

  -- n times
  pub cells_length : (n : ℕ) (l : List ℕ) (k : ℕ) → length (put_cells n l k c) ≡ length l
  unfolding put_cells
  cells_length zero l k = refl
  cells_length (suc n) l k = cells_length n (put_cell l k c) (suc k) ∙ cell_length l k

  pub cells_beyond : (n : ℕ) (l : List ℕ) (k r : ℕ) → 2 * (n + k) ≤ r → drop r (put_cells n l k c) ≡ drop r l
  unfolding put_cells
  cells_beyond zero l k r h = refl
  cells_beyond (suc n) l k r h = cells_beyond n (put_cell l k c) (suc k) r (omega arith) ∙ cell_beyond l k r (omega arith)

  pub cells_before : (n : ℕ) (l : List ℕ) (k j : ℕ) → j < k → cell_at (put_cells n l k c) j ≡ cell_at l j
  unfolding put_cells
  cells_before zero l k j h = refl
  cells_before (suc n) l k j h = cells_before n (put_cell l k c) (suc k) j (omega arith) ∙ cell_other l k j (omega arith)

  same : (j k : ℕ) → k ≤ j → j ≤ k → j ≡ k
  same j k h i = omega arith

  pub cells_own : c.made < 65536 → c.tag < 65536 → (n : ℕ) (l : List ℕ) (k j : ℕ) → k ≤ j → j < n + k → n + k ≤ most_rows → 2 * (n + k) ≤ length l →
      cell_at (put_cells n l k c) j ≡ c
  unfolding put_cells
  cells_own hp ht zero l k j a b e d = absurd (omega arith)
  cells_own hp ht (suc n) l k j a b e d =
      ⊎_elim (λ h. cells_own hp ht n (put_cell l k c) (suc k) j h (omega arith) (omega arith) (let q = cell_length l k in omega (arith, q)))
      (λ h. cells_before n (put_cell l k c) (suc k) j (omega arith) ∙ (ap (λ (i : ℕ). cell_at (put_cell l k c) i) (same j k a h) ∙ cell_own l k hp ht (omega arith) (omega arith)))
      (below_or_not k j)

-- a binding's parts that fit 16 bits come back
binding_back : (c t x l j : ℕ) → c < 65536 → t < 65536 → l < 65536 → j < 65536 → binding_of (row (head_of c t l j) x) ≡ binding c t x l j
binding_back c t x l j hc ht hl hj = binding_eq (omega arith) (omega arith) refl (omega arith) (omega arith)

module _ (l : List ℕ) (k : ℕ) (b : Binding) where
  pub binding_length : length (put_binding l k b) ≡ length l
  unfolding put_binding
  binding_length = row_length l k _ _

  pub binding_beyond : (n : ℕ) → 2 * suc k ≤ n → drop n (put_binding l k b) ≡ drop n l
  unfolding put_binding
  binding_beyond n h = row_beyond l k _ _ n h

  pub binding_other : (j : ℕ) → j ≢ k → binding_at (put_binding l k b) j ≡ binding_at l j
  unfolding binding_at put_binding
  binding_other j h = ap binding_of (row_other l k _ _ j h)

  pub binding_own : k < most_rows → 2 * suc k ≤ length l → b.code < 65536 → b.tag < 65536 → b.link < 65536 → b.jump < 65536 → binding_at (put_binding l k b) k ≡ b
  unfolding binding_at put_binding
  binding_own m h hc ht hl hj = ap binding_of (row_own l k _ _ m h) ∙ binding_back b.code b.tag b.word b.link b.jump hc ht hl hj

-- a closure's parts that fit 16 bits come back
pub closure_node : (i env : ℕ) → i < 65536 → node_of (closure_word i env) ≡ i
unfolding node_of closure_word
closure_node i env h = omega arith

pub closure_env : (i env : ℕ) → env < 65536 → env_of (closure_word i env) ≡ env
unfolding env_of closure_word
closure_env i env h = omega arith

-- the parts of a node fit 16 bits
pub place_small : (tree : List ℕ) (i : ℕ) → (node_at tree i).place < 65536
unfolding node_at
place_small tree i = omega arith

pub child_small : (tree : List ℕ) (i : ℕ) → (node_at tree i).child < 65536
unfolding node_at
child_small tree i = omega arith

pub next_small : (tree : List ℕ) (i : ℕ) → (node_at tree i).next < 65536
unfolding node_at
next_small tree i = omega arith
