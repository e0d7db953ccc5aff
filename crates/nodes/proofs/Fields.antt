-- The fields of a word: each is what was put in, and none but the kind reaches 65,536.
use Prim.Native.Nat.{ℕ, ◌/◌, ◌%◌, ◌<◌}
use mathlib.Core.Path.{◌≡◌}
use mathlib.Core.List.{List}
use native.Mathlib.Omega.{arith}
use lib.ListN.{get_or}
use Rattle.language.specs.Table.{node, word_of}
use Rattle.nodes.specs.Nodes.{node_at}
use Rattle.nodes.specs.Forests.{Fields}

pub place_small : (tree : List ℕ) (i : ℕ) → (node_at tree i).place < 65536
unfolding node_at
place_small tree i = omega arith

pub child_small : (tree : List ℕ) (i : ℕ) → (node_at tree i).child < 65536
unfolding node_at
child_small tree i = omega arith

pub next_small : (tree : List ℕ) (i : ℕ) → (node_at tree i).next < 65536
unfolding node_at
next_small tree i = omega arith

-- the word of a node is split where it was put together
module _ (k p c s : ℕ) (low-p : p < 65536) (low-c : c < 65536) (low-s : s < 65536) where
  kind_field : word_of (node k p c s) / 281474976710656 ≡ k
  kind_field = omega arith

  place_field : word_of (node k p c s) / 4294967296 % 65536 ≡ p
  place_field = omega arith

  child_field : word_of (node k p c s) / 65536 % 65536 ≡ c
  child_field = omega arith

  next_field : word_of (node k p c s) % 65536 ≡ s
  next_field = omega arith

  pub fields : (tree : List ℕ) (i : ℕ) → get_or tree i 0 ≡ word_of (node k p c s) → Fields tree i k p c s
  unfolding node_at
  fields tree i e = record { kind_is = rw e kind_field; place_is = rw e place_field; child_is = rw e child_field; next_is = rw e next_field }

-- past the table's end, and where it has a zero, a node is all zeros
pub zeros : (tree : List ℕ) (i : ℕ) → get_or tree i 0 ≡ 0 → Fields tree i 0 0 0 0
unfolding node_at
zeros tree i e = record { kind_is = rw e; place_is = rw e; child_is = rw e; next_is = rw e }
