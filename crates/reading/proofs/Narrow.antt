-- The kinds of a program's nodes have 16 bits: so the words that the table has of them are theirs.
use mathlib.Core.Path.{◌≡◌, refl, ap}
use mathlib.Core.List.{List, [], ◌∷◌, ◌++◌, map}
use mathlib.Core.Bool.{true}
use Prim.Native.Nat.{ℕ, ◌+◌}
use native.Mathlib.Omega.{arith}
use lib.Dec.{leb}
use borrow.Author.Tests.{leb-true}
use Rattle.language.specs.Table.{Forest, none, leaf, fork, Node, node, word_of, size, first, enc}
use Rattle.nodes.proofs.Proper.{is_kind, Proper}
use Rattle.reading.proofs.Numbered.{and_right}
use Rattle.reading.proofs.Trees.{word_in}

kind_narrow : (k p c s : ℕ) → is_kind k ≡ true → word_in (node k p c s) ≡ word_of (node k p c s)
kind_narrow k p c s h = omega (arith, leb-true k 33 (and_right (leb 1 k) (leb k 33) h))

map_append : (w : Node → ℕ) (t u : List Node) → map w (t ++ u) ≡ map w t ++ map w u
map_append w [] u = refl
map_append w (x ∷ t) u = ap (λ (l : List ℕ). w x ∷ l) (map_append w t u)

pub narrow : (f : Forest) (n : ℕ) → Proper f → map word_in (enc f n) ≡ map word_of (enc f n)
unfolding enc
narrow none n h = refl
narrow (leaf k p s) n h = rw (kind_narrow k p 0 (first s (n + 1)) h.0.0, narrow s (n + 1) h.1) refl
narrow (fork k p c s) n h =
    let children = enc c (n + 1) in
    let siblings = enc s (n + 1 + size c) in
    rw (
      kind_narrow k p (n + 1) (first s (n + 1 + size c)) h.0.0,
      map_append word_in children siblings,
      map_append word_of children siblings,
      narrow c (n + 1) h.2,
      narrow s (n + 1 + size c) h.3,
    ) refl
