-- Where the nodes of a forest stand among the tree words: numbered in text order, each with the links that lead to its children and its siblings.
use Rattle.std.specs.Prelude.{ℕ, ◌+◌, ◌≡◌, List}
use Rattle.language.specs.Table.{Forest, none, leaf, fork, size, first}
use Rattle.nodes.specs.Nodes.{node_at}

module _ (tree : List ℕ) where
  -- the fields of the node i
  pub record Fields (i kind place child next : ℕ) : Type 0 where
    pub kind_is : (node_at tree i).kind ≡ kind
    pub place_is : (node_at tree i).place ≡ place
    pub child_is : (node_at tree i).child ≡ child
    pub next_is : (node_at tree i).next ≡ next

  -- from n on the words are the nodes of a forest
  pub data Laid : Forest → ℕ → Type 0 where
    laid_none : {n : ℕ} → Laid none n
    laid_leaf : {n k p : ℕ} {s : Forest} → Fields n k p 0 (first s (n + 1)) → Laid s (n + 1) → Laid (leaf k p s) n
    laid_fork : {n k p : ℕ} {c s : Forest} → Fields n k p (first c (n + 1)) (first s (n + 1 + size c)) →
        Laid c (n + 1) → Laid s (n + 1 + size c) → Laid (fork k p c s) n
