-- The tree words of a text that is read: the root is the text's block, and every node is where and what it must be.
use Prim.Native.Nat.{ℕ, ◌+◌, ◌<◌, ◌≤◌}
use mathlib.Core.Path.{◌≡◌, sym, ◌∙◌, subst}
use mathlib.Core.Bool.{Bool, true, false, ◌&&◌}
use mathlib.Core.Logic.{⊎_elim}
use mathlib.Core.List.{List}
use native.Mathlib.Omega.{arith}
use lib.Dec.{T, leb, leb→le}
use lib.ListN.{length, get_or-eq_default}
use lib.ListN as ListN
use Rattle.language.specs.Syntax.{Block, block}
use Rattle.language.specs.Answers.{fine}
use Rattle.language.specs.Table.{none, word_of, size, enc, shape_cmds, shape_block, table}
use Rattle.language.specs.Reading.{Reading, a_program}
use Rattle.language.proofs.Reading.Standing.{Stands, InsideCmds, InsideBlock}
use Rattle.language.proofs.Reading.Payload.{words_stand}
use Rattle.language.proofs.Reading.Shown.{room, in_place}
use Rattle.nodes.specs.Forests.{Fields, Laid, laid_fork}
use Rattle.nodes.specs.Trees.{Script, kind, AtCs, AtB, at_block, ReadAs}
use Rattle.nodes.proofs.Fields.{zeros}
use Rattle.nodes.proofs.Proper.{Proper, is_kind, proper}
use Rattle.nodes.proofs.Standing.{low_places}
use Rattle.nodes.proofs.Encoded.{enc_size, laid_table}
use Rattle.nodes.proofs.Links.{below_or_not, Linked, linked}
use Rattle.nodes.proofs.Trees.{leads, at_cmds}

-- how many nodes a block's tree has
abbrev pub nodes_of_block : Block → ℕ
nodes_of_block b = size (shape_block b none)

pub table_length : (b : Block) → length (table b) ≡ nodes_of_block b
unfolding table
table_length b = ListN.length-map (enc (shape_block b none) 0) word_of ∙ enc_size (shape_block b none) 0

proper_text : (s : List ℕ) {b : Block} → length s ≤ 65536 → Reading s (fine b) → Proper (shape_block b none)
proper_text s l (a_program {ts} e n r w) = proper r (low_places s l ts (words_stand s ts e))

block_at_root : (g : Script) (b : Block) → Laid g.tree (shape_block b none) 0 → InsideBlock b (Stands g.text) → AtB g 0 b
unfolding shape_cmds InsideCmds
block_at_root g (block p cs) (laid_fork x a z) s =
    let h = at_cmds g cs _ (leads g (shape_cmds cs none) (0 + 1) a (λ e. omega arith)) s in
    rw (← x.place_is) (at_block x.kind_is (subst (λ j. AtCs g j cs) (sym x.child_is) h))

kind_between : (k : ℕ) → is_kind k ≡ true → (1 ≤ k) × (k ≤ 33)
kind_between k = go (leb 1 k) (leb k 33) (leb→le 1 k) (leb→le k 33)
  where
    go : (t u : Bool) → (T t → 1 ≤ k) → (T u → k ≤ 33) → t && u ≡ true → (1 ≤ k) × (k ≤ 33)
    go true true a b h = (a tt, b tt)
    go true false a b h = absurd (subst (λ t. T t) (sym h) tt)
    go false u a b h = absurd (subst (λ t. T t) (sym h) tt)

module _ {g : Script} {b : Block} (h : ReadAs g b) where
  -- At most 4,096 nodes.
  pub few_nodes : nodes_of_block b ≤ 4096
  few_nodes = let r = room g.text b h.reads in let l = table_length b in omega arith

  is_proper : Proper (shape_block b none)
  is_proper = proper_text g.text (let l = h.short in omega arith) h.reads

  -- Each name and number of the tree is what the text has at its place.
  pub payload : InsideBlock b (Stands g.text)
  payload = in_place g.text b h.reads

  -- The nodes, in text order, are the tree words.
  pub laid_program : Laid g.tree (shape_block b none) 0
  unfolding table
  laid_program = laid_table g.tree (shape_block b none) h.words is_proper (let l = few_nodes in omega arith)

  -- The root is the block.
  pub root : AtB g 0 b
  root = block_at_root g b laid_program payload

  -- Every node is linked forward to nodes of the table.
  pub node_linked : (i : ℕ) → i < nodes_of_block b → Linked g.tree (nodes_of_block b) i
  node_linked i l =
      subst (λ n. Linked g.tree n i) (omega arith) (linked g.tree (shape_block b none) 0 i laid_program is_proper (omega arith) (omega arith))

  -- Its kind is one of document 01's, or of requests 5 and 8.
  pub kind_known : (i : ℕ) → i < nodes_of_block b → (1 ≤ kind g i) × (kind g i ≤ 33)
  kind_known i l = kind_between (kind g i) (node_linked i l).known

  -- Behind the nodes there are zeros.
  pub past_nodes : (i : ℕ) → nodes_of_block b ≤ i → Fields g.tree i 0 0 0 0
  past_nodes i l = zeros g.tree i (h.words i ∙ get_or-eq_default (table b) 0 (let e = table_length b in omega arith))

  -- So what has a kind is a node.
  pub node_number : (i k : ℕ) → kind g i ≡ k → 0 < k → i < nodes_of_block b
  node_number i k e l = ⊎_elim (λ m. m) (λ m. let z = (past_nodes i m).kind_is in absurd (omega (arith, e, z))) (below_or_not i (nodes_of_block b))
