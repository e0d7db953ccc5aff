-- The tree words of an encoded forest: its nodes stand where `Laid` says.
use Prim.Native.Nat.{ℕ, suc, ◌+◌, ◌<◌, ◌≤◌}
use mathlib.Core.Path.{◌≡◌, refl, ◌∙◌, ap, subst}
use mathlib.Core.List.{List, [], ◌∷◌, ◌++◌, map}
use native.Mathlib.Omega.{arith}
use lib.ListN.{length, get_or, length-append}
use Rattle.language.specs.Table.{Forest, none, leaf, fork, Node, word_of, size, first, enc}
use Rattle.nodes.specs.Forests.{Fields, Laid, laid_none, laid_leaf, laid_fork}
use Rattle.nodes.proofs.Fields.{fields}
use Rattle.nodes.proofs.Proper.{Filled, Proper}

pub enc_size : (f : Forest) (n : ℕ) → length (enc f n) ≡ size f
unfolding enc size
enc_size none n = refl
enc_size (leaf k p s) n = omega (arith, enc_size s (n + 1))
enc_size (fork k p c s) n = omega (arith, length-append (enc c (n + 1)) (enc s (n + 1 + size c)), enc_size c (n + 1), enc_size s (n + 1 + size c))

-- the first node of a forest that ends below 65,536 has a number below it
pub first_small : (f : Forest) (n : ℕ) → n + size f ≤ 65536 → first f n < 65536
unfolding first size
first_small none n h = omega arith
first_small (leaf k p s) n h = omega arith
first_small (fork k p c s) n h = omega arith

pub filled_size : (f : Forest) → Filled f → 0 < size f
unfolding size
filled_size none h = absurd h
filled_size (leaf k p s) h = omega arith
filled_size (fork k p c s) h = omega arith

pub first_filled : (f : Forest) (n : ℕ) → Filled f → first f n ≡ n
unfolding first
first_filled none n h = absurd h
first_filled (leaf k p s) n h = refl
first_filled (fork k p c s) n h = refl

module _ (tree : List ℕ) where
  -- the words of some nodes stand from n on
  abbrev Words : ℕ → List Node → Type 0
  Words n [] = Unit {0}
  Words n (x ∷ l) = (get_or tree n 0 ≡ word_of x) × Words (n + 1) l

  words_from_lem : (n : ℕ) (l : List Node) → ((j : ℕ) → get_or tree (n + j) 0 ≡ get_or (map word_of l) j 0) → Words n l
  words_from_lem n [] h = tt
  words_from_lem n (x ∷ l) h =
      (ap (λ i. get_or tree i 0) (nothing-more n) ∙ h 0, words_from_lem (n + 1) l λ j. ap (λ i. get_or tree i 0) (one_more n j) ∙ h (suc j))
    where
      nothing-more : (n : ℕ) → n ≡ n + 0
      nothing-more n = omega arith

      one_more : (n j : ℕ) → n + 1 + j ≡ n + suc j
      one_more n j = omega arith

  words_front : (n : ℕ) (a b : List Node) → Words n (a ++ b) → Words n a
  words_front n [] b h = tt
  words_front n (x ∷ a) b h = (h.0, words_front (n + 1) a b h.1)

  words_rest : (n : ℕ) (a b : List Node) (m : ℕ) → n + length a ≡ m → Words n (a ++ b) → Words m b
  words_rest n [] b m e h = subst (λ i. Words i b) (omega (arith, e)) h
  words_rest n (x ∷ a) b m e h = words_rest (n + 1) a b m (omega (arith, e)) h.1

  -- the nodes of an encoded forest
  laid_from : (f : Forest) (n : ℕ) → Words n (enc f n) → Proper f → n + size f ≤ 65536 → Laid tree f n
  unfolding enc size
  laid_from none n h p l = laid_none
  laid_from (leaf k q s) n h p l =
      laid_leaf (fields k q 0 (first s (n + 1)) p.0.1 (omega arith) (first_small s (n + 1) (omega arith)) tree n h.0)
      (laid_from s (n + 1) h.1 p.1 (omega arith))
  laid_from (fork k q c s) n h p l =
      let z = filled_size c p.1 in
      let x = fields k q (n + 1) (first s (n + 1 + size c)) p.0.1 (omega arith) (first_small s (n + 1 + size c) (omega arith)) tree n h.0 in
      let m = enc_size c (n + 1) in
      let y : Fields tree n k q (first c (n + 1)) (first s (n + 1 + size c)) = rw (first_filled c (n + 1) p.1) x in
      laid_fork y (laid_from c (n + 1) (words_front (n + 1) (enc c (n + 1)) _ h.1) p.2 (omega arith))
      (laid_from s (n + 1 + size c) (words_rest (n + 1) (enc c (n + 1)) _ (n + 1 + size c) (omega (arith, m)) h.1) p.3 (omega arith))

  -- The words of a table, from the root on, are its forest's nodes.
  pub laid_table : (f : Forest) → ((j : ℕ) → get_or tree j 0 ≡ get_or (map word_of (enc f 0)) j 0) → Proper f → size f ≤ 65536 → Laid tree f 0
  laid_table f h p l = laid_from f 0 (words_from_lem 0 (enc f 0) λ j. ap (λ i. get_or tree i 0) (from_zero j) ∙ h j) p (omega arith)
    where
      from_zero : (j : ℕ) → 0 + j ≡ j
      from_zero j = omega arith
