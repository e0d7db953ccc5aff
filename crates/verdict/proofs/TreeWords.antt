-- The tree words of a text that reads: the part of the tree table that is judged is the tree and zeros.
use Prim.Native.Nat.{ℕ, zero, suc, ◌-◌, ◌≤◌}
use mathlib.Core.Path.{◌≡◌, refl, sym, ap, ◌∙◌}
use mathlib.Core.List.{List, [], ◌∷◌, ◌++◌, append_assoc}
use native.Mathlib.Omega.{arith}
use lib.ListN.{length, take, drop, get_or, replicate, length-append, length-replicate}
use lib.Seq.{take_at, drop_at}
use Rattle.language.specs.Syntax.{Block}
use Rattle.language.specs.Answers.{fine}
use Rattle.language.specs.Table.{table}
use Rattle.language.specs.Reading.{Reading}
use Rattle.limits.specs.Cleared.{zeroed}
use Rattle.limits.proofs.Cleared.{zeroed_is}
use Rattle.nodes.specs.Trees.{Script, ReadAs}
use Rattle.nodes.proofs.Program.{table_length, few_nodes}

-- zeros behind a list change no entry
zero_at : (m j : ℕ) → ◌≡◌ {A = ℕ} (get_or (replicate m 0) j 0) (get_or [] j 0)
zero_at zero j = refl
zero_at (suc m) zero = refl
zero_at (suc m) (suc j) = zero_at m j

zeros_behind : (l : List ℕ) (m j : ℕ) → get_or (l ++ replicate m 0) j 0 ≡ get_or l j 0
zeros_behind [] m j = zero_at m j
zeros_behind (x ∷ l) m zero = refl
zeros_behind (x ∷ l) m (suc j) = zeros_behind l m j

-- a table t whose first k entries are the list l and then zeros
module _ (k : ℕ) (l t : List ℕ) (h : length l ≤ k) where
  full : length (l ++ replicate (k - length l) 0) ≡ k
  full = omega (arith, length-append l (replicate (k - length l) 0), length-replicate {A = ℕ} (k - length l) 0)

  split : l ++ (replicate (k - length l) 0 ++ drop k t) ≡ (l ++ replicate (k - length l) 0) ++ drop k t
  split = sym (append_assoc l (replicate (k - length l) 0) (drop k t))

  pub front_words : take k (l ++ (replicate (k - length l) 0 ++ drop k t)) ≡ l ++ replicate (k - length l) 0
  front_words = ap (take k) split ∙ take_at (l ++ replicate (k - length l) 0) (drop k t) k full

  pub wiped : zeroed 0 k (l ++ (replicate (k - length l) 0 ++ drop k t)) ≡ replicate k 0 ++ drop k t
  wiped =
      ap (zeroed 0 k) split
      ∙ zeroed_is 0 k ((l ++ replicate (k - length l) 0) ++ drop k t) (omega (arith, length-append (l ++ replicate (k - length l) 0) (drop k t), full))
      ∙ ap (λ (d : List ℕ). replicate k 0 ++ d) (drop_at (l ++ replicate (k - length l) 0) (drop k t) k full)

module _ {x : List ℕ} {b : Block} (reads : Reading x (fine b)) (short : length x ≤ 16384) where
  -- at most 4,096 words
  pub few_words : length (table b) ≤ 4096
  few_words =
      let g : Script = record { tree = table b; text = x } in
      let n = few_nodes {g = g} {b = b} (record { reads = reads; short = short; words = λ j. refl }) in
      let l = table_length b in
      omega arith

  pub words_read : (k : ℕ) (t : List ℕ) → length (table b) ≤ k →
      ReadAs (record { tree = take k (table b ++ (replicate (k - length (table b)) 0 ++ drop k t)); text = x }) b
  words_read k t h =
      record {
        reads = reads;
        short = short;
        words = λ j. ap (λ (l : List ℕ). get_or l j 0) (front_words k (table b) t h) ∙ zeros_behind (table b) (k - length (table b)) j;
      }
