-- The promise of `read` allows one answer to each input; and what each kind of answer says, for the layers above.
use mathlib.Core.Path.{◌≡◌, refl, sym, ap, subst}
use mathlib.Core.Bool.{Bool, true, false}
use mathlib.Core.List.{List, ◌∷◌}
use Prim.Native.Nat.{ℕ, ◌≤◌}
use native.Mathlib.Omega.{arith}
use lib.ListN.{length}
use Rattle.language.specs.Syntax.{Block}
use Rattle.language.specs.Answers.{Refusal, LENGTH, TABLE, Result, fine, refuse}
use Rattle.language.specs.Table.{table}
use Rattle.language.specs.Reading.{Reading}
use Rattle.language.specs.Promises.{text_bytes, Lent, tree_table, large_enough, cleared, tree_after}
use Rattle.language.proofs.Reading.Answer as Answer
use Rattle.reading.specs.Promise.{outcome_of, Left, read_refuses, Read, too_long, too_small, answered}

not_both : {b : Bool} → b ≡ true → b ≡ false → ⊥
not_both t f = let z : ◌≡◌ {A = ℕ} 0 1 = cc in omega arith

no_tree : {c : Refusal} {n p : ℕ} → refuse c p ≡ fine n → ⊥
no_tree e = let z : ◌≡◌ {A = ℕ} 0 1 = cc in omega arith

same_count : {n m : ℕ} → fine n ≡ fine m → m ≡ n
same_count e = cc

same_refusal : {c d : Refusal} {p q : ℕ} → ◌≡◌ {A = Result ℕ} (refuse c p) (refuse d q) → c ≡ d
same_refusal e = cc

same_place : {c d : Refusal} {p q : ℕ} → ◌≡◌ {A = Result ℕ} (refuse c p) (refuse d q) → p ≡ q
same_place e = cc

module _ {text tree : List ℕ} {works : List Lent} where
  pub one_answer : {a b : Left} → Read text tree works a → Read text tree works b → a ≡ b
  one_answer (too_long h) (too_long k) = refl
  one_answer (too_long h) (too_small k e) = absurd (omega arith)
  one_answer (too_long h) (answered k e r) = absurd (omega arith)
  one_answer (too_small h e) (too_long k) = absurd (omega arith)
  one_answer (too_small h e) (too_small k f) = refl
  one_answer (too_small h e) (answered k f r) = absurd (not_both f e)
  one_answer (answered h e r) (too_long k) = absurd (omega arith)
  one_answer (answered h e r) (too_small k f) = absurd (not_both e f)
  one_answer (answered h e r) (answered k f q) =
      ap (λ (v : Result Block). record { outcome = outcome_of v; tree = tree_after v tree; works = cleared works }) (Answer.one_answer r q)

module _ (text tree : List ℕ) (works : List Lent) where
  -- the text reads: its program, and the tree table with it
  pub record Accepted (count : ℕ) (left : Left) : Type 0 where
    pub program : Block
    pub reading : Reading text (fine program)
    pub counts : count ≡ length (table program)
    pub left_tree : left.tree ≡ tree_after (fine program) tree
    pub works_left : left.works ≡ cleared works
    pub short : length text ≤ text_bytes
    pub enough : large_enough (tree_table tree ∷ works) ≡ true

  -- it is refused for what it says, BYTE to LEVEL, and the tables are cleared
  pub record Unread (why : Refusal) (place : ℕ) (left : Left) : Type 0 where
    pub reading : Reading text (refuse why place)
    pub left_tree : left.tree ≡ tree_after (refuse why place) tree
    pub works_left : left.works ≡ cleared works
    pub short : length text ≤ text_bytes
    pub enough : large_enough (tree_table tree ∷ works) ≡ true

  -- or LENGTH or TABLE, and nothing is changed
  pub data NotRead (why : Refusal) (place : ℕ) (left : Left) : Type 0 where
    unread : Unread why place left → NotRead why place left
    not_tried : left ≡ read_refuses text tree works why → Read text tree works (read_refuses text tree works why) → place ≡ 0 → NotRead why place left

  pub if_tree : {left : Left} (n : ℕ) → Read text tree works left → left.outcome ≡ fine n → Accepted n left
  if_tree n (too_long h) o = absurd (no_tree o)
  if_tree n (too_small h e) o = absurd (no_tree o)
  if_tree n (answered {v = fine b} h e r) o =
      record { program = b; reading = r; counts = same_count o; left_tree = refl; works_left = refl; short = h; enough = e }
  if_tree n (answered {v = refuse r p} h e q) o = absurd (no_tree o)

  pub if_refused : {left : Left} (why : Refusal) (p : ℕ) → Read text tree works left → left.outcome ≡ refuse why p → NotRead why p left
  if_refused why p (too_long h) o = subst (λ (r : Refusal). NotRead r p (read_refuses text tree works LENGTH)) (same_refusal o) (not_tried refl (too_long h) (sym (same_place o)))
  if_refused why p (too_small h e) o = subst (λ (r : Refusal). NotRead r p (read_refuses text tree works TABLE)) (same_refusal o) (not_tried refl (too_small h e) (sym (same_place o)))
  if_refused why p (answered {v = fine b} h e r) o = absurd (no_tree (sym o))
  if_refused why p (answered {v = refuse r q} h e k) o =
      let reads : Reading text (refuse why p) =
      subst (λ (s : Refusal). Reading text (refuse s p)) (same_refusal o) (subst (λ (z : ℕ). Reading text (refuse r z)) (same_place o) k) in
      unread (record { reading = reads; left_tree = refl; works_left = refl; short = h; enough = e })
