-- The backward pass gives each node its note, by the notes of those behind it, and answers with the first refused node in the text.
use Prim.Native.Nat.{ℕ, zero, suc, ◌+◌, ◌-◌, ◌<◌, ◌≤◌}
use mathlib.Core.Path.{◌≡◌, refl, ap, ◌∙◌, subst}
use mathlib.Core.Bool.{Bool, true, false}
use mathlib.Core.List.{List}
use mathlib.Core.Logic.{⊎_elim}
use native.Mathlib.Omega.{arith}
use lib.ListN.{length, get_or, set, length-set}
use lib.Seq.{get_or-set_same, get_or-set_other}
use Rattle.nodes.proofs.Links.{below_or_not}
use Rattle.judge.specs.Scopes.{pick}
use Rattle.judge.specs.Judge.{refuses, note_of, answer, judge_down}

-- equal notes from n on
abbrev pub Agree : ℕ → List ℕ → List ℕ → Type 0
Agree n N M = (j : ℕ) → n ≤ j → get_or N j 0 ≡ get_or M j 0

-- no node is refused itself from lo up to hi
abbrev pub Clean : List ℕ → ℕ → ℕ → Type 0
Clean N lo hi = (j : ℕ) → lo ≤ j → j < hi → refuses (get_or N j 0) ≡ false

-- the answer over the first i nodes, where it was `before` from those behind them
pub data Answers (N : List ℕ) (i before : ℕ) : ℕ → Type 0 where
  none_refused : Clean N 0 i → Answers N i before before
  first_refused : (j : ℕ) → j < i → refuses (get_or N j 0) ≡ true → Clean N 0 j → Answers N i before (get_or N j 0 + j - 65535)

module _ (x t S : List ℕ) where
  -- the note of i is by a table that has the same notes behind i
  pub record Noted (N : List ℕ) (i : ℕ) : Type 0 where
    pub M : List ℕ
    pub agree : Agree (suc i) N M
    pub is : get_or N i 0 ≡ note_of x t S M i

  down_keeps : (i at : ℕ) (N : List ℕ) → Agree i (judge_down x t S i at N).notes N
  unfolding judge_down
  down_keeps zero at N j h = refl
  down_keeps (suc i) at N j h =
      let r = note_of x t S N i in
      down_keeps i (answer r i at) (set N i r) j (omega arith) ∙ get_or-set_other N i j r 0 (λ e. other i j h e)
    where
      other : (i j : ℕ) → suc i ≤ j → j ≡ i → ⊥
      other i j h e = omega arith

  -- the step at i
  step_note : (i at : ℕ) (N : List ℕ) → i < length N → get_or (judge_down x t S (suc i) at N).notes i 0 ≡ note_of x t S N i
  unfolding judge_down
  step_note i at N l =
      let r = note_of x t S N i in down_keeps i (answer r i at) (set N i r) i (omega arith) ∙ get_or-set_same N i r 0 l

  set_long : (i n : ℕ) (N : List ℕ) (r : ℕ) → n ≤ length N → n ≤ length (set N i r)
  set_long i n N r l = let e = length-set N i r in omega arith

  pub down_noted : (i at : ℕ) (N : List ℕ) → i ≤ length N → (j : ℕ) → j < i → Noted (judge_down x t S i at N).notes j
  unfolding judge_down
  down_noted zero at N l j h = absurd (omega arith)
  down_noted (suc i) at N l j h =
      ⊎_elim (λ b. down_noted i (answer (note_of x t S N i) i at) (set N i (note_of x t S N i)) (set_long i i N _ (omega arith)) j b)
      (λ b. subst (λ k. Noted (judge_down x t S (suc i) at N).notes k) (here i j h b)
      (record { M = N; agree = down_keeps (suc i) at N; is = step_note i at N l }))
      (below_or_not j i)
    where
      here : (i j : ℕ) → j < suc i → i ≤ j → i ≡ j
      here i j h b = omega arith

  clean_more : (N : List ℕ) (lo i : ℕ) → Clean N lo i → refuses (get_or N i 0) ≡ false → Clean N lo (suc i)
  clean_more N lo i c z j l h = ⊎_elim (λ b. c j l b) (λ b. subst (λ k. refuses (get_or N k 0) ≡ false) (here i j h b) z) (below_or_not j i)
    where
      here : (i j : ℕ) → j < suc i → i ≤ j → i ≡ j
      here i j h b = omega arith

  pub down_answers : (i at : ℕ) (N : List ℕ) → i ≤ length N → Answers (judge_down x t S i at N).notes i at (judge_down x t S i at N).at
  unfolding judge_down answer
  down_answers zero at N l = none_refused (λ j a b. absurd (omega arith))
  down_answers (suc i) at N l =
      by-rule (refuses r) refl (answer r i at) refl (down_answers i (answer r i at) (set N i r) (set_long i i N r (omega arith)))
    where
      r : ℕ
      r = note_of x t S N i

      final : List ℕ
      final = (judge_down x t S (suc i) at N).notes

      by-rule : (b : Bool) → refuses r ≡ b → (at' : ℕ) → pick b (λ _. r + i - 65535) (λ _. at) ≡ at' → {a : ℕ} → Answers final i at' a → Answers final (suc i) at a
      by-rule b e at' f (first_refused j h g c) = first_refused j (omega arith) g c
      by-rule true e at' f (none_refused c) =
          subst (λ a. Answers final (suc i) at a) (ap (λ k. k + i - 65535) (step_note i at N l) ∙ f)
          (first_refused i (omega arith) (ap refuses (step_note i at N l) ∙ e) c)
      by-rule false e at' f (none_refused c) =
          subst (λ a. Answers final (suc i) at a) f (none_refused (clean_more final 0 i c (ap refuses (step_note i at N l) ∙ e)))
