-- CHECK and RUN, made to run: for every input they have one answer and leave one thing.
use mathlib.Core.Path.{◌≡◌, refl, sym, ◌∙◌, ap}
use mathlib.Core.Bool.{Bool, true, false}
use mathlib.Core.List.{List, ◌∷◌}
use mathlib.Core.Option.{Option, none, some}
use Prim.Native.Nat.{ℕ, ◌≤◌}
use lib.Dec.{leb}
use lib.IntN.{ℤ}
use lib.ListN.{length}
use borrow.Author.Tests.{leb-true, leb-false, le-leb, lt-leb}
use native.Mathlib.Omega.{arith}
use Rattle.language.specs.Syntax.{Block}
use Rattle.language.specs.Answers.{LENGTH, LIMIT, TABLE, Answer, done, refused, Result, fine, refuse}
use Rattle.language.specs.Typing.{Typable}
use Rattle.language.specs.Limits.{Limits, Admitted}
use Rattle.language.specs.Rules.{stop, no_rule, Outcome, ok, halt, start, run}
use Rattle.language.specs.Outcome.{state_of, end_of}
use Rattle.language.specs.Promises.{Verdict, typed, verdict_answer, text_bytes, tree_words, Lent, tree_table, large_enough, zeroed, untouched, cleared, tree_after, Checked, check_refuses, Check, judged, told, Ran, all_large, run_refuses, ran_with, Run, too_much, not_run, ran}
use Rattle.language.specs.Claims.{NoRule}
use Rattle.language.proofs.Running.Sound.{sound}
use Rattle.language.proofs.Texts.Verdicts.{verdict, verdict_right, only_verdict}

-- ---- CHECK

module _ (text tree : List ℕ) (works : List Lent) where
  after_verdict : Result Block → Checked
  after_verdict v = record { answer = verdict_answer v; tree = tree_after v tree; works = cleared works }

  by_tests : (short large : Bool) → Checked
  by_tests false l = check_refuses text tree works LENGTH
  by_tests true false = check_refuses text tree works TABLE
  by_tests true true = after_verdict (verdict text)

  checked : Checked
  checked = by_tests (leb (length text) text_bytes) (large_enough (tree_table tree ∷ works))

  tests_right : (s l : Bool) → leb (length text) text_bytes ≡ s → large_enough (tree_table tree ∷ works) ≡ l → Check text tree works (by_tests s l)
  unfolding by_tests after_verdict
  tests_right false l e f = Check.too_long (leb-false (length text) text_bytes e)
  tests_right true false e f = Check.too_small (leb-true (length text) text_bytes e) f
  tests_right true true e f = judged (leb-true (length text) text_bytes e) f (verdict_right text)

  checked_right : Check text tree works checked
  unfolding checked
  checked_right = tests_right _ _ refl refl

  only_check : {c : Checked} → Check text tree works c → checked ≡ c
  unfolding checked by_tests after_verdict
  only_check (Check.too_long h) = ap (λ s. by_tests s (large_enough (tree_table tree ∷ works))) (lt-leb (length text) text_bytes h)
  only_check (Check.too_small h f) = ap (λ s. by_tests s (large_enough (tree_table tree ∷ works))) (le-leb (length text) text_bytes h) ∙ ap (by_tests true) f
  only_check (judged h f v) =
      ap (λ s. by_tests s (large_enough (tree_table tree ∷ works))) (le-leb (length text) text_bytes h) ∙ (ap (by_tests true) f ∙ ap after_verdict (only_verdict v))

  pub one_check : ((c : Checked) × Check text tree works c) × ((c c' : Checked) → Check text tree works c → Check text tree works c' → c ≡ c')
  one_check = ((checked, checked_right), λ c c' h k. sym (only_check h) ∙ only_check k)

-- ---- RUN

-- limits are admitted or not
le_or_not : (m n : ℕ) → Dec (m ≤ n)
le_or_not m n = go (leb m n) refl
  where
    go : (b : Bool) → leb m n ≡ b → Dec (m ≤ n)
    go true e = yes (leb-true m n e)
    go false e = no λ h. omega (arith, leb-false m n e, h)

both_or_not : {A B : Type 0} → Dec A → Dec B → Dec (A × B)
both_or_not (yes a) (yes b) = yes (a, b)
both_or_not (yes a) (no b) = no λ h. b h.1
both_or_not (no a) d = no λ h. a h.0

admitted_or_not : (L : Limits) → Dec (Admitted L)
admitted_or_not L =
    go
    (both_or_not (le_or_not L.fuel 1000000)
    (both_or_not (le_or_not L.depth 200)
    (both_or_not (le_or_not L.bindings 4096) (both_or_not (le_or_not L.cells 4096) (le_or_not L.output 4096)))))
  where
    go : Dec ((L.fuel ≤ 1000000) × ((L.depth ≤ 200) × ((L.bindings ≤ 4096) × ((L.cells ≤ 4096) × (L.output ≤ 4096))))) → Dec (Admitted L)
    go (yes h) = yes (record { fuel_le = h.0; depth_le = h.1.0; bindings_le = h.1.1.0; cells_le = h.1.1.1.0; output_le = h.1.1.1.1 })
    go (no h) = no λ a. h (a.fuel_le, (a.depth_le, (a.bindings_le, (a.cells_le, a.output_le))))

-- the end of a run that has one
end_or_done : Option Answer → Answer
end_or_done none = done
end_or_done (some a) = a

has_end : {A : Type 0} (o : Outcome A) → ¬ NoRule o → end_of o ≡ some (end_or_done (end_of o))
unfolding end_or_done
has_end (ok a s) n = refl
has_end (halt (stop w) p s) n = refl
has_end (halt no_rule p s) n = absurd (n tt)

typed_of : {s : List ℕ} {b : Block} → Verdict s (fine b) → Typable b
typed_of (typed h t) = t

module _ (L : Limits) (text tree : List ℕ) (works stores : List Lent) (output : List ℤ) where
  run_after : Result Block → Ran
  run_after (fine b) = ran_with L text tree works stores output b (end_or_done (end_of (run L b))) (state_of (run L b))
  run_after (refuse r p) =
      record { says = told (refused r p) start; tree = zeroed tree_words tree; works = cleared works; stores = untouched stores; output = output }

  run_tests : Bool → Dec (Admitted L) → Bool → Ran
  run_tests false d l = run_refuses L text tree works stores output LENGTH
  run_tests true (no n) l = run_refuses L text tree works stores output LIMIT
  run_tests true (yes a) false = run_refuses L text tree works stores output TABLE
  run_tests true (yes a) true = run_after (verdict text)

  ran_as : Ran
  ran_as = run_tests (leb (length text) text_bytes) (admitted_or_not L) (all_large L text tree works stores output)

  after_right : length text ≤ text_bytes → Admitted L → (all_large L text tree works stores output) ≡ true → (v : Result Block) → Verdict text v → Run L text tree works stores output (run_after v)
  unfolding run_after
  after_right h a f (fine b) v = ran h a f v (has_end (run L b) (sound L b (typed_of v)))
  after_right h a f (refuse r p) v = not_run h a f v

  run_tests_right : (s : Bool) (d : Dec (Admitted L)) (l : Bool) → leb (length text) text_bytes ≡ s → (all_large L text tree works stores output) ≡ l → Run L text tree works stores output (run_tests s d l)
  unfolding run_tests
  run_tests_right false d l e f = Run.too_long (leb-false (length text) text_bytes e)
  run_tests_right true (no n) l e f = too_much (leb-true (length text) text_bytes e) n
  run_tests_right true (yes a) false e f = Run.too_small (leb-true (length text) text_bytes e) a f
  run_tests_right true (yes a) true e f = after_right (leb-true (length text) text_bytes e) a f (verdict text) (verdict_right text)

  short : (d : Dec (Admitted L)) (l : Bool) → length text ≤ text_bytes → run_tests (leb (length text) text_bytes) d l ≡ run_tests true d l
  short d l h = ap (λ s. run_tests s d l) (le-leb (length text) text_bytes h)

  admits : (d : Dec (Admitted L)) (l : Bool) (a : Admitted L) → run_tests true d l ≡ run_tests true (yes a) l
  unfolding run_tests
  admits (yes b) false a = refl
  admits (yes b) true a = refl
  admits (no n) l a = absurd (n a)

  refuses_limits : (d : Dec (Admitted L)) (l : Bool) → ¬ Admitted L → run_tests true d l ≡ run_refuses L text tree works stores output LIMIT
  unfolding run_tests
  refuses_limits (yes a) l n = absurd (n a)
  refuses_limits (no m) l n = refl

  only_run : {r : Ran} → Run L text tree works stores output r → ran_as ≡ r
  unfolding ran_as run_tests run_after end_or_done
  only_run (Run.too_long h) = ap (λ s. run_tests s (admitted_or_not L) (all_large L text tree works stores output)) (lt-leb (length text) text_bytes h)
  only_run (too_much h n) = short (admitted_or_not L) (all_large L text tree works stores output) h ∙ refuses_limits (admitted_or_not L) (all_large L text tree works stores output) n
  only_run (Run.too_small h a f) = short (admitted_or_not L) (all_large L text tree works stores output) h ∙ (admits (admitted_or_not L) (all_large L text tree works stores output) a ∙ ap (run_tests true (yes a)) f)
  only_run (not_run h a f v) =
      short (admitted_or_not L) (all_large L text tree works stores output) h ∙ (admits (admitted_or_not L) (all_large L text tree works stores output) a ∙ (ap (run_tests true (yes a)) f ∙ ap run_after (only_verdict v)))
  only_run (ran {b} h a f v e) =
      short (admitted_or_not L) (all_large L text tree works stores output) h ∙ (admits (admitted_or_not L) (all_large L text tree works stores output) a ∙ (ap (run_tests true (yes a)) f ∙ (ap run_after (only_verdict v) ∙ ap (λ o. ran_with L text tree works stores output b (end_or_done o) (state_of (run L b))) e)))

  pub one_run : ((r : Ran) × Run L text tree works stores output r) × ((r r' : Ran) → Run L text tree works stores output r → Run L text tree works stores output r' → r ≡ r')
  unfolding ran_as
  one_run = ((ran_as, run_tests_right _ _ _ refl refl), λ r r' h k. sym (only_run h) ∙ only_run k)
