-- Nothing carries over from an earlier call: a call's promise on some tables gives the promise on any others that are large enough, with the same answer,
-- numbers and tree; and a call has one answer.
use mathlib.Core.Path.{◌≡◌, refl, sym, ◌∙◌, ap}
use mathlib.Core.Bool.{true, true≢false}
use mathlib.Core.List.{List, ◌∷◌, ◌++◌, append_assoc}
use Prim.Native.Nat.{ℕ, ◌-◌, ◌≤◌}
use native.Mathlib.Omega.{arith}
use lib.IntN.{ℤ}
use lib.ListN.{length, take, drop, replicate, length-append, length-replicate}
use lib.Seq.{take_at, take-append_seam}
use Rattle.language.specs.Syntax.{Block}
use Rattle.language.specs.Answers.{LENGTH, LIMIT, refused, Result, fine, refuse}
use Rattle.language.specs.Table.{table}
use Rattle.language.specs.Limits.{Limits, Admitted}
use Rattle.language.specs.Rules.{start, run}
use Rattle.language.specs.Outcome.{state_of}
use Rattle.language.specs.Promises.{Verdict, typed, verdict_answer, text_bytes, tree_words, Lent, tree_table, large_enough, zeroed, holding, untouched, cleared, tree_after, Checked, check_refuses, Check, judged, told, Ran, all_large, run_refuses, ran_with, Run, too_much, not_run, ran}
use Rattle.language.specs.Claims.{CheckCarriesNothingOver, RunCarriesNothingOver}
use Rattle.language.proofs.Reading.Shown.{room}
use Rattle.language.proofs.Texts.Promised.{one_check, one_run}

-- ---- what a table holds as far as it is used is nothing that it held before

zeros_first : (n : ℕ) (t : List ℕ) → take n (zeroed n t) ≡ replicate n 0
zeros_first n t = take_at (replicate n 0) (drop n t) n (length-replicate n 0)

numbers_first : (n : ℕ) (l t : List ℕ) → length l ≤ n → take n (holding n l t) ≡ l ++ replicate (n - length l) 0
numbers_first n l t h =
    ap (take n) (sym (append_assoc l (replicate (n - length l) 0) (drop n t))) ∙
    take_at (l ++ replicate (n - length l) 0) (drop n t) n (omega (arith, length-append l (replicate (n - length l) 0), length-replicate {A = ℕ} (n - length l) 0, h))

tree_first : (text : List ℕ) (v : Result Block) → Verdict text v → (t u : List ℕ) → take tree_words (tree_after v t) ≡ take tree_words (tree_after v u)
tree_first text (fine b) (typed h y) t u =
    numbers_first tree_words (table b) t (room text b h) ∙ sym (numbers_first tree_words (table b) u (room text b h))
tree_first text (refuse r p) x t u = zeros_first tree_words t ∙ sym (zeros_first tree_words u)

-- ---- CHECK

module _ (text : List ℕ) where
  pub record SameCheck (c d : Checked) : Type 0 where
    pub answers : c.answer ≡ d.answer
    pub trees : length text ≤ text_bytes → take tree_words c.tree ≡ take tree_words d.tree

  module _ (tree tree' : List ℕ) (works works' : List Lent) (large : large_enough (tree_table tree ∷ works) ≡ true) (large' : large_enough (tree_table tree' ∷ works') ≡ true) where
    checked_elsewhere : {c : Checked} → Check text tree works c → (d : Checked) × Check text tree' works' d × SameCheck c d
    checked_elsewhere (Check.too_long h) = (check_refuses text tree' works' LENGTH, Check.too_long h, record { answers = refl; trees = λ k. absurd (omega (arith, h, k)) })
    checked_elsewhere (Check.too_small h f) = absurd (true≢false (sym large ∙ f))
    checked_elsewhere (judged {v} h f x) =
        (record { answer = verdict_answer v; tree = tree_after v tree'; works = cleared works' }, judged h large' x, record { answers = refl; trees = λ _. tree_first text v x tree tree' })

pub check_carries_nothing_over : CheckCarriesNothingOver
check_carries_nothing_over text tree tree' works works' c c' large large' h h' =
    let m = checked_elsewhere text tree tree' works works' large large' h in
    let e : m.0 ≡ c' = (one_check text tree' works').1 m.0 c' m.1 h' in
    (m.2.answers ∙ ap (λ (d : Checked). d.answer) e, λ k. m.2.trees k ∙ ap (λ (d : Checked). take tree_words d.tree) e)

-- ---- RUN

module _ (L : Limits) (text : List ℕ) where
  pub record SameRun (r q : Ran) : Type 0 where
    pub says : r.says ≡ q.says
    pub outputs : take r.says.numbers r.output ≡ take q.says.numbers q.output
    pub trees : length text ≤ text_bytes → Admitted L → take tree_words r.tree ≡ take tree_words q.tree

  module _ (tree tree' : List ℕ) (works works' stores stores' : List Lent) (output output' : List ℤ) (large : all_large L text tree works stores output ≡ true) (large' : all_large L text tree' works' stores' output' ≡ true) where
    run_elsewhere : {r : Ran} → Run L text tree works stores output r → (q : Ran) × Run L text tree' works' stores' output' q × SameRun r q
    run_elsewhere (Run.too_long h) =
        (run_refuses L text tree' works' stores' output' LENGTH, Run.too_long h, record { says = refl; outputs = refl; trees = λ k _. absurd (omega (arith, h, k)) })
    run_elsewhere (too_much h n) =
        (run_refuses L text tree' works' stores' output' LIMIT, too_much h n, record { says = refl; outputs = refl; trees = λ _ a. absurd (n a) })
    run_elsewhere (Run.too_small h a f) = absurd (true≢false (sym large ∙ f))
    run_elsewhere (not_run {r} {p} h a f x) = (
      record { says = told (refused r p) start; tree = zeroed tree_words tree'; works = cleared works'; stores = untouched stores'; output = output' },
      not_run h a large' x,
      record { says = refl; outputs = refl; trees = λ _ _. tree_first text (refuse r p) x tree tree' },
    )
    run_elsewhere (ran {b} {a} h m f x e) =
        let n = (state_of (run L b)).numbers in (
          ran_with L text tree' works' stores' output' b a (state_of (run L b)),
          ran h m large' x e,
          record {
            says = refl;
            outputs = take-append_seam n (drop (length n) output) ∙ sym (take-append_seam n (drop (length n) output'));
            trees = λ _ _. tree_first text (fine b) x tree tree';
          },
        )

pub run_carries_nothing_over : RunCarriesNothingOver
run_carries_nothing_over L text tree tree' works works' stores stores' output output' r r' large large' h h' =
    let m = run_elsewhere L text tree tree' works works' stores stores' output output' large large' h in
    let e : m.0 ≡ r' = (one_run L text tree' works' stores' output').1 m.0 r' m.1 h' in (
      m.2.says ∙ ap (λ (q : Ran). q.says) e,
      m.2.outputs ∙ ap (λ (q : Ran). take q.says.numbers q.output) e,
      λ k a. m.2.trees k a ∙ ap (λ (q : Ran). take tree_words q.tree) e,
    )
