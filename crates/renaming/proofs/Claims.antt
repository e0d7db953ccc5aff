-- Each claim of specs/RenamingClaims.antt, proved.
use mathlib.Core.Path.{◌≡◌, refl, sym, ◌∙◌, ap, subst}
use mathlib.Core.Bool.{Bool, true, false}
use mathlib.Core.List.{List, ◌++◌}
use mathlib.Core.Option.{Option, none, some}
use Prim.Native.Nat.{ℕ, ◌≤◌, ◌<◌}
use native.Mathlib.Omega.{arith}
use lib.Dec.{T}
use lib.IntN.{ℤ, pos}
use lib.ListN.{length, drop}
use Rattle.language.specs.Syntax.{Name, at, int, num, name, app, one_expr, more_exprs, last, def_then, const, echo, Block, block}
use Rattle.language.specs.Bytes.{bytes_of, same_bytes}
use Rattle.language.specs.Answers.{Refusal, Answer, fine, refuse}
use Rattle.language.specs.Names.{Meaning, literal, operator, free, meaning}
use Rattle.language.specs.Grammar.{BLOCK}
use Rattle.language.specs.Limits.{Limits, Admitted}
use Rattle.language.specs.Rules.{bind, need, unless_returned, within, branch, give, give_cell, level, run}
use Rattle.language.specs.Outcome.{Report, report, state_of, end_of}
use Rattle.language.specs.Promises.{Verdict, text_bytes, Lent, Told, all_large, Ran, Run, run_refuses, ran_with, too_much, not_run, ran}
use Rattle.language.specs.Words.{words_from}
use Rattle.language.proofs.Reading.Machine.{set_sib, link, add_leaf, add_fork, retype, parse}
use Rattle.language.proofs.Reading.Descent.{descent}
use Rattle.language.proofs.Reading.Reader.{past, deep}
use Rattle.language.proofs.Reading.Reader
use Rattle.language.proofs.Typing.Judge.{and_then, judged, only, passes, single, same_type, judge_type, judge_after, judge_expr, judge_arg, judge_args, judge_cmds}
use Rattle.language.proofs.Typing.Names.{same_names}
use Rattle.language.proofs.Texts.Verdicts.{judged_tree, judged_text, verdict, verdict_right, only_verdict}
use Rattle.language.proofs.Texts.Promised.{one_run}
use Rattle.renaming.specs.Alike.{Alike, a_block, a_last, a_def_then, a_const, a_int, a_echo, a_num, a_name, a_app, a_one_expr, a_more_exprs}
use Rattle.renaming.specs.RenamingClaims.{OneToOne, unplaced, unplaced_end, unplaced_report, SameRan, RenamedRun, RenamedText, RenamedAnswer, RenamedTypes, SwappedNames, OneToOneIsNeeded}
use Rattle.renaming.proofs.Corresponding.{Corresponds}
use Rattle.renaming.proofs.Typed.{typed_alike}
use Rattle.renaming.proofs.Running.{renamed_run}

-- names that correspond one to one correspond
same_bool : (a b : Bool) → (T a → T b) → (T b → T a) → a ≡ b
same_bool true true f g = refl
same_bool true false f g = absurd (f tt)
same_bool false true f g = absurd (g tt)
same_bool false false f g = refl

module _ {N : Name → Name → Type 0} (O : OneToOne N) where
  means_the_same : (x y : Name) → N x y → meaning x ≡ meaning y
  means_the_same x y n = go (meaning x) (meaning y) refl refl
    where
      by_left : ¬ (meaning x ≡ free) → meaning x ≡ meaning y
      by_left h = ap meaning (O.one_right x x y (O.nine_same x h) n)

      by_right : ¬ (meaning y ≡ free) → meaning x ≡ meaning y
      by_right h = ap meaning (O.one_left x y y n (O.nine_same y h))

      go : (a b : Meaning) → meaning x ≡ a → meaning y ≡ b → meaning x ≡ meaning y
      go (literal t) b p q = by_left λ e. let z : ◌≡◌ {A = ℕ} 0 1 = cc in omega arith
      go (operator o) b p q = by_left λ e. let z : ◌≡◌ {A = ℕ} 0 1 = cc in omega arith
      go free (literal t) p q = by_right λ e. let z : ◌≡◌ {A = ℕ} 0 1 = cc in omega arith
      go free (operator o) p q = by_right λ e. let z : ◌≡◌ {A = ℕ} 0 1 = cc in omega arith
      go free free p q = p ∙ sym q

  equal_together : (x x' y y' : Name) → N x y → N x' y' → same_bytes x x' ≡ same_bytes y y'
  equal_together x x' y y' n n' =
      same_bool _ _ (λ t. (same_names y y').1 (O.one_right x y y' n (subst (λ (z : Name). N z y') (sym ((same_names x x').0 t)) n')))
      (λ t. (same_names x x').1 (O.one_left x x' y n (subst (λ (z : Name). N x' z) (sym ((same_names y y').0 t)) n')))

  correspond : Corresponds N
  correspond = record { same_meaning = means_the_same; same_test = equal_together }

pub renamed_run_claim : RenamedRun
renamed_run_claim N O b c a L = renamed_run (correspond O) a L

pub renamed_text : RenamedText
renamed_text N O s t b c v w a L = renamed_run (correspond O) a L

pub renamed_types : RenamedTypes
renamed_types N O b c a h = typed_alike (correspond O) a h

-- ---- RUN

ends_so : (o : Option Answer) (a : Answer) → unplaced_end (some a) ≡ unplaced_end o → (a' : Answer) × (o ≡ some a') × (unplaced a ≡ unplaced a')
ends_so none a e = let z : ◌≡◌ {A = ℕ} 0 1 = cc in absurd (omega arith)
ends_so (some a') a e = (a', refl, cc)

not_both : (m n : ℕ) → m ≤ n → n < m → ⊥
not_both m n h k = omega arith

not_refused : {b : Block} {r : Refusal} {p : ℕ} → fine b ≡ refuse r p → ⊥
not_refused e = let z : ◌≡◌ {A = ℕ} 0 1 = cc in omega arith

one_block : {b c : Block} → fine b ≡ fine c → b ≡ c
one_block e = cc

abbrev told_of : Answer → Report → Told
told_of a r = record { answer = a; units = r.units; bindings = r.bindings; cells = r.cells; numbers = length r.numbers }

module _ (L : Limits) (s t tree : List ℕ) (works stores : List Lent) (output : List ℤ) where
  -- two runs that report the same but for the place: RUN says the same and leaves the same
  same_ran : (b c : Block) (x y : Answer) → unplaced x ≡ unplaced y → unplaced_report (report (run L b)) ≡ unplaced_report (report (run L c)) →
      SameRan (ran_with L s tree works stores output b x (state_of (run L b))) (ran_with L t tree works stores output c y (state_of (run L c)))
  same_ran b c x y p e = record {
    says_same = ap (λ (z : Answer). told_of z (unplaced_report (report (run L b)))) p ∙ ap (told_of (unplaced y)) e;
    works_same = refl;
    stores_same = refl;
    output_same = ap (λ (r : Report). r.numbers ++ drop (length r.numbers) output) e;
  }

  unchanged : (r : Refusal) → SameRan (run_refuses L s tree works stores output r) (run_refuses L t tree works stores output r)
  unchanged r = record { says_same = refl; works_same = refl; stores_same = refl; output_same = refl }

module _ {N : Name → Name → Type 0} (O : OneToOne N) {s t : List ℕ} {b c : Block} (v : Verdict s (fine b)) (w : Verdict t (fine c)) (a : Alike N BLOCK b c)
    (short : length s ≤ text_bytes) (short' : length t ≤ text_bytes) (L : Limits) (tree : List ℕ) (works stores : List Lent) (output : List ℤ) where
  abbrev Follows : Ran → Type 0
  Follows r = (r' : Ran) × Run L t tree works stores output r' × SameRan r r'

  ran_so : Admitted L → all_large L t tree works stores output ≡ true → (x : Answer) → end_of (run L b) ≡ some x → Follows (ran_with L s tree works stores output b x (state_of (run L b)))
  ran_so m l x e =
      let q = renamed_run (correspond O) a L in
      let y = ends_so (end_of (run L c)) x (sym (ap unplaced_end e) ∙ ap (λ (r : Report). r.end) q) in
      (_, ran short' m l w y.1, same_ran L s t tree works stores output b c x y.0 y.2 q)

  follows : {r : Ran} → Run L s tree works stores output r → Follows r
  follows (Run.too_long h) = absurd (not_both (length s) text_bytes short h)
  follows (too_much h n) = (_, too_much short' n, unchanged L s t tree works stores output _)
  follows (Run.too_small h m l) = (_, Run.too_small short' m l, unchanged L s t tree works stores output _)
  follows (not_run h m l k) = absurd (not_refused (sym (only_verdict v) ∙ only_verdict k))
  follows (ran {b = d} {a = x} h m l k e) =
      let q = one_block (sym (only_verdict v) ∙ only_verdict k) in
      subst (λ (f : Block). end_of (run L f) ≡ some x → Follows (ran_with L s tree works stores output f x (state_of (run L f)))) q (ran_so m l x) e

pub renamed_answer : RenamedAnswer
renamed_answer N O s t b c v w a short short' L tree works stores output r r' h k =
    let f = follows O v w a short short' L tree works stores output h in
    subst (SameRan r) ((one_run L t tree works stores output).1 f.0 r' f.1 k) f.2

-- ---- examples

data Swap : Name → Name → Type 0 where
  x_to_y : Swap (bytes_of "x") (bytes_of "y")
  y_to_x : Swap (bytes_of "y") (bytes_of "x")
  itself : {x : Name} → ¬ (meaning x ≡ free) → Swap x x

swap_one : OneToOne Swap
unfolding meaning
swap_one = record { one_right = right; one_left = left; nine_same = λ x h. itself h }
  where
    right : (x y z : Name) → Swap x y → Swap x z → y ≡ z
    right x y z x_to_y x_to_y = refl
    right x y z x_to_y (itself h) = absurd (h refl)
    right x y z y_to_x y_to_x = refl
    right x y z y_to_x (itself h) = absurd (h refl)
    right x y z (itself h) x_to_y = absurd (h refl)
    right x y z (itself h) y_to_x = absurd (h refl)
    right x y z (itself h) (itself k) = refl

    left : (x y z : Name) → Swap x z → Swap y z → x ≡ y
    left x y z x_to_y x_to_y = refl
    left x y z x_to_y (itself h) = absurd (h refl)
    left x y z y_to_x y_to_x = refl
    left x y z y_to_x (itself h) = absurd (h refl)
    left x y z (itself h) x_to_y = absurd (h refl)
    left x y z (itself h) y_to_x = absurd (h refl)
    left x y z (itself h) (itself k) = refl

abbrev first_tree : Block
first_tree =
    block 0 (def_then (const 1 (at 7 (bytes_of "x")) (int 9) (num 13 (pos 1))) (def_then (const 16 (at 22 (bytes_of "y")) (int 24) (num 28 (pos 2)))
    (last (echo 31 (app 36 (name (at 37 (bytes_of "sub"))) (more_exprs (name (at 41 (bytes_of "x"))) (one_expr (name (at 43 (bytes_of "y"))))))))))

abbrev swapped_tree : Block
swapped_tree =
    block 0 (def_then (const 1 (at 7 (bytes_of "y")) (int 9) (num 13 (pos 1))) (def_then (const 15 (at 21 (bytes_of "x")) (int 23) (num 27 (pos 2)))
    (last (echo 29 (app 33 (name (at 34 (bytes_of "sub"))) (more_exprs (name (at 38 (bytes_of "y"))) (one_expr (name (at 40 (bytes_of "x"))))))))))

verdict_of_lem : (s : List ℕ) (b : Block) → verdict s ≡ fine b → Verdict s (fine b)
verdict_of_lem s b e = subst (Verdict s) e (verdict_right s)

pub swapped_names : SwappedNames
unfolding verdict judged_text judged_tree Reader.read words_from parse add_leaf add_fork link set_sib retype descent past deep level bind need unless_returned within branch give give_cell meaning and_then judged only passes single same_type judge_type judge_after judge_expr judge_arg judge_args judge_cmds
swapped_names = (
  Swap,
  swap_one,
  record {
    left = first_tree;
    right = swapped_tree;
    left_accepted = verdict_of_lem _ _ refl;
    right_accepted = verdict_of_lem _ _ refl;
    agree = a_block (a_def_then (a_const x_to_y a_int a_num) (a_def_then (a_const y_to_x a_int a_num)
        (a_last (a_echo (a_app (a_name (itself λ e. no_operator e)) (a_more_exprs (a_name x_to_y) (a_one_expr (a_name y_to_x))))))));
    left_says = refl;
    right_says = refl;
  },
)
  where
    no_operator : meaning (bytes_of "sub") ≡ free → ⊥
    no_operator e = let z : ◌≡◌ {A = ℕ} 0 1 = cc in omega arith

-- two names that become one
data Merge : Name → Name → Type 0 where
  x_to_a : Merge (bytes_of "x") (bytes_of "a")
  y_to_a : Merge (bytes_of "y") (bytes_of "a")
  itself_too : {x : Name} → ¬ (meaning x ≡ free) → Merge x x

merge_right : (x y z : Name) → Merge x y → Merge x z → y ≡ z
unfolding meaning
merge_right x y z x_to_a x_to_a = refl
merge_right x y z x_to_a (itself_too h) = absurd (h refl)
merge_right x y z y_to_a y_to_a = refl
merge_right x y z y_to_a (itself_too h) = absurd (h refl)
merge_right x y z (itself_too h) x_to_a = absurd (h refl)
merge_right x y z (itself_too h) y_to_a = absurd (h refl)
merge_right x y z (itself_too h) (itself_too k) = refl

abbrev two_trees : Name → Name → Block
two_trees x y =
    block 0 (def_then (const 1 (at 7 x) (int 9) (num 13 (pos 1))) (def_then (const 16 (at 22 y) (int 24) (num 28 (pos 2))) (last (echo 31 (name (at 36 x))))))

pub one_to_one_is_needed : OneToOneIsNeeded
unfolding verdict judged_text judged_tree Reader.read words_from parse add_leaf add_fork link set_sib retype descent past deep level bind need unless_returned within branch give give_cell meaning and_then judged only passes single same_type judge_type judge_after judge_expr judge_arg judge_args judge_cmds
one_to_one_is_needed = (
  Merge,
  merge_right,
  (λ x h. itself_too h),
  record {
    left = two_trees (bytes_of "x") (bytes_of "y");
    right = two_trees (bytes_of "a") (bytes_of "a");
    left_accepted = verdict_of_lem _ _ refl;
    right_accepted = verdict_of_lem _ _ refl;
    agree = a_block (a_def_then (a_const x_to_a a_int a_num) (a_def_then (a_const y_to_a a_int a_num) (a_last (a_echo (a_name x_to_a)))));
    left_says = refl;
    right_says = refl;
  },
)
