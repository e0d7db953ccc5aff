-- The judge is right: over the tree words of a text that is read, both passes answer as the language's typing and its order of judging say.
use Prim.Native.Nat.{ℕ, zero, suc, ◌+◌, ◌-◌, ◌/◌, ◌<◌, ◌≤◌}
use mathlib.Core.Path.{◌≡◌, refl, ap, sym, ◌∙◌, subst}
use mathlib.Core.Bool.{Bool, true, false}
use mathlib.Core.List.{List, []}
use mathlib.Core.Logic.{◌↔◌, ⊎_elim}
use native.Mathlib.Omega.{arith}
use lib.Dec.{eqb, ltb}
use lib.ListN.{length, get_or, replicate, length-replicate, get_or-eq_default}
use borrow.Author.Tests.{ne_eqb, lt-ltb, le-ltb}
use Rattle.language.specs.Syntax.{Block}
use Rattle.language.specs.Table.{none, shape_block}
use Rattle.language.specs.Levels.{levels, deepest}
use Rattle.language.specs.Reading.{Within, Reading, a_program}
use Rattle.language.specs.Promises.{Verdict, untyped, typed}
use Rattle.language.specs.Answers.{Refusal, TYPE, DOUBLE, Result, fine, refuse}
use Rattle.language.specs.Typing.{Typable}
use Rattle.language.specs.Order.{TypeRefused}
use Rattle.language.proofs.Typing.Judge.{judge}
use Rattle.language.proofs.Typing.Judged.{judge_accepts, judge_refuses, one_verdict}
use Rattle.language.proofs.Typing.Depths.{fits_64}
use Rattle.language.proofs.Typing.Levels128.{types_fit_128}
use Rattle.nodes.specs.Nodes.{node_at}
use Rattle.nodes.specs.Trees.{Script, ReadAs}
use Rattle.nodes.proofs.Links.{below_or_not}
use Rattle.nodes.proofs.Program.{nodes_of_block, few_nodes, laid_program, payload, kind_known}
use Rattle.judge.specs.Scopes.{pick, place_at, scopes_of}
use Rattle.judge.specs.Judge.{refuses, judge_down, verdict_of}
use Rattle.judge.proofs.Shapes.{end, block_row, shape_block_lem}
use Rattle.judge.proofs.Scoping.{size, size_is, At, laid_at, sits_end, scopes_sit}
use Rattle.judge.proofs.Noting.{Clean, Answers, none_refused, first_refused, down_noted, down_answers}
use Rattle.judge.proofs.Verdicts.{Run, Said, said_type, said_double, said_refuses, First, One, one_fine, one_bad, Sit, seat}
use Rattle.judge.proofs.Looking.{looks_none, Scope}
use Rattle.judge.proofs.Programs.{Fine, program_one}

-- What the judge answers of a program: 0 and it has a typing, or the number after that of the node that TYPE is reported at, or 65536 more for DOUBLE.
pub data Judgement (tree : List ℕ) (b : Block) : ℕ → Type 0 where
  accepted : Typable b → Judgement tree b 0
  refused : (i : ℕ) → i < 65536 → TypeRefused b TYPE (place_at tree i) → Judgement tree b (i + 1)
  doubled : (i : ℕ) → TypeRefused b DOUBLE (place_at tree i) → Judgement tree b (i + 65537)

-- the result that such an answer stands for
unfoldable pub result_of : List ℕ → Block → ℕ → Result Block
result_of tree b a =
    pick (eqb a 0) (λ _. fine b) λ _.
    pick (ltb a 65537) (λ _. refuse TYPE (place_at tree (a - 1))) λ _. refuse DOUBLE (place_at tree (a - 65537))

module _ (tree : List ℕ) (b : Block) (i : ℕ) where
  result_type_lem : i < 65536 → result_of tree b (i + 1) ≡ refuse TYPE (place_at tree i)
  unfolding result_of
  result_type_lem l = rw (ne_eqb (i + 1) 0 (λ e. omega arith), lt-ltb (i + 1) 65537 (omega arith), before)
    where
      before : i + 1 - 1 ≡ i
      before = omega arith

  result_double : result_of tree b (i + 65537) ≡ refuse DOUBLE (place_at tree i)
  unfolding result_of
  result_double = rw (ne_eqb (i + 65537) 0 (λ e. omega arith), le-ltb (i + 65537) 65537 (omega arith), before)
    where
      before : i + 65537 - 65537 ≡ i
      before = omega arith

judged_text : {text tree : List ℕ} {b : Block} {a : ℕ} → Reading text (fine b) → Judgement tree b a → Verdict text (result_of tree b a)
unfolding result_of
judged_text r (accepted t) = typed r t
judged_text {text} {tree} {b} r (refused i l t) = subst (Verdict text) (sym (result_type_lem tree b i l)) (untyped r t)
judged_text {text} {tree} {b} r (doubled i t) = subst (Verdict text) (sym (result_double tree b i)) (untyped r t)

read_levels : {text : List ℕ} {b : Block} → Reading text (fine b) → Within deepest (levels b)
read_levels (a_program e n r w) = w

module _ (g : Run) where
  stands : {o : Bool} → o ≡ true → o ≡ false → ⊥
  stands e f = let z : ◌≡◌ {A = ℕ} 0 1 = cc in omega arith

  -- the first refused node is one
  same_first : {hi q : ℕ} {r : Refusal} (j : ℕ) (f : First g 0 hi r q) → j < hi → refuses (get_or g.notes j 0) ≡ true → Clean g.notes 0 j → f.at ≡ j
  same_first j f l e c =
      ⊎_elim (λ a. absurd (stands e (f.before j (omega arith) a)))
      (λ a. ⊎_elim (λ i. absurd (stands (said_refuses f.refused) (c f.at (omega arith) i))) (λ i. both j f.at a i) (below_or_not f.at j))
      (below_or_not j f.at)
    where
      both : (j i : ℕ) → i ≤ j → j ≤ i → i ≡ j
      both j i a b = omega arith

  -- what its note says
  by_note : (b : Block) {i q r : ℕ} {c : Refusal} → i < 65536 → Said c r → place_at g.tree i ≡ q → TypeRefused b c q → Judgement g.tree b (r + i - 65535)
  by_note b {i} l said_type e t = subst (Judgement g.tree b) (omega arith) (refused i l (subst (TypeRefused b TYPE) (sym e) t))
  by_note b {i} l said_double e t = subst (Judgement g.tree b) (omega arith) (doubled i (subst (TypeRefused b DOUBLE) (sym e) t))

  answer_right : (b : Block) {hi a : ℕ} {o : Result (Unit {0})} → judge b ≡ o → hi ≤ g.count → One g Fine 0 hi o → Answers g.notes hi 0 a → Judgement g.tree b a
  answer_right b e w (one_fine u f c) (none_refused c') = accepted ((judge_accepts b).0 e)
  answer_right b e w (one_fine u f c) (first_refused j l r c') = absurd (stands r (c j (omega arith) l))
  answer_right b e w (one_bad f i) (none_refused c) = absurd (stands (said_refuses i.refused) (c i.at (omega arith) i.upto))
  answer_right b e w (one_bad {c} {q} f i) (first_refused j l r cl) =
      subst (λ k. Judgement g.tree b (get_or g.notes k 0 + k - 65535)) (same_first j i l r cl)
      (by_note b (let u = i.upto in omega (arith, g.few)) i.refused i.there ((judge_refuses b c q).0 e))

module _ {g : Script} {b : Block} (h : ReadAs g b) (S N : List ℕ) where
  laid : At g.tree (block_row b end) 0
  laid = subst (λ f. At g.tree f 0) (shape_block_lem b none) (laid_at g.tree (laid_program h))

  size_of : size (block_row b end) ≡ nodes_of_block b
  size_of = ap size (sym (shape_block_lem b none)) ∙ size_is (shape_block b none)

  -- the last node is a node of the table
  in_table : (i : ℕ) → i < nodes_of_block b → i < length g.tree
  unfolding node_at
  in_table i l =
      ⊎_elim (λ a. a) (λ a.
      let z : get_or g.tree i 0 ≡ 0 = get_or-eq_default g.tree 0 a in
      let k : 1 ≤ get_or g.tree i 0 / 281474976710656 = (kind_known h i l).0 in absurd (omega arith))
      (below_or_not i (length g.tree))

  wide : nodes_of_block b ≤ length g.tree
  wide = by_count (nodes_of_block b) in_table
    where
      by_count : (n : ℕ) → ((i : ℕ) → i < n → i < length g.tree) → n ≤ length g.tree
      by_count zero f = omega arith
      by_count (suc n) f = f n (omega arith)

  module _ (root : get_or S 0 0 ≡ 0) (room-s : nodes_of_block b ≤ length S) (room-n : nodes_of_block b ≤ length N) where
    scopes : List ℕ
    scopes = scopes_of g.text g.tree (size (block_row b end)) S

    run : Run
    run =
        record {
          text = g.text;
          tree = g.tree;
          scopes = scopes;
          notes = (judge_down g.text g.tree scopes (size (block_row b end)) 0 N).notes;
          count = size (block_row b end);
          few = let f = few_nodes h in omega (arith, size_of);
          room = omega (arith, size_of, wide);
          root = laid.kind;
          noted = down_noted g.text g.tree scopes (size (block_row b end)) 0 N (omega (arith, size_of));
        }

    no_names : Scope run 1 0 0 []
    no_names = record { role_is = refl; low = omega arith; looks = looks_none run }

    root_one : {m row' : ℕ} → Sit run (block_row b end) 0 m 0 row' 0 → m ≤ run.count → One run Fine 0 m (judge b)
    unfolding run
    root_one q l =
        let c = seat run q in
        subst (λ m. One run Fine 0 m (judge b)) (done c.rest) (program_one run b c l no_names (payload h)
        (types_fit_128 b (fits_64 b (read_levels h.reads))))
      where
        done : {n m row row' v : ℕ} → Sit run end n m row row' v → n ≡ m
        done sits_end = refl

    right : Judgement g.tree b (verdict_of g.text g.tree (size (block_row b end)) S N)
    unfolding verdict_of run scopes
    right =
        answer_right run b refl (omega arith) (root_one (scopes_sit g.text g.tree (block_row b end) S laid (omega (arith, size_of)) root).1 (omega arith))
        (down_answers g.text g.tree scopes (size (block_row b end)) 0 N (omega (arith, size_of)))

    -- For every text that is read: the judge accepts its program and it has a typing, or TYPE is reported at the node that the judge names.
    pub judge_right : Judgement g.tree b (verdict_of g.text g.tree (nodes_of_block b) S N)
    judge_right = subst (λ n. Judgement g.tree b (verdict_of g.text g.tree n S N)) size_of right

    -- So its answer is the verdict on the text.
    pub judge_verdict : Verdict g.text (result_of g.tree b (verdict_of g.text g.tree (nodes_of_block b) S N))
    judge_verdict = judged_text h.reads judge_right

-- It accepts exactly what has a typing, and refuses exactly what TYPE or DOUBLE is reported of, with that and there.
no_zero : (i k : ℕ) → 0 < k → i + k ≡ 0 → ⊥
no_zero i k l e = omega arith

accepts : {tree : List ℕ} {b : Block} {a : ℕ} → Judgement tree b a → a ≡ 0 → Typable b
accepts (accepted t) e = t
accepts (refused i l t) e = absurd (no_zero i 1 (omega arith) e)
accepts (doubled i t) e = absurd (no_zero i 65537 (omega arith) e)

accepted_is : {tree : List ℕ} {b : Block} {a : ℕ} → Judgement tree b a → Typable b → a ≡ 0
accepted_is (accepted t) u = refl
accepted_is {tree} {b} (refused i l t) u = absurd ((one_verdict b).1 TYPE (place_at tree i) u t)
accepted_is {tree} {b} (doubled i t) u = absurd ((one_verdict b).1 DOUBLE (place_at tree i) u t)

pub accepts_exactly : {tree : List ℕ} {b : Block} {a : ℕ} → Judgement tree b a → (a ≡ 0) ↔ Typable b
accepts_exactly j = (accepts j, accepted_is j)

said_there : (b : Block) (c r : Refusal) (p q : ℕ) → TypeRefused b c p → TypeRefused b r q → ◌≡◌ {A = Result Block} (refuse c p) (refuse r q)
said_there b c r p q t u = let w = (one_verdict b).2 c r p q t u in rw (w.0, w.1)

pub refuses_there : {tree : List ℕ} {b : Block} {a : ℕ} (r : Refusal) (q : ℕ) → Judgement tree b a → TypeRefused b r q → result_of tree b a ≡ refuse r q
refuses_there {b = b} r q (accepted t) u = absurd ((one_verdict b).1 r q t u)
refuses_there {tree} {b} r q (refused i l t) u = result_type_lem tree b i l ∙ said_there b TYPE r (place_at tree i) q t u
refuses_there {tree} {b} r q (doubled i t) u = result_double tree b i ∙ said_there b DOUBLE r (place_at tree i) q t u

-- The same over tables of zeros.
pub zeros_verdict : {g : Script} {b : Block} → ReadAs g b
    → Verdict g.text (result_of g.tree b (verdict_of g.text g.tree (nodes_of_block b) (replicate 4096 0) (replicate 4096 0)))
zeros_verdict h =
    let f = few_nodes h in
    let l = length-replicate {A = ℕ} 4096 0 in
    judge_verdict h (replicate 4096 0) (replicate 4096 0) refl (omega arith) (omega arith)
