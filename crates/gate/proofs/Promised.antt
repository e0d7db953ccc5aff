-- RUN's promise, from CHECK's and from the evaluator's.
use mathlib.Core.Path.{◌≡◌, refl, sym, ◌∙◌, ap, subst}
use mathlib.Core.Bool.{Bool, true, false, cond}
use mathlib.Core.List.{List, [], ◌∷◌, ◌++◌, append_assoc}
use mathlib.Core.Option.{some}
use Prim.Native.Nat.{ℕ, ◌*◌, ◌≤◌}
use native.Mathlib.Omega.{arith}
use lib.Dec.{leb}
use lib.IntN.{ℤ}
use lib.ListN.{length, take, get_or}
use borrow.Author.Tests.{leb-true}
use Rattle.language.specs.Syntax.{Block}
use Rattle.language.specs.Answers.{Refusal, Answer, done, refused, Result, fine, refuse}
use Rattle.language.specs.Table.{table}
use Rattle.language.specs.Reading.{Reading}
use Rattle.language.specs.Typing.{Typable}
use Rattle.language.specs.Limits.{Limits, Admitted}
use Rattle.language.specs.Rules.{start, run}
use Rattle.language.specs.Outcome.{end_of}
use Rattle.language.specs.Promises.{Verdict, typed, verdict_answer, text_bytes, tree_words, Lent, tree_table, large_enough, zeroed, holding, cleared, tree_after, Checked, Check, judged, Told, told, Ran, all_large, Run, not_run, ran}
use Rattle.language.proofs.Reading.Shown.{room}
use Rattle.nodes.specs.Trees.{Script, ReadAs}
use Rattle.limits.specs.Cleared as limits
use Rattle.machine.specs.Entries.{ring_rows}
use Rattle.machine.specs.State.{Ret}
use Rattle.machine.specs.Shown.{fresh, program}
use Rattle.machine.proofs.Relation.{Kept}
use Rattle.machine.specs.Codes.{codes_of}
use Rattle.machine.proofs.Codes.{codes_fit}
use Rattle.machine.proofs.Whole.{RunsAs, coded_runs, ends_as, never_lost}
use Rattle.answers.specs.declared.Report.{Report}
use Rattle.answers.specs.Answers.{meant, said}
use Rattle.answers.specs.Ended.{ended, counted, reported}
use Rattle.answers.proofs.Ends.{ended_meant, reported_counts}
use Rattle.gate.specs.Steps.{came, cleared_after, RunCoded}
use Rattle.gate.proofs.Programs.{right_all}
use Rattle.gate.proofs.Tables.{both, fits_in, front_large, rest_large, cleared_append, cleared_kept, cleared_lent, word_of_tree}

-- ---- CHECK's promise, where neither the text nor a table is refused

never_large : {A : Type 0} {b : Bool} → b ≡ true → b ≡ false → A
never_large p q = absurd (let z : ◌≡◌ {A = ℕ} 0 1 = ap (λ t. cond t 0 1) (sym p ∙ q) in omega arith)

module _ {text tree : List ℕ} {works : List Lent} (short : length text ≤ text_bytes) (large : large_enough (tree_table tree ∷ works) ≡ true) where
  pub verdict_of_lem : {c : Checked} → Check text tree works c →
      (v : Result Block) × Verdict text v × (c ≡ record { answer = verdict_answer v; tree = tree_after v tree; works = cleared works })
  verdict_of_lem (Check.too_long h) = absurd (omega arith)
  verdict_of_lem (Check.too_small h f) = never_large large f
  verdict_of_lem (judged {v} h f x) = (v, x, refl)

not_refused : {A : Type 0} {r : Refusal} {p : ℕ} → done ≡ refused r p → A
not_refused e = absurd (let z : ◌≡◌ {A = ℕ} 0 1 = cc in omega arith)

accepted_tree : (v : Result Block) → done ≡ verdict_answer v → (b : Block) × (v ≡ fine b)
accepted_tree (fine b) e = (b, refl)
accepted_tree (refuse r p) e = not_refused e

typed_of : {s : List ℕ} {b : Block} → Verdict s (fine b) → Reading s (fine b) × Typable b
typed_of (typed h t) = (h, t)

-- ---- the parts of what is left

ran_eq : {s s' : Told} {t t' : List ℕ} {w w' x x' : List (List ℕ)} {o o' : List ℤ} → s ≡ s' → t ≡ t' → w ≡ w' → x ≡ x' → o ≡ o' →
    ◌≡◌ {A = Ran} (record { says = s; tree = t; works = w; stores = x; output = o }) (record { says = s'; tree = t'; works = w'; stores = x'; output = o' })
ran_eq a b c d e = rw (a, b, c, d, e)

two_eq : {a a' b b' : List ℕ} → a ≡ a' → b ≡ b' → a ∷ b ∷ [] ≡ a' ∷ b' ∷ []
two_eq p q = rw (p, q)

-- the tables of bindings and cells
abbrev stores_of : Limits → (bindings cells : List ℕ) → List Lent
stores_of L bindings cells = record { size = 2 * L.bindings; holds = bindings } ∷ record { size = 2 * L.cells; holds = cells } ∷ []

-- `works` are CHECK's tables; n is the waiting table's fixed size, which is the evaluator's
module _ (n : ℕ) (size : n ≡ 2 * ring_rows) (L : Limits) (text tree : List ℕ) (works : List Lent) (waiting bindings cells : List ℕ) (output : List ℤ) where
  abbrev working : List Lent
  working = works ++ (record { size = n; holds = waiting } ∷ [])

  abbrev stores : List Lent
  stores = stores_of L bindings cells

  record Fit : Type 0 where
    checked : large_enough (tree_table tree ∷ works) ≡ true
    waiting_fits : n ≤ length waiting
    bindings_fit : 2 * L.bindings ≤ length bindings
    cells_fit : 2 * L.cells ≤ length cells
    output_fits : L.output ≤ length output

  fit_of : all_large L text tree working stores output ≡ true → Fit
  fit_of e =
      let h = both (leb L.output (length output)) (large_enough (tree_table tree ∷ (working ++ stores))) e in
      let same : tree_table tree ∷ (working ++ stores) ≡ (tree_table tree ∷ works) ++ (record { size = n; holds = waiting } ∷ stores) =
      ap (λ l. tree_table tree ∷ l) (append_assoc works (record { size = n; holds = waiting } ∷ []) stores) in
      let all = sym (ap large_enough same) ∙ h.1 in
      let rest = rest_large (tree_table tree ∷ works) (record { size = n; holds = waiting } ∷ stores) all in
      let more = (both (leb n (length waiting)) (large_enough stores) rest).1 in
      let last = (both (leb (2 * L.bindings) (length bindings)) _ more).1 in
      record {
        checked = front_large (tree_table tree ∷ works) (record { size = n; holds = waiting } ∷ stores) all;
        waiting_fits = fits_in n waiting _ rest;
        bindings_fit = fits_in (2 * L.bindings) bindings _ more;
        cells_fit = fits_in (2 * L.cells) cells _ last;
        output_fits = leb-true L.output (length output) h.0;
      }

  module _ (short : length text ≤ text_bytes) (admitted : Admitted L) (large : all_large L text tree working stores output ≡ true) where
    -- the working tables, from CHECK's and the waiting table
    works_are : {ws : List (List ℕ)} {w : List ℕ} → ws ≡ cleared works → w ≡ zeroed n waiting → cleared working ≡ ws ++ (w ∷ [])
    works_are {ws} {w} p q =
        cleared_append works (record { size = n; holds = waiting } ∷ []) ∙
        (ap (λ l. l ++ (zeroed n waiting ∷ [])) (sym p) ∙ ap (λ l. ws ++ (l ∷ [])) (sym q))

    -- ---- a text that is refused is not run
    refused_after : (v : Result Block) → Verdict text v → {a : Answer} {t : List ℕ} {ws : List (List ℕ)} {w : List ℕ} → ¬ (a ≡ done) →
        a ≡ verdict_answer v → t ≡ tree_after v tree → ws ≡ cleared works → w ≡ zeroed n waiting →
        Run L text tree working stores output (record { says = told a start; tree = t; works = ws ++ (w ∷ []); stores = bindings ∷ cells ∷ []; output = output })
    refused_after (fine b) x away e t ws w = absurd (away e)
    refused_after (refuse r p) x away e t ws w =
        subst (Run L text tree working stores output) (ran_eq (ap (λ a. told a start) (sym e)) (sym t) (works_are ws w) refl refl) (not_run short admitted large x)

    pub refused_text : {c : Checked} {w : List ℕ} → Check text tree works c → ¬ (c.answer ≡ done) → w ≡ limits.zeroed 0 n waiting →
        Run L text tree working stores output
        (record { says = told c.answer start; tree = c.tree; works = c.works ++ (w ∷ []); stores = bindings ∷ cells ∷ []; output = output })
    refused_text k away w =
        let f = fit_of large in
        let x = verdict_of_lem short f.checked k in
        refused_after x.0 x.1 away (ap (λ r. r.answer) x.2) (ap (λ r. r.tree) x.2) (ap (λ r. r.works) x.2)
        (w ∙ cleared_lent n waiting f.waiting_fits)

    -- ---- an accepted one is run
    module _ {b : Block} (x : Verdict text (fine b)) where
      script : List ℕ → Script
      script t = record { tree = take tree_words t; text = text }

      read_as : (t : List ℕ) → t ≡ holding tree_words (table b) tree → ReadAs (script t) b
      unfolding script
      read_as t e =
          record {
            reads = (typed_of x).0;
            short = short;
            words = λ j. ap (λ l. get_or (take tree_words l) j 0) e ∙ word_of_tree tree_words (table b) tree (room text b (typed_of x).0) j;
          }

      -- what the evaluator does on the tree words and these codes
      evaluated : (codes t : List ℕ) → Ret
      evaluated codes t = program (take tree_words t) codes L (fresh L.fuel bindings cells output waiting)

      runs : (codes t : List ℕ) → t ≡ holding tree_words (table b) tree → ((i : ℕ) → get_or codes i 0 ≡ get_or (codes_of (script t)) i 0) →
          RunsAs L b (fresh L.fuel bindings cells output waiting) (evaluated codes t)
      unfolding script evaluated
      runs codes t e right =
          let f = fit_of large in
          coded_runs (script t) codes L b bindings cells output waiting (read_as t e) right admitted f.bindings_fit f.cells_fit f.output_fits
          (subst (λ k. k ≤ length waiting) size f.waiting_fits)

      module _ (codes t : List ℕ) (tree_is : t ≡ holding tree_words (table b) tree) (right : (i : ℕ) → get_or codes i 0 ≡ get_or (codes_of (script t)) i 0) where
        ends : end_of (run L b) ≡ some (meant (ended (evaluated codes t).ending))
        ends = ends_as (runs codes t tree_is right) ∙ ended_meant (runs codes t tree_is right).ending_known (never_lost (runs codes t tree_is right) (typed_of x).1)

        counts : reported L.fuel (evaluated codes t).ending (evaluated codes t).after.counts ≡
            counted L.fuel (ended (evaluated codes t).ending) (evaluated codes t).after.counts
        counts =
            reported_counts L.fuel (evaluated codes t).after.counts (runs codes t tree_is right).ending_known
            (never_lost (runs codes t tree_is right) (typed_of x).1)

        kept_waiting : Kept n waiting (evaluated codes t).after.waiting
        unfolding evaluated
        kept_waiting = subst (λ k. Kept k waiting (evaluated codes t).after.waiting) (sym size) (runs codes t tree_is right).waiting_kept

        accepted_after : {ws : List (List ℕ)} {r : Report} {w b' c' : List ℕ} {o : List ℤ} → ws ≡ cleared works → came r w b' c' o ≡ cleared_after n L (evaluated codes t) →
            Run L text tree working stores output (record { says = said r; tree = t; works = ws ++ (w ∷ []); stores = b' ∷ c' ∷ []; output = o })
        unfolding evaluated
        accepted_after wh e =
            let f = fit_of large in
            let h = runs codes t tree_is right in
            subst (Run L text tree working stores output)
            (ran_eq (h.tells (meant (ended (evaluated codes t).ending)) ∙ (ap said (sym counts) ∙ ap (λ k. said k.report) (sym e))) (sym tree_is)
            (works_are wh (ap (λ k. k.waiting) e ∙ cleared_kept n waiting (evaluated codes t).after.waiting f.waiting_fits kept_waiting))
            (two_eq
            (sym (ap (λ k. k.bindings) e ∙ cleared_kept (2 * L.bindings) bindings (evaluated codes t).after.bindings f.bindings_fit h.bindings_kept))
            (sym (ap (λ k. k.cells) e ∙ cleared_kept (2 * L.cells) cells (evaluated codes t).after.cells f.cells_fit h.cells_kept)))
            (sym (ap (λ k. k.output) e ∙ h.output_is)))
            (ran short admitted large x ends)

    pub accepted_text : {c : Checked} {r : Report} {w b' c' : List ℕ} {o : List ℤ} → Check text tree works c → c.answer ≡ done →
        RunCoded n L text (take tree_words c.tree) (fresh L.fuel bindings cells output waiting) (came r w b' c' o) →
        Run L text tree working stores output (record { says = said r; tree = c.tree; works = c.works ++ (w ∷ []); stores = b' ∷ c' ∷ []; output = o })
    unfolding script evaluated
    accepted_text {c} k e h =
        let f = fit_of large in
        let v = verdict_of_lem short f.checked k in
        let b = accepted_tree v.0 (sym e ∙ ap (λ r. r.answer) v.2) in
        let x : Verdict text (fine b.0) = subst (Verdict text) b.1 v.1 in
        let t : c.tree ≡ holding tree_words (table b.0) tree = ap (λ r. r.tree) v.2 ∙ ap (λ y. tree_after y tree) b.1 in
        let right = right_all text (take tree_words c.tree) h.codes h.short h.right (codes_fit (script x c.tree) (read_as x c.tree t)) in
        accepted_after x h.codes c.tree t right (ap (λ r. r.works) v.2) h.came_is
