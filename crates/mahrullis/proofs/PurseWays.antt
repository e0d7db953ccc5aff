-- Calls on purses in numbers, on each way through the code.
use mathlib.Core.Path.{◌≡◌, refl, sym, ◌∙◌, ap, subst}
use mathlib.Core.Bool.{Bool, true, false, cond}
use mathlib.Core.List.{List, [], ◌∷◌, ◌++◌}
use mathlib.Core.Option.{Option, none, some}
use Prim.Native.Nat.{ℕ, ◌≤◌, ◌<◌}
use native.Mathlib.Omega.{arith}
use lib.Dec.{leb}
use lib.IntN.{ℤ}
use lib.ListN.{length, get_or, take, drop, length-append, length-drop}
use lib.Seq.{length-take-le}
use borrow.Author.Tests.{le-leb, lt-leb, leb-true}
use mir.Val.{bool_byte}
use Rattle.language.specs.Answers.{Answer, done, refused, stopped}
use Rattle.language.specs.Limits.{Limits}
use Rattle.answers.specs.declared.Report.{Report}
use Rattle.answers.specs.Answers.{meant}
use Rattle.gate.specs.Lent.{left}
use Rattle.purse_model.specs.Journal.{purse_count, credit, entry, Back, back, kind_of, entry_of, read_back}
use Rattle.purse_model.specs.Purses.{Work, runs, refusal_number, answer_number, Outcome, Comes, charged, Step, world, after, steps}
use Rattle.std.specs.Prelude.{Result, Ok, Err}
use Rattle.purses.specs.declared.PurseRefusal.{PurseRefusal}
use Rattle.purses.specs.Meant.{refusal_said, credit_outcome, CreditBegins, CreditComes, pending_step, Makes}
use Rattle.purse_run.specs.declared.RunBegun.{RunBegun}
use Rattle.purse_run.specs.Meant.{refused_answer, run_outcome, report_of, Kept, RunBegins, PurseRun}
use Rattle.mahrullis.specs.Reports.{report_entries}
use Rattle.mahrullis.specs.PurseReports.{pending_entries, pending_words, pending_of, run_left, purse_report, purses_shown, word_step, ShowInto, CreditInto, CreditBeginInto, StepInto, RunsSo, told_whole, PurseRunBeginInto, PurseRunInto}

-- ---- what is put down for a run

none_words : (p u place numbers : ℕ) (a : Answer) → refused_answer a ≡ true → pending_words none 0 0 ≡ pending_words (charged p a u) place numbers
none_words p u place numbers done e = let z : ◌≡◌ {A = ℕ} 0 1 = ap (elim [ false ↦ 0 | true ↦ 1 ]) e in absurd (omega arith)
none_words p u place numbers (refused r q) e = refl
none_words p u place numbers (stopped w q) e = let z : ◌≡◌ {A = ℕ} 0 1 = ap (elim [ false ↦ 0 | true ↦ 1 ]) e in absurd (omega arith)

some_words : (p u place numbers : ℕ) (a : Answer) → refused_answer a ≡ false → 2 ∷ place ∷ p ∷ u ∷ numbers ∷ [] ≡ pending_words (charged p a u) place numbers
some_words p u place numbers done e = refl
some_words p u place numbers (refused r q) e = let z : ◌≡◌ {A = ℕ} 1 0 = ap (elim [ false ↦ 0 | true ↦ 1 ]) e in absurd (omega arith)
some_words p u place numbers (stopped w q) e = refl

pub left_none : (b : RunBegun) (p : ℕ) → refused_answer (meant b.report.answer) ≡ true → pending_words none 0 0 ≡ run_left b p
left_none b p e = none_words p b.report.units b.place b.report.numbers (meant b.report.answer) e

pub left_some : (b : RunBegun) (p : ℕ) → refused_answer (meant b.report.answer) ≡ false → 2 ∷ b.place ∷ p ∷ b.report.units ∷ b.report.numbers ∷ [] ≡ run_left b p
left_some b p e = some_words p b.report.units b.place b.report.numbers (meant b.report.answer) e

-- ---- the first 64 entries of a table of purses

pub first_purses : (l : List ℕ) → purse_count ≤ length l → length (take purse_count l) ≡ purse_count
first_purses l h = length-take-le purse_count l h

pub same_purses : (l ys : List ℕ) → purse_count ≤ length l → length ys ≡ length (take purse_count l) → length (ys ++ drop purse_count l) ≡ length l
same_purses l ys h e = omega (arith, h, e, length-take-le purse_count l h, length-append ys (drop purse_count l), length-drop purse_count l)

-- ---- show

pub show_into : (J purses Q : List ℕ) (place : ℕ) (sound : Bool) (r : ℕ) (purses' : List ℕ) → purse_count ≤ length purses → back Q place sound ≡ read_back J →
    r ≡ cond sound 0 35 → purses' ≡ Q ++ drop purse_count purses → ShowInto J purses r purses'
show_into J purses Q place sound r purses' h e f g =
    let x : cond (read_back J).sound 0 35 ≡ r = ap (λ (b : Back). cond b.sound 0 35) (sym e) ∙ sym f in
    let y : purses_shown J purses ≡ purses' = ap (λ (b : Back). b.purses ++ drop purse_count purses) (sym e) ∙ sym g in
    subst (λ (n : ℕ). ShowInto J purses n purses') x (subst (ShowInto J purses (cond (read_back J).sound 0 35)) y (ShowInto.shows h))

-- ---- credit

module _ (J : List ℕ) (p a : ℕ) (purses Q : List ℕ) (m : ℕ) (purses' : List ℕ) (h : purse_count ≤ length purses) (g : purses' ≡ Q ++ drop purse_count purses) where
  shown_so : Q ≡ (read_back J).purses → purses_shown J purses ≡ purses'
  shown_so e = ap (λ (P : List ℕ). P ++ drop purse_count purses) (sym e) ∙ sym g

  pub credit_into : (n : ℕ) (r : Result (Unit {0}) PurseRefusal) (J' : List ℕ) → CreditComes J p a n r J' Q → m ≡ answer_number (credit_outcome r p a).says →
      CreditInto J p a purses n m J' purses'
  credit_into n r J' C e =
      subst (λ (x : ℕ). CreditInto J p a purses n x J' purses') (sym e)
      (subst (λ (x : List ℕ). CreditInto J p a purses n (answer_number (credit_outcome r p a).says) x purses') (sym C.stored)
      (subst (CreditInto J p a purses n (answer_number (credit_outcome r p a).says) (after n (steps J (credit_outcome r p a)) (world J [])).journal) (shown_so C.shown)
      (CreditInto.credits_so h C.comes)))

  module _ (pending pending' : List ℕ) (k : pending_entries ≤ length pending) where
    begin_into : (r : Result ℕ PurseRefusal) → CreditBegins J p a r Q → m ≡ answer_number (credit_outcome r p a).says →
        pending_of J (credit_outcome r p a) ++ drop pending_entries pending ≡ pending' → CreditBeginInto J p a purses pending m purses' pending'
    begin_into r B e f =
        let o = credit_outcome r p a in
        subst (λ (x : ℕ). CreditBeginInto J p a purses pending x purses' pending') (sym e)
        (subst (λ (x : List ℕ). CreditBeginInto J p a purses pending (answer_number o.says) purses' x) f
        (subst (λ (x : List ℕ). CreditBeginInto J p a purses pending (answer_number o.says) x (pending_of J o ++ drop pending_entries pending)) (shown_so B.shown)
        (CreditBeginInto.begins h k B.comes)))

    pub credit_begin_into : (place : ℕ) → CreditBegins J p a (Ok place) Q → m ≡ 0 → pending' ≡ pending_words (some (entry credit p a)) place 0 ++ drop pending_entries pending →
        CreditBeginInto J p a purses pending m purses' pending'
    credit_begin_into place B e f =
        begin_into (Ok place) B e (ap (λ (n : ℕ). pending_words (some (entry credit p a)) n 0 ++ drop pending_entries pending) (sym B.ready.0) ∙ sym f)

    pub credit_refused_into : (x : PurseRefusal) → CreditBegins J p a (Err x) Q → m ≡ refusal_number (refusal_said x) → pending' ≡ pending_words none 0 0 ++ drop pending_entries pending →
        CreditBeginInto J p a purses pending m purses' pending'
    credit_refused_into x B e f = begin_into (Err x) B e (sym f)

-- ---- tables that are too short

pub first_short : (n m : ℕ) (t : Bool) → m < n → cond (leb n m) t false ≡ false
first_short n m t h = ap (λ (b : Bool). cond b t false) (lt-leb n m h)

pub second_short : (n m k l : ℕ) → n ≤ m → l < k → cond (leb n m) (leb k l) false ≡ false
second_short n m k l h g = ap (λ (b : Bool). cond b (leb k l) false) (le-leb n m h) ∙ lt-leb k l g

pub both_long : (n m k l : ℕ) → n ≤ m → k ≤ l → cond (leb n m) (leb k l) false ≡ true
both_long n m k l h g = ap (λ (b : Bool). cond b (leb k l) false) (le-leb n m h) ∙ le-leb k l g

pub third_short : (b : Bool) (k l : ℕ) → b ≡ false → cond b (leb k l) false ≡ false
third_short b k l e = ap (λ (t : Bool). cond t (leb k l) false) e

pub then_short : (b : Bool) (k l : ℕ) → b ≡ true → l < k → cond b (leb k l) false ≡ false
then_short b k l e g = ap (λ (t : Bool). cond t (leb k l) false) e ∙ lt-leb k l g

pub then_long : (b : Bool) (k l : ℕ) → b ≡ true → k ≤ l → cond b (leb k l) false ≡ true
then_long b k l e g = ap (λ (t : Bool). cond t (leb k l) false) e ∙ le-leb k l g

pub whole_told : (purses report : List ℕ) → told_whole purses report ≡ true → (purse_count ≤ length purses) × (report_entries ≤ length report)
whole_told purses report e = by (leb purse_count (length purses)) refl (leb report_entries (length report)) refl e
  where
    by : (b : Bool) → leb purse_count (length purses) ≡ b → (d : Bool) → leb report_entries (length report) ≡ d → cond b d false ≡ true →
        (purse_count ≤ length purses) × (report_entries ≤ length report)
    by true f true g h = (leb-true purse_count (length purses) f, leb-true report_entries (length report) g)
    by true f false g h = let z : ◌≡◌ {A = ℕ} 0 1 = ap (elim [ false ↦ 0 | true ↦ 1 ]) h in absurd (omega arith)
    by false f d g h = let z : ◌≡◌ {A = ℕ} 0 1 = ap (elim [ false ↦ 0 | true ↦ 1 ]) h in absurd (omega arith)

-- ---- a step

pub yes_number : (b : Bool) → bool_byte b ≡ cond b 1 0
yes_number true = refl
yes_number false = refl

module _ (pending : List ℕ) (k : ℕ) (held : List ℤ) (J : List ℕ) (bank : List ℤ) where
  same_step : (n n' i i' p p' a a' m m' : ℕ) → n ≡ n' → i ≡ i' → p ≡ p' → a ≡ a' → m ≡ m' →
      pending_step k (entry_of (kind_of n) p a 0) i p m held J bank ≡ pending_step k (entry_of (kind_of n') p' a' 0) i' p' m' held J bank
  same_step n n' i i' p p' a a' m m' e₁ e₂ e₃ e₄ e₅ = cc

  pub step_into : (n i p a m : ℕ) (b : Bool) (r : ℕ) (J' : List ℕ) (bank' : List ℤ) → pending_entries ≤ length pending →
      n ≡ get_or pending 0 0 → i ≡ get_or pending 1 0 → p ≡ get_or pending 2 0 → a ≡ get_or pending 3 0 → m ≡ get_or pending 4 0 →
      Makes (pending_step k (entry_of (kind_of n) p a 0) i p m held J bank) k J bank b J' bank' → r ≡ cond b 1 0 → StepInto pending k held J bank r J' bank'
  step_into n i p a m b r J' bank' h e₁ e₂ e₃ e₄ e₅ M f =
      let s : pending_step k (entry_of (kind_of n) p a 0) i p m held J bank ≡ word_step pending k held J bank = same_step n _ i _ p _ a _ m _ e₁ e₂ e₃ e₄ e₅ in
      subst (λ (x : ℕ). StepInto pending k held J bank x J' bank') (sym f) (StepInto.makes b h (subst (λ (x : Option Step). Makes x k J bank b J' bank') s M))

-- ---- runs

module _ (J : List ℕ) (p : ℕ) (L : Limits) (W : Work) (purses report : List ℕ) (tree words stack scopes notes waiting bindings cells : List ℕ) (held : List ℤ)
    (Q : List ℕ) (m : ℕ) (purses' report' : List ℕ) where
  abbrev End : Result Report PurseRefusal → Outcome
  End a = run_outcome a p (λ x. left x tree words stack scopes notes waiting bindings cells held)

  -- the number and the report that are put down
  abbrev Says : Result Report PurseRefusal → Type 0
  Says a = (m ≡ answer_number (End a).says) × (report' ≡ purse_report (End a).says ++ drop report_entries report)

  abbrev So : Result Report PurseRefusal → Type 0
  So a = RunsSo J p L W purses report (End a) m tree (words ∷ stack ∷ scopes ∷ notes ∷ waiting ∷ []) (bindings ∷ cells ∷ []) held purses' report'

  so : (a : Result Report PurseRefusal) → Comes J (runs p L W) (End a) → Kept W a tree words stack scopes notes waiting bindings cells held → purses' ≡ purses_shown J purses → Says a → So a
  so (Ok r) c k s e = record { comes = c; answer = e.0; tree_so = refl; works_so = refl; stores_so = refl; held_so = refl; shown = s; report_so = e.1 }
  so (Err x) c k s e =
      record { comes = c; answer = e.0; tree_so = k.tree_same; works_so = k.works_same; stores_so = k.stores_same; held_so = k.held_same; shown = s; report_so = e.1 }

  shown_as : purses' ≡ Q ++ drop purse_count purses → Q ≡ (read_back J).purses → purses' ≡ purses_shown J purses
  shown_as g e = g ∙ ap (λ (P : List ℕ). P ++ drop purse_count purses) e

  module _ (pending pending' : List ℕ) (h : cond (told_whole purses report) (leb pending_entries (length pending)) false ≡ true) (g : purses' ≡ Q ++ drop purse_count purses) where
    begin_run_into : (r : Result RunBegun PurseRefusal) → RunBegins J p L W r tree words stack scopes notes waiting bindings cells held Q → Says (report_of r) →
        pending_of J (End (report_of r)) ++ drop pending_entries pending ≡ pending' →
        PurseRunBeginInto J p L W purses report pending m tree (words ∷ stack ∷ scopes ∷ notes ∷ waiting ∷ []) (bindings ∷ cells ∷ []) held purses' report' pending'
    begin_run_into r B e f =
        subst
        (λ (x : List ℕ). PurseRunBeginInto J p L W purses report pending m tree (words ∷ stack ∷ scopes ∷ notes ∷ waiting ∷ []) (bindings ∷ cells ∷ []) held purses' report' x)
        f (PurseRunBeginInto.begins h (so (report_of r) B.comes B.kept (shown_as g B.shown) e))

    pub run_begin_into : (b : RunBegun) → RunBegins J p L W (Ok b) tree words stack scopes notes waiting bindings cells held Q → Says (Ok b.report) →
        pending' ≡ run_left b p ++ drop pending_entries pending →
        PurseRunBeginInto J p L W purses report pending m tree (words ∷ stack ∷ scopes ∷ notes ∷ waiting ∷ []) (bindings ∷ cells ∷ []) held purses' report' pending'
    run_begin_into b B e f =
        let w : run_left b p ≡ pending_of J (End (Ok b.report)) =
        ap (λ (i : ℕ). pending_words (charged p (meant b.report.answer) b.report.units) i b.report.numbers) B.ready.0 ∙
        ap (λ (i : ℕ). pending_words (charged p (meant b.report.answer) b.report.units) (read_back J).place i) (sym (length-take-le b.report.numbers held B.ready.3)) in
        begin_run_into (Ok b) B e (ap (λ (x : List ℕ). x ++ drop pending_entries pending) (sym w) ∙ sym f)

    pub run_refused_into : (x : PurseRefusal) → RunBegins J p L W (Err x) tree words stack scopes notes waiting bindings cells held Q → Says (Err x) →
        pending' ≡ pending_words none 0 0 ++ drop pending_entries pending →
        PurseRunBeginInto J p L W purses report pending m tree (words ∷ stack ∷ scopes ∷ notes ∷ waiting ∷ []) (bindings ∷ cells ∷ []) held purses' report' pending'
    run_refused_into x B e f = begin_run_into (Err x) B e (sym f)

  pub run_into : (n : ℕ) (bank : List ℤ) (a : Result Report PurseRefusal) (J' : List ℕ) (bank' : List ℤ) →
      cond (told_whole purses report) (leb (length W.output) (length bank)) false ≡ true →
      purses' ≡ Q ++ drop purse_count purses → PurseRun J p n L W bank a tree words stack scopes notes waiting bindings cells held J' bank' Q → Says a →
      PurseRunInto J p L W purses report n bank m tree (words ∷ stack ∷ scopes ∷ notes ∷ waiting ∷ []) (bindings ∷ cells ∷ []) held purses' report' J' bank'
  run_into n bank a J' bank' h g R e =
      subst
      (λ (x : List ℕ). PurseRunInto J p L W purses report n bank m tree (words ∷ stack ∷ scopes ∷ notes ∷ waiting ∷ []) (bindings ∷ cells ∷ []) held purses' report' x bank')
      (sym R.made.in_journal) (PurseRunInto.runs_so h (so a R.comes R.kept (shown_as g R.shown) e) R.made.in_bank)
