-- The answer to a run's end.
use mathlib.Core.Path.{◌≡◌, refl, sym, ◌∙◌, ap}
use mathlib.Core.Bool.{false}
use mathlib.Core.Option.{none, some}
use Prim.Native.Nat.{ℕ, ◌-◌}
use lib.Dec.{eqb}
use borrow.Author.Tests.{eq-eqb, ne_eqb}
use Rattle.language.specs.Answers.{FUEL, DEPTH, CELLS, BINDINGS, OUTPUT, Stop, stop_number, stopped, number_of}
use Rattle.machine.specs.Entries.{pick}
use Rattle.machine.specs.Shown.{answer_of}
use Rattle.machine.proofs.Relation.{Plain, plain_limit, plain_range, plain_zero, plain_size, plain_index}
use Rattle.machine.proofs.Whole.{Known, known_value, known_stop, known_unset, known_returned, known_none, stop_back}
use Rattle.machine.specs.declared.Counts.{Counts}
use Rattle.machine.specs.declared.Ending.{Ending}
use Rattle.machine.specs.declared.Ending.TheVariants as E
use Rattle.answers.specs.declared.Answer.{Answer}
use Rattle.answers.specs.declared.Answer.TheVariants.{«Type»}
use Rattle.answers.specs.declared.Report.{Report}
use Rattle.answers.specs.Answers.{meant, refusal}
use Rattle.answers.specs.Ended.{stopped_by, ended, counted, reported}

-- a stop that the evaluator knows by its number
pub stopped_meant : {w : Stop} → Plain w → (p : ℕ) → meant (stopped_by (stop_number w) p) ≡ stopped w p
unfolding stopped_by pick
stopped_meant (plain_limit FUEL) p = refl
stopped_meant (plain_limit DEPTH) p = refl
stopped_meant (plain_limit CELLS) p = refl
stopped_meant (plain_limit BINDINGS) p = refl
stopped_meant (plain_limit OUTPUT) p = refl
stopped_meant plain_range p = refl
stopped_meant plain_zero p = refl
stopped_meant plain_size p = refl
stopped_meant plain_index p = refl

-- the answer is the end's, where it has one
pub ended_meant : {e : Ending} → Known e → (answer_of e ≡ none → ⊥) → answer_of e ≡ some (meant (ended e))
ended_meant known_value n = refl
ended_meant (known_stop w {p}) n = ap (λ (x : Stop). some (stopped x p)) (stop_back w) ∙ ap some (sym (stopped_meant w p))
ended_meant known_unset n = refl
ended_meant known_returned n = absurd (n refl)
ended_meant known_none n = absurd (n refl)

-- no stop has TYPE's number
not_type : {w : Stop} → Plain w → eqb (stop_number w) 9 ≡ false
not_type (plain_limit FUEL) = refl
not_type (plain_limit DEPTH) = refl
not_type (plain_limit CELLS) = refl
not_type (plain_limit BINDINGS) = refl
not_type (plain_limit OUTPUT) = refl
not_type plain_range = refl
not_type plain_zero = refl
not_type plain_size = refl
not_type plain_index = refl

-- so its counts are reported
module _ (f : ℕ) (n : Counts) where
  tested : (e : Ending) → eqb (number_of (meant (ended e))) 9 ≡ false → reported f e n ≡ counted f (ended e) n
  unfolding pick
  tested e h = ap (λ t. pick t (λ _. refusal (ended e)) (λ _. counted f (ended e) n)) h

  pub reported_counts : {e : Ending} → Known e → (answer_of e ≡ none → ⊥) → reported f e n ≡ counted f (ended e) n
  reported_counts (known_value {t} {x}) k = tested (E.Value t x) refl
  reported_counts (known_stop {w} h {p}) k = tested (E.Stop (stop_number w) p) (ap (λ a. eqb (number_of a) 9) (stopped_meant h p) ∙ not_type h)
  reported_counts (known_unset {p} {q}) k = tested (E.Unset p q) refl
  reported_counts known_returned k = absurd (k refl)
  reported_counts known_none k = absurd (k refl)

-- ---- what the code tests

pub reported_refused : {a : Answer} {x : ℕ} (f : ℕ) (e : Ending) (n : Counts) {r : Report} → a ≡ ended e → x ≡ number_of (meant a) → x ≡ 9 → r ≡ refusal a → r ≡ reported f e n
unfolding pick
reported_refused f e n p q t h =
    h ∙ (ap refusal p ∙ sym (ap (λ t. pick t (λ _. refusal (ended e)) (λ _. counted f (ended e) n)) (eq-eqb _ 9 (ap (λ a. number_of (meant a)) (sym p) ∙ (sym q ∙ t)))))

pub reported_as : {a : Answer} {x u : ℕ} (f : ℕ) (e : Ending) (n : Counts) → a ≡ ended e → x ≡ number_of (meant a) → (x ≡ 9 → ⊥) → u ≡ f - n.units →
    ◌≡◌ {A = Report} (record { answer = a; units = u; bindings = n.bindings; cells = n.cells; numbers = n.numbers }) (reported f e n)
reported_as f e n p q t h =
    rw (p, h) (sym (tested f n e (ne_eqb _ 9 λ k. t (q ∙ (ap (λ a. number_of (meant a)) p ∙ k)))))
