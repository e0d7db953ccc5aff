-- What the proofs of a run from a purse use.
use mathlib.Core.Path.{◌≡◌, refl, sym, ap, subst, ◌∙◌}
use mathlib.Core.Bool.{Bool, true, false, cond}
use mathlib.Core.List.{List, [], ◌∷◌, ◌++◌, map}
use mathlib.Core.Option.{Option, none, some}
use Prim.Native.Nat.{ℕ, suc, ◌*◌, ◌≤◌, ◌<◌, min}
use native.Mathlib.Omega.{arith}
use lib.Dec.{leb}
use lib.IntN.{ℤ}
use lib.ListN.{length, take}
use borrow.Author.Tests.{leb-true, lt-ltb, le-ltb}
use Rattle.language.specs.Answers.{
  LENGTH,
  LIMIT,
  TABLE,
  BYTE,
  NUMBER,
  TOKENS,
  SYNTAX,
  LEVEL,
  TYPE,
  DOUBLE,
  FUEL,
  DEPTH,
  CELLS,
  BINDINGS,
  OUTPUT,
  RANGE,
  ZERO,
  UNSET,
  SIZE,
  INDEX,
  limit,
  error,
  Answer,
  done,
  refused,
  stopped,
  number_of,
}
use Rattle.language.specs.Limits.{Limits}
use Rattle.language.specs.Promises.{Lent, large_enough, tree_table, Ran, Run, too_much, not_run, ran}
use Rattle.language.specs.Rules.{run}
use Rattle.language.proofs.Running.Counts.{counts_in_limits}
use Rattle.answers.specs.declared.Report.{Report}
use Rattle.answers.specs.Answers.{meant}
use Rattle.gate.specs.Lent.{limits_of, left}
use Rattle.purse_model.specs.Journal.{purse_count, Purses, purse, charge, Entry, entry, record_bytes, bytes_of, Back, back, read_back}
use Rattle.purse_model.specs.Purses.{Work, fuel_given, given, charged, record_left, wrong_journal, wrong_purse, no_record, run_made, World, world, Step, hand, after, writing}
use Rattle.purse_model.proofs.Outcomes.{given_less, given_more, differ}
use Rattle.purses.specs.Meant.{Stepped}
use Rattle.purses.proofs.Calls.{after_nil}
use Rattle.std.specs.Prelude.{◌&&◌, nat_le, Result, Ok, Err}
use Rattle.purses.specs.declared.PurseRefusal.{PurseRefusal}
use Rattle.purses.specs.declared.PurseRefusal.TheVariants as refusal
use Rattle.purse_run.specs.Meant.{refused_answer, StepsMade, Charges, AsLent, RunBegins, PurseRun}
use Rattle.purse_run.specs.declared.RunBegun.{RunBegun}

-- ---- fuel

pub gives_lesser : (f h : ℕ) → f ≤ 1000000 → min f h ≡ fuel_given f h
gives_lesser f h g = sym (given_less f h g)

pub gives_beyond : (f h : ℕ) → 1000000 < f → f ≡ fuel_given f h
gives_beyond f h g = sym (given_more f h g)

-- ---- refusals by their numbers

pub refused_numbers : (a : Answer) → refused_answer a ≡ nat_le 1 (number_of a) && nat_le (number_of a) 10
refused_numbers done = refl
refused_numbers (refused LENGTH q) = refl
refused_numbers (refused LIMIT q) = refl
refused_numbers (refused TABLE q) = refl
refused_numbers (refused BYTE q) = refl
refused_numbers (refused NUMBER q) = refl
refused_numbers (refused TOKENS q) = refl
refused_numbers (refused SYNTAX q) = refl
refused_numbers (refused LEVEL q) = refl
refused_numbers (refused TYPE q) = refl
refused_numbers (refused DOUBLE q) = refl
refused_numbers (stopped (limit FUEL) q) = refl
refused_numbers (stopped (limit DEPTH) q) = refl
refused_numbers (stopped (limit CELLS) q) = refl
refused_numbers (stopped (limit BINDINGS) q) = refl
refused_numbers (stopped (limit OUTPUT) q) = refl
refused_numbers (stopped (error RANGE) q) = refl
refused_numbers (stopped (error ZERO) q) = refl
refused_numbers (stopped (error (UNSET m)) q) = refl
refused_numbers (stopped (error SIZE) q) = refl
refused_numbers (stopped (error INDEX) q) = refl

none_charged : (p u : ℕ) (a : Answer) → refused_answer a ≡ true → charged p a u ≡ none
none_charged p u done e = differ e refl
none_charged p u (refused r q) e = refl
none_charged p u (stopped w q) e = differ e refl

some_charged : (p u : ℕ) (a : Answer) → refused_answer a ≡ false → charged p a u ≡ some (entry charge p u)
some_charged p u done e = refl
some_charged p u (refused r q) e = differ refl e
some_charged p u (stopped w q) e = refl

-- ---- a charge's steps

abbrev steps_at : ℕ → Option Entry → ℕ → List ℤ → List Step  -- `report_steps`, of any entry
steps_at place x k held = writing place x ++ map hand (take k held)

module _ (n place p : ℕ) (r : Report) (held : List ℤ) (J : List ℕ) (bank : List ℤ) where
  pub charges_none : refused_answer (meant r.answer) ≡ true → r.numbers ≡ 0 → Charges n place p r held J bank J bank
  charges_none e f =
      let s : steps_at place (charged p (meant r.answer) r.units) r.numbers held ≡ [] =
      ap (λ (x : Option Entry). steps_at place x r.numbers held) (none_charged p r.units (meant r.answer) e) ∙ ap (λ (k : ℕ). steps_at place none k held) f in
      let w : after n (steps_at place (charged p (meant r.answer) r.units) r.numbers held) (world J []) ≡ world J [] =
      ap (λ (ss : List Step). after n ss (world J [])) s ∙ after_nil n (world J []) in
      record { in_journal = ap (λ (v : World). v.journal) (sym w); in_bank = ([], ap (λ (v : World). v.bank) (sym w), refl) }

  pub charges_some : (J' : List ℕ) (bank' : List ℤ) → refused_answer (meant r.answer) ≡ false →
      Stepped n (record_bytes * place) (bytes_of (entry charge p r.units)) (take r.numbers held) J bank J' bank' → Charges n place p r held J bank J' bank'
  charges_some J' bank' e S =
      let f = sym (some_charged p r.units (meant r.answer) e) in
      record {
        in_journal = S.in_journal ∙ ap (λ (x : Option Entry). (after n (steps_at place x r.numbers held) (world J [])).journal) f;
        in_bank = (
          S.in_bank.0,
          S.in_bank.1 ∙ ap (λ (x : Option Entry). (after n (steps_at place x r.numbers held) (world J [])).bank) f,
          S.in_bank.2,
        );
      }

-- ---- what RUN reports

large_output : (L : Limits) (output : List ℤ) (b : Bool) → cond (leb L.output (length output)) b false ≡ true → L.output ≤ length output
large_output L output b e = by (leb L.output (length output)) refl e
  where
    by : (t : Bool) → leb L.output (length output) ≡ t → cond t b false ≡ true → L.output ≤ length output
    by true f g = leb-true L.output (length output) f
    by false f g = differ g refl

pub numbers_fit : {L : Limits} {text tree : List ℕ} {works stores : List Lent} {output : List ℤ} {r : Ran} → Run L text tree works stores output r → r.says.numbers ≤ length output
numbers_fit (Run.too_long h) = omega arith
numbers_fit (too_much h n) = omega arith
numbers_fit (Run.too_small h a f) = omega arith
numbers_fit (not_run h a f v) = omega arith
numbers_fit {L} {tree = tree} {works} {stores} {output} (ran {b} h a f v e) =
    omega (arith, (counts_in_limits L b).numbers_in, large_output L output (large_enough (tree_table tree ∷ (works ++ stores))) f)

not_refused_end : {A : Type 0} (o : Rattle.language.specs.Rules.Outcome A) (a : Answer) → Rattle.language.specs.Outcome.end_of o ≡ some a → refused_answer a ≡ true → ⊥
not_refused_end (Rattle.language.specs.Rules.Outcome.ok x s) a e f = let g : done ≡ a = cc in differ (ap refused_answer g ∙ f) refl
not_refused_end (Rattle.language.specs.Rules.Outcome.halt (Rattle.language.specs.Rules.stop w) q s) a e f = let g : stopped w q ≡ a = cc in differ (ap refused_answer g ∙ f) refl
not_refused_end (Rattle.language.specs.Rules.Outcome.halt Rattle.language.specs.Rules.no_rule q s) a e f = let z : ◌≡◌ {A = ℕ} 0 1 = cc in omega arith

pub refused_puts_none : {L : Limits} {text tree : List ℕ} {works stores : List Lent} {output : List ℤ} {r : Ran} → Run L text tree works stores output r →
    refused_answer r.says.answer ≡ true → r.says.numbers ≡ 0
refused_puts_none (Run.too_long h) e = refl
refused_puts_none (too_much h n) e = refl
refused_puts_none (Run.too_small h a f) e = refl
refused_puts_none (not_run h a f v) e = refl
refused_puts_none {L} (ran {b} {a} h ad f v g) e = absurd (not_refused_end (run L b) a g e)

-- ---- the call

module _ (J : List ℕ) (p : ℕ) (L : Limits) (W : Work) (tree words stack scopes notes waiting bindings cells : List ℕ) (held : List ℤ) (Q : Purses) where
  abbrev Begins : Result RunBegun PurseRefusal → Type 0
  Begins r = RunBegins J p L W r tree words stack scopes notes waiting bindings cells held Q

  abbrev Same : Type 0
  Same = AsLent W tree words stack scopes notes waiting bindings cells held

  pub journal_refused : (place : ℕ) → back Q place false ≡ read_back J → Same → Begins (Err (refusal.Journal place))
  journal_refused place e k =
      record { comes = wrong_journal (ap (λ (b : Back). b.sound) (sym e)); ready = ap (λ (b : Back). b.place) e; kept = k; shown = ap (λ (b : Back). b.purses) e }

  module _ (place : ℕ) (e : back Q place true ≡ read_back J) where
    sound_as : (read_back J).sound ≡ true
    sound_as = ap (λ (b : Back). b.sound) (sym e)

    shown_as : Q ≡ (read_back J).purses
    shown_as = ap (λ (b : Back). b.purses) e

    place_as : place ≡ (read_back J).place
    place_as = ap (λ (b : Back). b.place) e

    room_at : (t : Bool) → record_left place J ≡ t → record_left (read_back J).place J ≡ t
    room_at t f = ap (λ (k : ℕ). record_left k J) (sym place_as) ∙ f

    pub purse_refused : purse_count ≤ p → Same → Begins (Err (refusal.Purse place))
    purse_refused g k = record { comes = wrong_purse sound_as (le-ltb p purse_count g); ready = place_as; kept = k; shown = shown_as }

    pub full_refused : p < purse_count → record_left place J ≡ false → Same → Begins (Err (refusal.Full place))
    full_refused g h k = record { comes = no_record sound_as (lt-ltb p purse_count g) (room_at false h); ready = place_as; kept = k; shown = shown_as }

    pub ran_as : (r : Report) → length held ≡ length W.output → p < purse_count → record_left place J ≡ true →
        (f holds : ℕ) → f ≡ fuel_given L.fuel holds → holds ≡ purse Q p →
        Run (limits_of f L.depth L.bindings L.cells L.output) W.text W.tree W.works W.stores W.output
        (left r tree words stack scopes notes waiting bindings cells held) → Begins (Ok (record { report = r; place = place }))
    ran_as r long g h f holds x y R =
        let z : f ≡ fuel_given L.fuel (purse (read_back J).purses p) =
        x ∙ ap (λ (k : ℕ). fuel_given L.fuel k) (y ∙ ap (λ (P : Purses). purse P p) shown_as) in
        let R' : Run (given L (purse (read_back J).purses p)) W.text W.tree W.works W.stores W.output (left r tree words stack scopes notes waiting bindings cells held) =
        subst
        (λ (k : ℕ).
        Run (limits_of k L.depth L.bindings L.cells L.output) W.text W.tree W.works W.stores W.output
        (left r tree words stack scopes notes waiting bindings cells held))
        z R in
        record {
          comes = run_made sound_as (lt-ltb p purse_count g) (room_at true h) R';
          ready = (place_as, g, leb-true (record_bytes * suc place) (length J) h, subst (λ (k : ℕ). r.numbers ≤ k) (sym long) (numbers_fit R), λ q. refused_puts_none R q);
          kept = tt;
          shown = shown_as;
        }

-- ---- the whole call

module _ (J : List ℕ) (p n : ℕ) (L : Limits) (W : Work) (bank : List ℤ) (tree words stack scopes notes waiting bindings cells : List ℕ) (held : List ℤ) (Q : Purses) where
  pub refused_as : (e : PurseRefusal) → RunBegins J p L W (Err e) tree words stack scopes notes waiting bindings cells held Q →
      PurseRun J p n L W bank (Err e) tree words stack scopes notes waiting bindings cells held J bank Q
  refused_as e B =
      let w : after n [] (world J []) ≡ world J [] = after_nil n (world J []) in
      record {
        comes = B.comes;
        made = record { in_journal = ap (λ (v : World). v.journal) (sym w); in_bank = ([], ap (λ (v : World). v.bank) (sym w), refl) };
        kept = B.kept;
        shown = B.shown;
      }

  pub runs_as : (b : RunBegun) (J' : List ℕ) (bank' : List ℤ) → RunBegins J p L W (Ok b) tree words stack scopes notes waiting bindings cells held Q →
      Charges n b.place p b.report held J bank J' bank' → PurseRun J p n L W bank (Ok b.report) tree words stack scopes notes waiting bindings cells held J' bank' Q
  runs_as b J' bank' B C =
      record {
        comes = B.comes;
        made = subst (λ (k : ℕ). StepsMade n (steps_at k (charged p (meant b.report.answer) b.report.units) b.report.numbers held) J bank J' bank') B.ready.0 C;
        kept = tt;
        shown = B.shown;
      }
