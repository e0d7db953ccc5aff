-- What a run from a purse comes to, and what it leaves.
use Rattle.std.specs.Prelude.{◌≡◌, Bool, true, false, List, [], ◌∷◌, ◌++◌, map, ℕ, suc, ◌*◌, ◌≤◌, ◌<◌, ℤ, length, take, drop, Result, Ok, Err, MatchResult}
use Rattle.language.specs.Answers.{Answer, done, refused, stopped}
use Rattle.language.specs.Limits.{Limits}
use Rattle.language.specs.Promises.{Lent, untouched, Ran}
use Rattle.answers.specs.declared.Report.{Report}
use Rattle.answers.specs.Answers.{meant}
use Rattle.gate.specs.Lent.{left}
use Rattle.purse_model.specs.Journal.{purse_count, Purses, record_bytes, read_back}
use Rattle.purse_model.specs.Purses.{Work, runs, Outcome, refusal, charged, of_run, Comes, World, world, Step, hand, after, writing, steps}
use Rattle.purses.specs.declared.PurseRefusal.{PurseRefusal}
use Rattle.purses.specs.Meant.{refusal_said, refusal_place}
use Rattle.purse_run.specs.declared.RunBegun.{RunBegun}

abbrev pub refused_answer : Answer → Bool
refused_answer done = false
refused_answer (refused r q) = true
refused_answer (stopped w q) = false

-- what is left of a world in the bank's table: the numbers handed on, and behind them what it had
abbrev pub Banked : World → List ℤ → List ℤ → Type 0
Banked w bank bank' = (gone : List ℤ) × (gone ≡ w.bank) × (bank' ≡ gone ++ drop (length gone) bank)

-- what the first n of these steps leave in the journal and in the bank's table
pub record StepsMade (n : ℕ) (ss : List Step) (J : List ℕ) (bank : List ℤ) (J' : List ℕ) (bank' : List ℤ) : Type 0 where
  pub in_journal : J' ≡ (after n ss (world J [])).journal
  pub in_bank : Banked (after n ss (world J [])) bank bank'

-- the steps of a run that reported so: none where it was refused, for it then put out no number
abbrev pub report_steps : (place p : ℕ) → Report → (held : List ℤ) → List Step
report_steps place p r held = writing place (charged p (meant r.answer) r.units) ++ map hand (take r.numbers held)

abbrev pub Charges : (n place p : ℕ) → Report → (held : List ℤ) → (J : List ℕ) → (bank : List ℤ) → (J' : List ℕ) → (bank' : List ℤ) → Type 0
Charges n place p r held J bank J' bank' = StepsMade n (report_steps place p r held) J bank J' bank'

abbrev pub work : List ℕ → List ℕ → List Lent → List Lent → List ℤ → Work
work text tree works stores output = record { text = text; tree = tree; works = works; stores = stores; output = output }

-- what a call that was answered so comes to
abbrev pub run_outcome : Result Report PurseRefusal → (p : ℕ) → (Report → Ran) → Outcome
run_outcome (Ok r) p ran = of_run p (ran r)
run_outcome (Err e) p ran = refusal (refusal_said e)

-- what RUN reports, of a run that has begun
abbrev pub report_of : Result RunBegun PurseRefusal → Result Report PurseRefusal
report_of (Ok b) = Ok b.report
report_of (Err e) = Err e

-- a run is of a purse, a whole record is left at its place, and its numbers are held
abbrev pub RunReady : (journal : List ℕ) → (p : ℕ) → (held : List ℤ) → RunBegun → Type 0
RunReady J p held b =
    (b.place ≡ (read_back J).place) × (p < purse_count) × (record_bytes * suc b.place ≤ length J) × (b.report.numbers ≤ length held) ×
    (refused_answer (meant b.report.answer) ≡ true → b.report.numbers ≡ 0)

-- RUN's tables are as they were lent
pub record AsLent (W : Work) (tree words stack scopes notes waiting bindings cells : List ℕ) (held : List ℤ) : Type 0 where
  pub tree_same : tree ≡ W.tree
  pub works_same : words ∷ stack ∷ scopes ∷ notes ∷ waiting ∷ [] ≡ untouched W.works
  pub stores_same : bindings ∷ cells ∷ [] ≡ untouched W.stores
  pub held_same : held ≡ W.output

-- 34 to 36 leave RUN's tables as they were lent; else they are what RUN leaves
abbrev pub Kept : (W : Work) → Result Report PurseRefusal → (tree words stack scopes notes waiting bindings cells : List ℕ) → (held : List ℤ) → Type 0
Kept W (Ok r) tree words stack scopes notes waiting bindings cells held = Unit {0}
Kept W (Err e) tree words stack scopes notes waiting bindings cells held = AsLent W tree words stack scopes notes waiting bindings cells held

-- what a run from a purse comes to before its first step, and the place of its record; where it is refused, the place up to which the journal was read back
module _ (J : List ℕ) (p : ℕ) (L : Limits) (W : Work) (r : Result RunBegun PurseRefusal) (tree words stack scopes notes waiting bindings cells : List ℕ) (held : List ℤ) (purses' : Purses) where
  pub record RunBegins : Type 0 where
    pub comes : Comes J (runs p L W) (run_outcome (report_of r) p (λ x. left x tree words stack scopes notes waiting bindings cells held))
    pub ready : MatchResult r (RunReady J p held) (λ e. refusal_place e ≡ (read_back J).place)
    pub kept : Kept W (report_of r) tree words stack scopes notes waiting bindings cells held
    pub shown : purses' ≡ (read_back J).purses

-- what it comes to, with the first n of its steps made
module _ (J : List ℕ) (p n : ℕ) (L : Limits) (W : Work) (bank : List ℤ) (r : Result Report PurseRefusal) (tree words stack scopes notes waiting bindings cells : List ℕ) (held : List ℤ)
    (J' : List ℕ) (bank' : List ℤ) (purses' : Purses) where
  abbrev pub ended : Outcome
  ended = run_outcome r p (λ x. left x tree words stack scopes notes waiting bindings cells held)

  pub record PurseRun : Type 0 where
    pub comes : Comes J (runs p L W) ended
    pub made : StepsMade n (steps J ended) J bank J' bank'
    pub kept : Kept W r tree words stack scopes notes waiting bindings cells held
    pub shown : purses' ≡ (read_back J).purses
