-- What the exported functions of purses answer and put into the tables lent for it: what a call comes to, in numbers.
use Rattle.std.specs.Prelude.{◌≡◌, Bool, true, false, cond, List, [], ◌∷◌, ◌++◌, ℕ, ◌≤◌, ◌<◌, leb, ℤ, length, get_or, drop}
use Rattle.std.specs.Prelude.{Some, None}
use Rattle.std.specs.Prelude as rust
use Rattle.std.proofs.Math.Option.{Option, none, some}
use Rattle.language.specs.Limits.{Limits}
use Rattle.language.specs.Promises.{untouched}
use Rattle.purse_model.specs.Journal.{purse_count, Entry, kind_number, kind_of, entry_of, read_back}
use Rattle.purse_model.specs.Purses.{Work, credits, runs, charged, Said, refuses, credited, answers, refusal_number, answer_number, Outcome, Comes, Step, world, after, steps}
use Rattle.answers.specs.Answers.{meant}
use Rattle.purses.specs.Meant.{entry_said, pending_step, Makes}
use Rattle.purse_run.specs.declared.RunBegun.{RunBegun}
use Rattle.purse_run.specs.Meant.{Banked}
use Rattle.mahrullis.specs.declared.calls.Pending.{Pending}
use Rattle.mahrullis.specs.Reports.{report_entries, reported, no_room}

abbrev pub pending_entries : ℕ
pending_entries = 5

-- ---- in numbers

-- what a call has left to do: the record's kind, 0 for none, its place, purse and amount, and how many numbers are held
abbrev pub pending_words : Option Entry → (place numbers : ℕ) → List ℕ
pending_words none place numbers = 0 ∷ 0 ∷ 0 ∷ 0 ∷ 0 ∷ []
pending_words (some e) place numbers = kind_number e.kind ∷ place ∷ e.of ∷ e.amount ∷ numbers ∷ []

-- the words that the code puts down for what it has left to do, and what a run that has begun has left to do
abbrev pub pending_left : rust.Option Pending → List ℕ
pending_left None = pending_words none 0 0
pending_left (Some w) = pending_words (some (entry_said w.entry)) w.place w.numbers

abbrev pub run_left : RunBegun → (p : ℕ) → List ℕ
run_left b p = pending_words (charged p (meant b.report.answer) b.report.units) b.place b.report.numbers

abbrev pub refusal_report : ℕ → List ℕ  -- 34 to 36 have no places and no counts
refusal_report n = n ∷ 0 ∷ 0 ∷ 0 ∷ 0 ∷ 0 ∷ 0 ∷ []

-- what an outcome puts down
abbrev pub pending_of : (journal : List ℕ) → Outcome → List ℕ
pending_of J o = pending_words o.writes (read_back J).place (length o.gives)

abbrev pub purse_report : Said → List ℕ
purse_report (refuses r) = refusal_report (refusal_number r)
purse_report credited = refusal_report 0
purse_report (answers r) = reported r.says

-- ---- what RUN's tables are left as: what RUN leaves, and as they were lent where it was not called

abbrev pub left_tree : Said → Work → List ℕ
left_tree (refuses r) W = W.tree
left_tree credited W = W.tree
left_tree (answers r) W = r.tree

abbrev pub works_left : Said → Work → List (List ℕ)
works_left (refuses r) W = untouched W.works
works_left credited W = untouched W.works
works_left (answers r) W = r.works

abbrev pub stores_left : Said → Work → List (List ℕ)
stores_left (refuses r) W = untouched W.stores
stores_left credited W = untouched W.stores
stores_left (answers r) W = r.stores

abbrev pub held_left : Said → Work → List ℤ
held_left (refuses r) W = W.output
held_left credited W = W.output
held_left (answers r) W = r.output

-- ---- the functions

-- the table of purses has the purses that the journal is read back to, and the rest of it is as it was
abbrev pub purses_shown : (journal purses : List ℕ) → List ℕ
purses_shown J purses = (read_back J).purses ++ drop purse_count purses

module _ (J purses : List ℕ) where
  pub data ShowInto : (r : ℕ) (purses' : List ℕ) → Type 0 where
    untold : length purses < purse_count → ShowInto no_room purses
    shows : purse_count ≤ length purses → ShowInto (cond (read_back J).sound 0 35) (purses_shown J purses)

module _ (J : List ℕ) (p amount : ℕ) (purses : List ℕ) where
  -- the first n steps of a credit are made
  pub data CreditInto (n : ℕ) : (r : ℕ) (J' purses' : List ℕ) → Type 0 where
    untold : length purses < purse_count → CreditInto n no_room J purses
    credits_so : {o : Outcome} → purse_count ≤ length purses → Comes J (credits p amount) o →
        CreditInto n (answer_number o.says) (after n (steps J o) (world J [])).journal (purses_shown J purses)

  pub data CreditBeginInto (pending : List ℕ) : (r : ℕ) (purses' pending' : List ℕ) → Type 0 where
    untold : cond (leb purse_count (length purses)) (leb pending_entries (length pending)) false ≡ false → CreditBeginInto pending no_room purses pending
    begins : {o : Outcome} → purse_count ≤ length purses → pending_entries ≤ length pending → Comes J (credits p amount) o →
        CreditBeginInto pending (answer_number o.says) (purses_shown J purses) (pending_of J o ++ drop pending_entries pending)

-- step k of the call whose words are pending; answers 1, or 0 where there is none
abbrev pub word_step : (pending : List ℕ) (k : ℕ) (held : List ℤ) (J : List ℕ) (bank : List ℤ) → Option Step
word_step w k held J bank = pending_step k (entry_of (kind_of (get_or w 0 0)) (get_or w 2 0) (get_or w 3 0) 0) (get_or w 1 0) (get_or w 2 0) (get_or w 4 0) held J bank

module _ (pending : List ℕ) (k : ℕ) (held : List ℤ) (J : List ℕ) (bank : List ℤ) where
  pub data StepInto : (r : ℕ) (J' : List ℕ) (bank' : List ℤ) → Type 0 where
    no_words : length pending < pending_entries → StepInto 0 J bank
    makes : (b : Bool) {J' : List ℕ} {bank' : List ℤ} → pending_entries ≤ length pending → Makes (word_step pending k held J bank) k J bank b J' bank' →
        StepInto (cond b 1 0) J' bank'

abbrev pub told_whole : (purses report : List ℕ) → Bool  -- the tables of purses and of the report have their entries
told_whole purses report = cond (leb purse_count (length purses)) (leb report_entries (length report)) false

-- what a run from a purse answers, reports and leaves in RUN's tables
module _ (J : List ℕ) (p : ℕ) (L : Limits) (W : Work) (purses report : List ℕ) where
  pub record RunsSo (o : Outcome) (r : ℕ) (tree' : List ℕ) (works' stores' : List (List ℕ)) (held' : List ℤ) (purses' report' : List ℕ) : Type 0 where
    pub comes : Comes J (runs p L W) o
    pub answer : r ≡ answer_number o.says
    pub tree_so : tree' ≡ left_tree o.says W
    pub works_so : works' ≡ works_left o.says W
    pub stores_so : stores' ≡ stores_left o.says W
    pub held_so : held' ≡ held_left o.says W
    pub shown : purses' ≡ purses_shown J purses
    pub report_so : report' ≡ purse_report o.says ++ drop report_entries report

  pub data PurseRunBeginInto (pending : List ℕ) : (r : ℕ) (tree' : List ℕ) (works' stores' : List (List ℕ)) (held' : List ℤ) (purses' report' pending' : List ℕ) → Type 0 where
    untold : cond (told_whole purses report) (leb pending_entries (length pending)) false ≡ false →
        PurseRunBeginInto pending no_room W.tree (untouched W.works) (untouched W.stores) W.output purses report pending
    begins : {o : Outcome} {r : ℕ} {tree' : List ℕ} {works' stores' : List (List ℕ)} {held' : List ℤ} {purses' report' : List ℕ} →
        cond (told_whole purses report) (leb pending_entries (length pending)) false ≡ true → RunsSo o r tree' works' stores' held' purses' report' →
        PurseRunBeginInto pending r tree' works' stores' held' purses' report' (pending_of J o ++ drop pending_entries pending)

  -- the first n steps are made; the bank's table must have as many entries as that which holds the numbers back
  pub data PurseRunInto (n : ℕ) (bank : List ℤ) : (r : ℕ) (tree' : List ℕ) (works' stores' : List (List ℕ)) (held' : List ℤ) (purses' report' J' : List ℕ) (bank' : List ℤ) →
      Type 0 where
    untold : cond (told_whole purses report) (leb (length W.output) (length bank)) false ≡ false →
        PurseRunInto n bank no_room W.tree (untouched W.works) (untouched W.stores) W.output purses report J bank
    runs_so : {o : Outcome} {r : ℕ} {tree' : List ℕ} {works' stores' : List (List ℕ)} {held' : List ℤ} {purses' report' : List ℕ} {bank' : List ℤ} →
        cond (told_whole purses report) (leb (length W.output) (length bank)) false ≡ true → RunsSo o r tree' works' stores' held' purses' report' →
        Banked (after n (steps J o) (world J [])) bank bank' →
        PurseRunInto n bank r tree' works' stores' held' purses' report' (after n (steps J o) (world J [])).journal bank'
