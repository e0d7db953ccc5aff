-- What the functions' answers mean in the terms of the purses' definitions.
use Rattle.std.specs.Prelude.{◌≡◌, Bool, true, false, cond, List, [], ◌∷◌, ◌++◌, map, ℕ, zero, suc, ◌-◌, ◌*◌, ◌≤◌, ◌<◌, leb, ltb, ℤ, length, set, take, drop}
use Rattle.std.specs.Prelude.{Some, None, Result, Ok, Err, MatchResult}
use Rattle.std.specs.Prelude as rust
use Rattle.std.proofs.Math.Option.{Option, none, some}
use Rattle.purse_model.specs.Journal.{purse_count, Purses, Kind, credit, charge, Entry, entry, record_bytes, kind_of, bytes_of, back, read_on, read_back}
use Rattle.purse_model.specs.Purses.{credits, PURSE, JOURNAL, FULL, credited, Outcome, refusal, Comes, record_left, world, Step, store, hand, after, stores_from, steps}
use Rattle.purses.specs.declared.entries.Kind.TheVariants as kind
use Rattle.purses.specs.declared.entries.NoEntry.{NoEntry}
use Rattle.purses.specs.declared.entries.Entry as code
use Rattle.purses.specs.declared.WrongRecord.{WrongRecord}
use Rattle.purses.specs.declared.PurseRefusal.{PurseRefusal}
use Rattle.purses.specs.declared.PurseRefusal.TheVariants as refused

abbrev pub said : Rattle.purses.specs.declared.entries.Kind.Kind → Kind
said kind.Credit = credit
said kind.Charge = charge

abbrev pub entry_said : code.Entry → Entry
entry_said r = entry (said r.kind) r.purse r.amount

-- a number is that of the kind that it gives, or of no kind
abbrev pub Numbered : ℕ → Result Rattle.purses.specs.declared.entries.Kind.Kind NoEntry → Type 0
Numbered n r = MatchResult r (λ k. kind_of n ≡ some (said k)) (λ _. kind_of n ≡ none)

-- what purse p holds once an entry has changed the purses P; nothing where the entry is none
abbrev pub Holds : Option Purses → Purses → ℕ → rust.Option ℕ → Type 0
Holds none P p r = r ≡ None
Holds (some Q) P p r = (h : ℕ) × (r ≡ Some h) × (Q ≡ set P p h)

-- an entry was made or not, and the purses are then these
abbrev pub Entered : Option Purses → Purses → Result (Unit {0}) NoEntry → Purses → Type 0
Entered none P r Q = (r ≡ Err (record {})) × (Q ≡ P)
Entered (some R) P r Q = (r ≡ Ok tt) × (Q ≡ R)

-- how bytes are read on from purses P, after any number of records, where their first record was met so and left the purses Q: without its mark, entered, or wrong
abbrev pub ReadsAs : rust.Option (Result (Unit {0}) NoEntry) → Purses → List ℕ → Purses → Type 0
ReadsAs None P l Q = (n : ℕ) → read_on P n l ≡ back Q n true
ReadsAs (Some (Ok _)) P l Q = (n : ℕ) → read_on P n l ≡ read_on Q (suc n) (drop record_bytes l)
ReadsAs (Some (Err _)) P l Q = (n : ℕ) → read_on P n l ≡ back Q n false

abbrev pub came_back : Result ℕ WrongRecord → Purses → Rattle.purse_model.specs.Journal.Back
came_back (Ok place) Q = back Q place true
came_back (Err wrong) Q = back Q wrong.place false

-- the first n entries of a table become those of another
abbrev pub onto : ℕ → List ℤ → List ℤ → List ℤ
onto zero s d = d
onto (suc n) [] d = d
onto (suc n) (z ∷ s) [] = []
onto (suc n) (z ∷ s) (x ∷ d) = z ∷ onto n s d

-- after n steps of a call that stores these bytes from a place on and then hands on these numbers: the journal, and the bank's table,
-- which has the numbers handed on and behind them what it had
pub record Stepped (n from : ℕ) (bytes : List ℕ) (numbers : List ℤ) (journal : List ℕ) (bank : List ℤ) (journal' : List ℕ) (bank' : List ℤ) : Type 0 where
  pub in_journal : journal' ≡ (after n (stores_from from bytes ++ map hand numbers) (world journal [])).journal
  pub in_bank : (gone : List ℤ) × (gone ≡ (after n (stores_from from bytes ++ map hand numbers) (world journal [])).bank) × (bank' ≡ gone ++ drop (length gone) bank)

abbrev pub refusal_said : PurseRefusal → Rattle.purse_model.specs.Purses.PurseRefusal
refusal_said (refused.Purse place) = PURSE
refusal_said (refused.Journal place) = JOURNAL
refusal_said (refused.Full place) = FULL

-- how many records were read back before it
abbrev pub refusal_place : PurseRefusal → ℕ
refusal_place (refused.Purse place) = place
refusal_place (refused.Journal place) = place
refusal_place (refused.Full place) = place

-- what a credit that was answered so comes to
abbrev pub credit_outcome : {A : Type 0} → Result A PurseRefusal → (p amount : ℕ) → Outcome
credit_outcome (Ok _) p a = record { says = credited; writes = some (entry credit p a); gives = [] }
credit_outcome (Err r) p a = refusal (refusal_said r)

-- a credit that is done is of a purse, and a whole record is left at its place
abbrev pub CreditReady : (journal : List ℕ) → (p place : ℕ) → Type 0
CreditReady J p place = (place ≡ (read_back J).place) × (p < purse_count) × (record_bytes * suc place ≤ length J)

-- what a credit comes to before its first step, and the place of its record; where it is refused, the place up to which the journal was read back
pub record CreditBegins (journal : List ℕ) (p amount : ℕ) (r : Result ℕ PurseRefusal) (purses' : Purses) : Type 0 where
  pub comes : Comes journal (credits p amount) (credit_outcome r p amount)
  pub ready : MatchResult r (CreditReady journal p) (λ e. refusal_place e ≡ (read_back journal).place)
  pub shown : purses' ≡ (read_back journal).purses

-- what a credit comes to, with the first n of its steps made
pub record CreditComes (journal : List ℕ) (p amount n : ℕ) (r : Result (Unit {0}) PurseRefusal) (journal' : List ℕ) (purses' : Purses) : Type 0 where
  pub comes : Comes journal (credits p amount) (credit_outcome r p amount)
  pub stored : journal' ≡ (after n (steps journal (credit_outcome r p amount)) (world journal [])).journal
  pub shown : purses' ≡ (read_back journal).purses

-- ---- one step alone

abbrev pub nth : ℕ → List Step → Option Step  -- the k-th of the steps, from 0
nth k [] = none
nth zero (s ∷ ss) = some s
nth (suc k) (s ∷ ss) = nth k ss

-- the steps of a call that writes this entry at a place and hands on these numbers
abbrev pub entry_steps : Entry → (place : ℕ) → (numbers : List ℤ) → List Step
entry_steps e place numbers = stores_from (record_bytes * place) (bytes_of e) ++ map hand numbers

abbrev pub pending_steps : Option Entry → (place : ℕ) → (numbers : List ℤ) → List Step  -- of a call that writes no record: none
pending_steps none place numbers = []
pending_steps (some e) place numbers = entry_steps e place numbers

-- what a step is lent has the record's place and that of each number, and the purse is one
abbrev pub lent_for : (place p numbers : ℕ) → (journal : List ℕ) → (held bank : List ℤ) → Bool
lent_for place p numbers J held bank =
    cond (ltb p purse_count) (cond (record_left place J) (cond (leb numbers (length held)) (leb numbers (length bank)) false) false) false

-- the step that a call asks for; none past its last, and none where what is lent has no place for its steps
abbrev pub pending_step : ℕ → Option Entry → (place p numbers : ℕ) → (held : List ℤ) → (journal : List ℕ) → (bank : List ℤ) → Option Step
pending_step k e place p numbers held J bank = cond (lent_for place p numbers J held bank) (nth k (pending_steps e place (take numbers held))) none

-- what one step, the k-th, leaves in the journal and in the bank's table, and whether there is one: the first number is the ninth step's
abbrev pub Makes : Option Step → (k : ℕ) → (journal : List ℕ) → (bank : List ℤ) → Bool → (journal' : List ℕ) → (bank' : List ℤ) → Type 0
Makes none k J bank r J' bank' = (r ≡ false) × (J' ≡ J) × (bank' ≡ bank)
Makes (some (store i b)) k J bank r J' bank' = (r ≡ true) × (J' ≡ set J i b) × (bank' ≡ bank)
Makes (some (hand z)) k J bank r J' bank' = (r ≡ true) × (J' ≡ J) × (bank' ≡ set bank (k - record_bytes) z)
