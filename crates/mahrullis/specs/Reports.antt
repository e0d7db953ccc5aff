-- What the exported functions answer and put into the table lent for it: the promises of CHECK, RUN and NAME, in numbers.
use Rattle.std.specs.Prelude.{◌≡◌, List, [], ◌∷◌, ◌++◌, ℕ, ◌≤◌, ◌<◌, min, ℤ, length, drop}
use Rattle.language.specs.Answers.{TABLE, refused, number_of, place_of, made_of}
use Rattle.language.specs.Limits.{Limits}
use Rattle.language.specs.Promises.{Lent, untouched, Checked, Check, Told, told, Ran, Run}
use Rattle.language.specs.Rules.{start}
use Rattle.language.specs.Words.{name_at}

abbrev pub report_entries : ℕ
report_entries = 7

abbrev pub part_entries : ℕ
part_entries = 2

-- a report in numbers
abbrev pub reported : Told → List ℕ
reported t = number_of t.answer ∷ place_of t.answer ∷ t.units ∷ t.bindings ∷ t.cells ∷ t.numbers ∷ made_of t.answer ∷ []

-- r is the answer's number; the report stands in the table's first entries, and the rest is as it was
pub record Put (t : Told) (report : List ℕ) (r : ℕ) (report' : List ℕ) : Type 0 where
  pub answers : r ≡ number_of t.answer
  pub holds : report' ≡ reported t ++ drop report_entries report

-- TABLE, for a report that has no room
abbrev pub no_room : ℕ
no_room = number_of (refused TABLE 0)

module _ (text tree : List ℕ) (works : List Lent) (report : List ℕ) where
  -- CHECK takes and puts out nothing, so its counts are 0
  pub data CheckInto : (r : ℕ) (tree' : List ℕ) (works' : List (List ℕ)) (report' : List ℕ) → Type 0 where
    unreported : length report < report_entries → CheckInto no_room tree (untouched works) report
    checks : {c : Checked} {r : ℕ} {report' : List ℕ} → report_entries ≤ length report → Check text tree works c → Put (told c.answer start) report r report' →
        CheckInto r c.tree c.works report'

module _ (L : Limits) (text tree : List ℕ) (works stores : List Lent) (output : List ℤ) (report : List ℕ) where
  pub data RunInto : (r : ℕ) (tree' : List ℕ) (works' stores' : List (List ℕ)) (output' : List ℤ) (report' : List ℕ) → Type 0 where
    unreported : length report < report_entries → RunInto no_room tree (untouched works) (untouched stores) output report
    runs : {x : Ran} {r : ℕ} {report' : List ℕ} → report_entries ≤ length report → Run L text tree works stores output x → Put x.says report r report' →
        RunInto r x.tree x.works x.stores x.output report'

-- offset and length of the name at a place
module _ (text : List ℕ) (at : ℕ) (part : List ℕ) where
  pub data NameInto : (r : ℕ) (part' : List ℕ) → Type 0 where
    unreported : length part < part_entries → NameInto no_room part
    names : part_entries ≤ length part → NameInto 0 (min at (length text) ∷ length (name_at text at) ∷ drop part_entries part)
