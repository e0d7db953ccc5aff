-- What `read` answers and what it leaves in every table, for all inputs: CHECK's promise as far as reading goes.
use Rattle.std.specs.Prelude.{◌≡◌, true, false, List, [], ◌∷◌, ℕ, ◌≤◌, ◌<◌, length}
use Rattle.std.specs.Prelude.{Result as Outcome}
use Rattle.language.specs.Syntax.{Block}
use Rattle.language.specs.Answers.{Refusal, LENGTH, TABLE, Result, fine, refuse}
use Rattle.language.specs.Table.{table}
use Rattle.language.specs.Reading.{Reading}
use Rattle.language.specs.Promises.{text_bytes, Lent, tree_table, large_enough, untouched, cleared, tree_after}
use Rattle.reading.specs.declared.ReadError.{ReadError}
use Rattle.reading.specs.Outcomes.{said}

-- the working tables' fixed sizes: an entry for each word, and one more on the stack
abbrev pub word_entries : ℕ
word_entries = 4096

abbrev pub stack_entries : ℕ
stack_entries = 4097

abbrev pub working : (words stack : List ℕ) → List Lent
working words stack = record { size = word_entries; holds = words } ∷ record { size = stack_entries; holds = stack } ∷ []

-- the answer to a text: the number of its tree's words, or document 01's refusal and its place
abbrev pub outcome_of : Result Block → Result ℕ
outcome_of (fine b) = fine (length (table b))
outcome_of (refuse r p) = refuse r p

pub record Left : Type 0 where  -- what `read` answers, and what the tree table and the working tables then hold
  pub outcome : Result ℕ
  pub tree : List ℕ
  pub works : List (List ℕ)

abbrev pub left : Outcome ℕ ReadError → (tree words stack : List ℕ) → Left
left o tree words stack = record { outcome = said o; tree = tree; works = words ∷ stack ∷ [] }

module _ (text tree : List ℕ) (works : List Lent) where
  abbrev pub read_refuses : Refusal → Left  -- 1 LENGTH, 3 TABLE: nothing is changed
  read_refuses r = record { outcome = refuse r 0; tree = tree; works = untouched works }

  pub data Read : Left → Type 0 where
    too_long : text_bytes < length text → Read (read_refuses LENGTH)
    too_small : length text ≤ text_bytes → large_enough (tree_table tree ∷ works) ≡ false → Read (read_refuses TABLE)
    -- 0 and 4 to 8
    answered : {v : Result Block} → length text ≤ text_bytes → large_enough (tree_table tree ∷ works) ≡ true → Reading text v →
        Read (record { outcome = outcome_of v; tree = tree_after v tree; works = cleared works })
