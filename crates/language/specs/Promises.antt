-- What each public job answers and what it leaves in every table, for all inputs (document 01, "When the gate says no" and "Left behind").
-- NAME's promise is `name_at` of Words.
use Rattle.std.specs.Prelude.{◌≡◌, ◌-◌, ◌≤◌, ◌<◌, ◌∷◌, ◌++◌}
use Rattle.language.specs.Library.{ℕ, ℤ, Bool, true, false, cond, leb, List, [], length, drop, replicate, some}
use Rattle.language.specs.Syntax.{Block}
use Rattle.language.specs.Answers.{Refusal, LENGTH, LIMIT, TABLE, Answer, done, refused, Result, fine, refuse}
use Rattle.language.specs.Table.{table}
use Rattle.language.specs.Reading.{Reading}
use Rattle.language.specs.Typing.{Typable}
use Rattle.language.specs.Order.{TypeRefused}
use Rattle.language.specs.Limits.{Limits, Admitted}
use Rattle.language.specs.Rules.{State, start, run}
use Rattle.language.specs.Outcome.{state_of, end_of}

-- The verdict on a text (4 to 10): its tree, if the grammar yields the text within the limits and it is typed; else the refusal and its place.
pub data Verdict (text : List ℕ) : Result Block → Type 0 where
  unread : {r : Refusal} {p : ℕ} → Reading text (refuse r p) → Verdict text (refuse r p)
  untyped : {b : Block} {r : Refusal} {q : ℕ} → Reading text (fine b) → TypeRefused b r q → Verdict text (refuse r q)
  typed : {b : Block} → Reading text (fine b) → Typable b → Verdict text (fine b)

abbrev pub verdict_answer : Result Block → Answer
verdict_answer (fine b) = done
verdict_answer (refuse r p) = refused r p

-- ---- tables

abbrev pub text_bytes : ℕ  -- the most bytes of a text, else LENGTH
text_bytes = 16384

abbrev pub tree_words : ℕ  -- the words of a tree table, else TABLE
tree_words = 4096

pub record Lent : Type 0 where  -- a lent table of numbers: how many entries the job may use, and what it holds
  pub size : ℕ
  pub holds : List ℕ

abbrev pub tree_table : List ℕ → Lent
tree_table t = record { size = tree_words; holds = t }

abbrev pub large_enough : List Lent → Bool  -- each table has the entries that the job may use
large_enough [] = true
large_enough (t ∷ ts) = cond (leb t.size (length t.holds)) (large_enough ts) false

abbrev pub zeroed : ℕ → List ℕ → List ℕ  -- the first n entries become zero, the rest is untouched
zeroed n t = replicate n 0 ++ drop n t

abbrev pub holding : ℕ → List ℕ → List ℕ → List ℕ  -- the first n entries become these numbers and then zeros
holding n l t = l ++ (replicate (n - length l) 0 ++ drop n t)

abbrev pub untouched : List Lent → List (List ℕ)  -- tables as they were lent
untouched [] = []
untouched (t ∷ ts) = t.holds ∷ untouched ts

abbrev pub cleared : List Lent → List (List ℕ)  -- tables that are zero as far as the job may use them
cleared [] = []
cleared (t ∷ ts) = zeroed t.size t.holds ∷ cleared ts

abbrev pub tree_after : Result Block → List ℕ → List ℕ  -- the tree table after a verdict: the tree and zeros behind it, or zeros
tree_after (fine b) t = holding tree_words (table b) t
tree_after (refuse r p) t = zeroed tree_words t

-- ---- CHECK

pub record Checked : Type 0 where  -- what CHECK says, and what the tree table and the working tables then hold
  pub answer : Answer
  pub tree : List ℕ
  pub works : List (List ℕ)

module _ (text tree : List ℕ) (works : List Lent) where
  abbrev pub check_refuses : Refusal → Checked  -- 1 LENGTH, 3 TABLE: nothing is changed
  check_refuses r = record { answer = refused r 0; tree = tree; works = untouched works }

  pub data Check : Checked → Type 0 where
    too_long : text_bytes < length text → Check (check_refuses LENGTH)
    too_small : length text ≤ text_bytes → large_enough (tree_table tree ∷ works) ≡ false → Check (check_refuses TABLE)
    -- 0 and 4 to 10
    judged : {v : Result Block} → length text ≤ text_bytes → large_enough (tree_table tree ∷ works) ≡ true → Verdict text v →
        Check (record { answer = verdict_answer v; tree = tree_after v tree; works = cleared works })

-- ---- RUN

pub record Told : Type 0 where  -- what RUN says: an answer, the units, bindings and cells taken, and how many numbers were put out
  pub answer : Answer
  pub units : ℕ
  pub bindings : ℕ
  pub cells : ℕ
  pub numbers : ℕ

abbrev pub told : Answer → State → Told
told a s = record { answer = a; units = s.units; bindings = s.bindings; cells = length s.cells; numbers = length s.numbers }

pub record Ran : Type 0 where  -- and what the tables then hold: the tree, the working tables, those of bindings and cells, the output
  pub says : Told
  pub tree : List ℕ
  pub works : List (List ℕ)
  pub stores : List (List ℕ)
  pub output : List ℤ

-- `stores` are the tables of bindings and cells, as far as their limits
module _ (L : Limits) (text tree : List ℕ) (works stores : List Lent) (output : List ℤ) where
  abbrev pub all_large : Bool  -- all tables are large enough, the output table for its limit
  all_large = cond (leb L.output (length output)) (large_enough (tree_table tree ∷ (works ++ stores))) false

  abbrev pub run_refuses : Refusal → Ran  -- 1 LENGTH, 2 LIMIT, 3 TABLE: nothing is changed
  run_refuses r = record { says = told (refused r 0) start; tree = tree; works = untouched works; stores = untouched stores; output = output }

  -- the run of the tree b, with the answer a: its numbers are put out, and the rest of the output table is as it was
  abbrev pub ran_with : Block → Answer → State → Ran
  ran_with b a s =
      record {
        says = told a s;
        tree = holding tree_words (table b) tree;
        works = cleared works;
        stores = cleared stores;
        output = s.numbers ++ drop (length s.numbers) output;
      }

  pub data Run : Ran → Type 0 where
    too_long : text_bytes < length text → Run (run_refuses LENGTH)
    too_much : length text ≤ text_bytes → ¬ Admitted L → Run (run_refuses LIMIT)
    too_small : length text ≤ text_bytes → Admitted L → all_large ≡ false → Run (run_refuses TABLE)
    -- 4 to 10: bindings, cells and output are untouched
    not_run : {r : Refusal} {p : ℕ} → length text ≤ text_bytes → Admitted L → all_large ≡ true → Verdict text (refuse r p) →
        Run (record { says = told (refused r p) start; tree = zeroed tree_words tree; works = cleared works; stores = untouched stores; output = output })
    -- 0 and 20 to 29: the end and the counts of the rules
    ran : {b : Block} {a : Answer} → length text ≤ text_bytes → Admitted L → all_large ≡ true → Verdict text (fine b) → end_of (run L b) ≡ some a →
        Run (ran_with b a (state_of (run L b)))
