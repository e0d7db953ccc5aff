-- What the steps of RUN come to.
use Rattle.std.specs.Prelude.{ℕ, ◌*◌, ◌≤◌, ◌<◌, ◌≡◌, List, ◌++◌, ℤ, length, get_or, take, drop, Option, Some, None}
use Rattle.language.specs.Limits.{Limits, Admitted}
use Rattle.limits.specs.Cleared.{zeroed}
use Rattle.nodes.specs.Trees.{Script}
use Rattle.machine.specs.State.{Tables, Ret}
use Rattle.machine.specs.Codes.{codes_of}
use Rattle.machine.specs.Program.{tree_in, codes_in}
use Rattle.machine.specs.Shown.{program}
use Rattle.coding.specs.Coding.{Blank}
use Rattle.answers.specs.declared.Report.{Report}
use Rattle.answers.specs.Ended.{reported}
use Rattle.gate.specs.declared.Within.{Within}

-- the numbers of limits that were made
abbrev pub numbers_of : Within → Limits
numbers_of w =
    record {
      fuel = w.fuel.number;
      depth = w.depth.number;
      bindings = w.bindings.number;
      cells = w.cells.number;
      output = w.output.number;
    }

-- limits are made exactly where they are admitted
abbrev pub Admits : Limits → Option Within → Type 0
Admits L (Some w) = Admitted L × (numbers_of w ≡ L)
Admits L None = ¬ Admitted L

-- what is reported of a run, and what its tables then hold
pub record Came : Type 0 where
  pub report : Report
  pub waiting : List ℕ
  pub bindings : List ℕ
  pub cells : List ℕ
  pub output : List ℤ

abbrev pub came : Report → (waiting bindings cells : List ℕ) → (output : List ℤ) → Came
came r w b c o = record { report = r; waiting = w; bindings = b; cells = c; output = o }

-- the evaluator's tables cleared: n words of the waiting table
abbrev pub cleared_after : (n : ℕ) → Limits → Ret → Came
cleared_after n L r =
    came (reported L.fuel r.ending r.after.counts) (zeroed 0 n r.after.waiting) (zeroed 0 (2 * L.bindings) r.after.bindings)
    (zeroed 0 (2 * L.cells) r.after.cells) r.after.output

-- the first n words of t in the place of those of p
abbrev pub copied : (n : ℕ) (t p : List ℕ) → List ℕ
copied n t p = take n t ++ drop n p

-- tree words and the text that they point into
abbrev pub script_of : (tree text : List ℕ) → Script
script_of t s = record { tree = t; text = s }

-- the codes of a tree's first words
abbrev pub RightCodes : (text tree codes : List ℕ) → Type 0
RightCodes text t codes = (i : ℕ) → i < 4096 → get_or codes i 0 ≡ get_or (codes_of (script_of t text)) i 0

-- the tree's words and their codes are in the program, if both have room and no code stood there
pub record Programmed (text tree prog prog' : List ℕ) : Type 0 where
  pub tree_is : 4096 ≤ length tree → 4096 ≤ length prog → tree_in prog' ≡ take 4096 tree
  pub codes_are : 4096 ≤ length tree → 4096 ≤ length prog → Blank prog → RightCodes text (take 4096 tree) (codes_in prog')

-- a run of the tree words t on their codes, and then its tables are cleared
pub record RunCoded (n : ℕ) (L : Limits) (text t : List ℕ) (m : Tables) (x : Came) : Type 0 where
  pub codes : List ℕ
  pub short : length codes ≤ 4096
  pub right : RightCodes text t codes
  pub came_is : x ≡ cleared_after n L (program t codes L m)
