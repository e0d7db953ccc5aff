-- What is promised of the codes that are written.
use Rattle.std.specs.Prelude.{ℕ, ◌+◌, ◌≤◌, ◌<◌, ◌≡◌, List, Option, length, get_or}
use Rattle.nodes.specs.Trees.{Script}
use Rattle.machine.specs.Program.{program_nodes, tree_in, codes_in, bounds_in}
use Rattle.machine.specs.Codes.{row_codes, codes_of}
use Rattle.coding.specs.Stack.{Kept, names_in, binder_name}
use Rattle.coding.specs.Pen.{pen, writes}

-- tree words and the text that they point into
abbrev pub script : (tree text : List ℕ) → Script
script t s = record { tree = t; text = s }

-- those of a program
abbrev pub script_in : (prog text : List ℕ) → Script
script_in p s = script (tree_in p) s

-- no code is written yet
unfoldable pub Blank : (prog : List ℕ) → Type 0
Blank p = (i : ℕ) → get_or (codes_in p) i 0 ≡ 0

-- the row from the node i on is coded: with the names of the stack in force, behind the codes that are there
pub record RowCoded (text prog scopes : List ℕ) (depth : ℕ) (own : Option ℕ) (i at : ℕ) (prog' scopes' : List ℕ) (at' : ℕ) : Type 0 where
  -- each node takes one of the program's, so that many steps down are enough
  pub codes_are : (k : ℕ) → program_nodes ≤ at + k →
      pen prog' at' ≡ writes (pen prog at) (row_codes (script_in prog text) k (names_in (script_in prog text) scopes depth) (binder_name (script_in prog text) own) i)
  pub stack_kept : Kept depth scopes scopes'

-- tree and limits are as they were, and the codes are those of the pass down the tree, if the stack has room
pub record CodesWritten (text prog scopes prog' : List ℕ) : Type 0 where
  pub tree_kept : tree_in prog' ≡ tree_in prog
  pub bounds_kept : bounds_in prog' ≡ bounds_in prog
  pub codes_are : program_nodes ≤ length scopes → Blank prog → (i : ℕ) → i < program_nodes →
      get_or (codes_in prog') i 0 ≡ get_or (codes_of (script_in prog text)) i 0
