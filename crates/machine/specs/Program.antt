-- The program that is run, as one array lent on: the tree words, the nodes' codes, and how many bindings, cells and numbers there may be.
use Rattle.std.specs.Prelude.{ℕ, List, get_or, take, drop}
use Rattle.machine.specs.declared.Bounds.{Bounds}
use Rattle.machine.specs.State.{Run, running}

-- how many tree words there are, and how many codes: one for each word
abbrev pub program_nodes : ℕ
program_nodes = 4096

-- where the codes begin
abbrev pub program_codes : ℕ
program_codes = 4096

-- where the limit of bindings stands
abbrev pub program_bindings : ℕ
program_bindings = 8192

-- where the limit of cells stands
abbrev pub program_cells : ℕ
program_cells = 8193

-- where the limit of numbers put out stands
abbrev pub program_output : ℕ
program_output = 8194

-- the tree words of the program p
unfoldable pub tree_in : List ℕ → List ℕ
tree_in p = take program_nodes p

-- its nodes' codes
unfoldable pub codes_in : List ℕ → List ℕ
codes_in p = take program_nodes (drop program_codes p)

-- its limits
unfoldable pub bounds_in : List ℕ → Bounds
bounds_in p = record { bindings = get_or p program_bindings 0; cells = get_or p program_cells 0; output = get_or p program_output 0 }

-- what a run of it does not change
unfoldable pub run_in : List ℕ → Run
run_in p = running (tree_in p) (codes_in p) (bounds_in p)
