-- The entries of the evaluator's tables: values, cells, waiting values and bindings, two words each, behind one pair of functions each.
use Rattle.std.specs.Prelude.{ℕ, zero, suc, ◌+◌, ◌*◌, ◌/◌, ◌%◌, Bool, true, false, List, ltb, get_or, set}
use Rattle.machine.specs.declared.Row.{Row}
use Rattle.machine.specs.declared.Cell.{Cell}
use Rattle.machine.specs.declared.Binding.{Binding}

-- a test, whose two sides wait
unfoldable pub pick : {A : Type 0} → Bool → (Unit {0} → A) → (Unit {0} → A) → A
pick true a b = a tt
pick false a b = b tt

-- what a value is: a number, a function, a function that knows its own name, a procedure or a function whose body is a block, such a one that knows its
-- own name, the address of a cell
abbrev pub number_tag : ℕ
number_tag = 0

abbrev pub function_tag : ℕ
function_tag = 1

abbrev pub recursive_function_tag : ℕ
recursive_function_tag = 2

abbrev pub procedure_tag : ℕ
procedure_tag = 3

abbrev pub recursive_procedure_tag : ℕ
recursive_procedure_tag = 4

abbrev pub address_tag : ℕ
address_tag = 5

-- a cell that is not set
abbrev pub unset_tag : ℕ
unset_tag = 6

-- answers that are no values: what is done, with the environment or the count after it; and a round of WHILE that asks for one more
abbrev pub done_tag : ℕ
done_tag = 7

abbrev pub again_tag : ℕ
again_tag = 8

-- a block of cells
abbrev pub block_tag : ℕ
block_tag = 9

-- the codes below this are the nine names'; this one is the code of a name that is not bound, and the bindings have those above it
abbrev pub first_free : ℕ
first_free = 10

-- no table has more rows
abbrev pub most_rows : ℕ
most_rows = 4096

-- the rows of waiting values are a ring: no run makes more bindings than this, and each value that waits becomes one, or the run ends at its call
abbrev pub ring_rows : ℕ
ring_rows = 4096

-- no name takes more steps, whatever the text: with up to 4,096 bindings in force
abbrev pub most_steps : ℕ
most_steps = 35

-- the row behind the row k of the ring
unfoldable pub row_after : ℕ → ℕ
row_after k = suc k % ring_rows

abbrev pub row : (tag word : ℕ) → Row
row t x = record { tag = t; word = x }

-- the row k of a table, and all zeros past its end
unfoldable pub row_at : List ℕ → ℕ → Row
row_at l k = pick (ltb k most_rows) (λ _. row (get_or l (2 * k) 0) (get_or l (2 * k + 1) 0)) λ _. row 0 0

unfoldable pub put_row : List ℕ → ℕ → (tag word : ℕ) → List ℕ
put_row l k t x = pick (ltb k most_rows) (λ _. set (set l (2 * k) t) (2 * k + 1) x) λ _. l

abbrev pub cell : (made tag word : ℕ) → Cell
cell p t x = record { made = p; tag = t; word = x }

-- a cell's first word: the place that made it and its tag, 16 bits each
abbrev pub cell_head : (made tag : ℕ) → ℕ
cell_head p t = p % 65536 * 65536 + t % 65536

abbrev pub cell_of : Row → Cell
cell_of r = cell (r.tag / 65536 % 65536) (r.tag % 65536) r.word

-- the cell k of a table
unfoldable pub cell_at : List ℕ → ℕ → Cell
cell_at l k = cell_of (row_at l k)

unfoldable pub put_cell : List ℕ → ℕ → Cell → List ℕ
put_cell l k c = put_row l k (cell_head c.made c.tag) c.word

-- the same cell n times, from the cell k on
unfoldable pub put_cells : (n : ℕ) → List ℕ → ℕ → Cell → List ℕ
put_cells zero l k c = l
put_cells (suc n) l k c = put_cells n (put_cell l k c) (suc k) c

abbrev pub binding : (code tag word link jump : ℕ) → Binding
binding c t x l j = record { code = c; tag = t; word = x; link = l; jump = j }

-- a binding's first word: its value's tag, its jump, its code and its link, 16 bits each
abbrev pub head_of : (code tag link jump : ℕ) → ℕ
head_of c t l j = ((t % 65536 * 65536 + j % 65536) * 65536 + c % 65536) * 65536 + l % 65536

abbrev pub binding_of : Row → Binding
binding_of r = binding (r.tag / 65536 % 65536) (r.tag / 281474976710656) r.word (r.tag % 65536) (r.tag / 4294967296 % 65536)

-- the binding k of a table
unfoldable pub binding_at : List ℕ → ℕ → Binding
binding_at l k = binding_of (row_at l k)

unfoldable pub put_binding : List ℕ → ℕ → Binding → List ℕ
put_binding l k b = put_row l k (head_of b.code b.tag b.link b.jump) b.word

-- a closure's word: a node and the environment of its definition, 16 bits each. The node is its first parameter, or its name where it knows that
unfoldable pub closure_word : (node env : ℕ) → ℕ
closure_word i env = i % 65536 * 65536 + env % 65536

unfoldable pub node_of : ℕ → ℕ
node_of x = x / 65536

unfoldable pub env_of : ℕ → ℕ
env_of x = x % 65536

-- a block's word, in the same two halves: its first cell, and how many cells it has
abbrev pub block_word : (first length : ℕ) → ℕ
block_word a n = closure_word a n

abbrev pub first_of : ℕ → ℕ
first_of x = node_of x

abbrev pub length_of : ℕ → ℕ
length_of x = env_of x

-- numbers below 0 are the words from here on
abbrev pub first_below : ℕ
first_below = 9223372036854775808
