-- The evaluator's state, its answers, and how steps are put together.
use Rattle.std.specs.Prelude.{ℕ, suc, ◌+◌, ◌-◌, List, ltb, ℤ, get_or, set}
use Rattle.machine.specs.declared.Counts.{Counts}
use Rattle.machine.specs.declared.Bounds.{Bounds}
use Rattle.machine.specs.declared.Evaluated.{Evaluated}
use Rattle.machine.specs.declared.Ending.{Ending}
use Rattle.machine.specs.declared.Ending.TheVariants.{Value, Stop, Unset, Returned, NoRule}
use Rattle.machine.specs.Entries.{pick, unset_tag, put_row, cell, cell_at, put_cell, put_cells}

-- what a run does not change: the tree words, the nodes' codes, and how many bindings, cells and numbers there may be
pub record Run : Type 0 where
  pub tree : List ℕ
  pub codes : List ℕ
  pub bounds : Bounds

abbrev pub running : (tree codes : List ℕ) → Bounds → Run
running t c b = record { tree = t; codes = c; bounds = b }

-- the code of the node i
abbrev pub code_at : Run → ℕ → ℕ
code_at g i = get_or g.codes i 0

-- the counts and the lent tables
pub record Tables : Type 0 where
  pub counts : Counts
  pub bindings : List ℕ
  pub cells : List ℕ
  pub output : List ℤ
  pub waiting : List ℕ

pub record Ret : Type 0 where
  pub ending : Ending
  pub after : Tables

abbrev pub tables : Counts → (bindings cells : List ℕ) → (output : List ℤ) → (waiting : List ℕ) → Tables
tables n b c o w = record { counts = n; bindings = b; cells = c; output = o; waiting = w }

-- what a function of the code answers, with the tables that it leaves
abbrev pub ret : Evaluated → (bindings cells : List ℕ) → (output : List ℤ) → (waiting : List ℕ) → Ret
ret r b c o w = record { ending = r.ending; after = tables r.counts b c o w }

abbrev pub is : Ending → Tables → Ret
is e m = record { ending = e; after = m }

-- 1 for a value: what is entered and comes to a value has taken a unit
abbrev pub valued : Ending → ℕ
valued (Value t x) = 1
valued (Stop n p) = 0
valued (Unset p q) = 0
valued (Returned t x) = 0
valued NoRule = 0

abbrev pub on_value : Ending → Tables → (ℕ → ℕ → Tables → Ret) → Ret
on_value (Value t x) m k = k t x m
on_value (Stop n p) m k = is (Stop n p) m
on_value (Unset p q) m k = is (Unset p q) m
on_value (Returned t x) m k = is (Returned t x) m
on_value NoRule m k = is NoRule m

-- r, and where it is a value what follows
unfoldable pub and_then : Ret → (ℕ → ℕ → Tables → Ret) → Ret
and_then r k = on_value r.ending r.after k

-- the same for an answer that changes no table
abbrev pub if_value : Ending → (ℕ → ℕ → Ending) → Ending
if_value (Value t x) k = k t x
if_value (Stop n p) k = Stop n p
if_value (Unset p q) k = Unset p q
if_value (Returned t x) k = Returned t x
if_value NoRule k = NoRule

-- what a function's block returned is its value; no rule fits a block that returned nothing
abbrev pub caught : Ending → Ending
caught (Value t x) = NoRule
caught (Stop n p) = Stop n p
caught (Unset p q) = Unset p q
caught (Returned t x) = Value t x
caught NoRule = NoRule

-- ---- the state's changes

abbrev pub spend : Tables → Tables
spend m =
    record {
      counts = record { units = m.counts.units - 1; bindings = m.counts.bindings; cells = m.counts.cells; numbers = m.counts.numbers };
      bindings = m.bindings;
      cells = m.cells;
      output = m.output;
      waiting = m.waiting;
    }

-- n bindings more, in the table b
abbrev pub bind : ℕ → List ℕ → Tables → Tables
bind n b m =
    record {
      counts = record { units = m.counts.units; bindings = n + m.counts.bindings; cells = m.counts.cells; numbers = m.counts.numbers };
      bindings = b;
      cells = m.cells;
      output = m.output;
      waiting = m.waiting;
    }

-- n cells more, which are not set, made at the place p
abbrev pub new_cells : (n p : ℕ) → Tables → Tables
new_cells n p m =
    record {
      counts = record { units = m.counts.units; bindings = m.counts.bindings; cells = n + m.counts.cells; numbers = m.counts.numbers };
      bindings = m.bindings;
      cells = put_cells n m.cells m.counts.cells (cell p unset_tag 0);
      output = m.output;
      waiting = m.waiting;
    }

-- a value into the cell a, which keeps the place that made it
abbrev pub store : (a tag word : ℕ) → Tables → Tables
store a t x m =
    record {
      counts = m.counts;
      bindings = m.bindings;
      cells = put_cell m.cells a (cell (cell_at m.cells a).made t x);
      output = m.output;
      waiting = m.waiting;
    }

-- one number more goes out
abbrev pub put_out_in : ℤ → Tables → Tables
put_out_in z m =
    record {
      counts = record { units = m.counts.units; bindings = m.counts.bindings; cells = m.counts.cells; numbers = suc m.counts.numbers };
      bindings = m.bindings;
      cells = m.cells;
      output = set m.output m.counts.numbers z;
      waiting = m.waiting;
    }

-- a value waits as the row k
abbrev pub push : (k tag word : ℕ) → Tables → Tables
push k t x m = record { counts = m.counts; bindings = m.bindings; cells = m.cells; output = m.output; waiting = put_row m.waiting k t x }

-- an entry at place p with d levels left: FUEL, then a unit is taken, then DEPTH
unfoldable pub guard : (d p : ℕ) → Tables → (Tables → Ret) → Ret
guard d p m k = pick (ltb 0 m.counts.units) (λ _. pick (ltb 0 d) (λ _. k (spend m)) λ _. is (Stop 21 p) (spend m)) λ _. is (Stop 20 p) m
