-- What a run starts with, and what it shows at its end.
use Rattle.std.specs.Prelude.{ℕ, ◌-◌, List, eqb, ℤ, take}
use Rattle.std.proofs.Math.Option.{Option, none, some}
use Rattle.language.specs.Answers.{FUEL, DEPTH, CELLS, BINDINGS, OUTPUT, RANGE, ZERO, UNSET, SIZE, INDEX, Stop, limit, error, Answer, done, stopped}
use Rattle.language.specs.Limits.{Limits}
use Rattle.language.specs.Outcome.{Report}
use Rattle.language.specs.Promises.{Told}
use Rattle.nodes.specs.Nodes.{node_at}
use Rattle.machine.specs.declared.Bounds.{Bounds}
use Rattle.machine.specs.declared.Ending.{Ending}
use Rattle.machine.specs.declared.Ending.TheVariants.{Value, Unset, Returned, NoRule}
use Rattle.machine.specs.declared.Ending.TheVariants as E
use Rattle.machine.specs.Entries.{pick}
use Rattle.machine.specs.State.{running, Tables, tables, Ret}
use Rattle.machine.specs.Machine.{block_at}

abbrev pub bounds_of : Limits → Bounds
bounds_of L = record { bindings = L.bindings; cells = L.cells; output = L.output }

-- nothing is taken, whatever the tables hold
abbrev pub fresh : (fuel : ℕ) → (bindings cells : List ℕ) → (output : List ℤ) → (waiting : List ℕ) → Tables
fresh f b c o w = tables (record { units = f; bindings = 0; cells = 0; numbers = 0 }) b c o w

-- the whole program: the commands of the root's block
unfoldable pub program : (tree codes : List ℕ) → Limits → Tables → Ret
program t c L m = block_at (running t c (bounds_of L)) L.depth 0 0 (node_at t 0).child m

-- a stop by its number, for the nine that have no second place
abbrev pub stop_by : ℕ → Stop
stop_by n =
    pick (eqb n 20) (λ _. limit FUEL) λ _.
    pick (eqb n 21) (λ _. limit DEPTH) λ _.
    pick (eqb n 22) (λ _. limit CELLS) λ _.
    pick (eqb n 23) (λ _. limit BINDINGS) λ _.
    pick (eqb n 24) (λ _. limit OUTPUT) λ _.
    pick (eqb n 25) (λ _. error RANGE) λ _.
    pick (eqb n 26) (λ _. error ZERO) λ _.
    pick (eqb n 28) (λ _. error SIZE) λ _.
    error INDEX

-- no rule fits a program that returns
abbrev pub answer_of : Ending → Option Answer
answer_of (Value t x) = some done
answer_of (E.Stop n p) = some (stopped (stop_by n) p)
answer_of (Unset p q) = some (stopped (error (UNSET q)) p)
answer_of (Returned t x) = none
answer_of NoRule = none

-- with so much fuel at the start
abbrev pub shown : (fuel : ℕ) → Ret → Report
shown f r =
    record {
      end = answer_of r.ending;
      units = f - r.after.counts.units;
      bindings = r.after.counts.bindings;
      cells = r.after.counts.cells;
      numbers = take r.after.counts.numbers r.after.output;
    }

-- what RUN says of it under an answer
abbrev pub told_by : Answer → (fuel : ℕ) → Ret → Told
told_by a f r =
    record {
      answer = a;
      units = f - r.after.counts.units;
      bindings = r.after.counts.bindings;
      cells = r.after.counts.cells;
      numbers = r.after.counts.numbers;
    }
