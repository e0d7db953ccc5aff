-- What the code runs and what it was lent, in the evaluator's terms.
use Rattle.std.specs.Prelude.{◌≡◌, ℕ, Bool, true, false, Result}
use Rattle.machine.specs.declared.Ending.{Ending}
use Rattle.machine.specs.declared.Ending.TheVariants.{Value}
use Rattle.machine.specs.Entries.{done_tag, again_tag}
use Rattle.machine.specs.State.{Run, running, Tables, tables}
use Rattle.stores.specs.declared.End.{End}
use Rattle.stores.specs.Ends.{ending}
use Rattle.running.specs.declared.Program.{Program}
use Rattle.running.specs.declared.Lent.{Lent}

-- what a run does not change
abbrev pub program_of : Program → Run
program_of p = running p.tree.now p.codes.now p.bounds

-- the counts and the lent tables
abbrev pub tables_of : Lent → Tables
tables_of l = tables l.counts l.bindings.now l.cells.now l.out.now l.waiting.now

-- the tables are still those that were lent
pub record SameTables (before after : Lent) : Type 0 where
  pub bindings : after.bindings.ghost_name ≡ before.bindings.ghost_name
  pub cells : after.cells.ghost_name ≡ before.cells.ghost_name
  pub output : after.out.ghost_name ≡ before.out.ghost_name
  pub waiting : after.waiting.ghost_name ≡ before.waiting.ghost_name

-- whether a round of a WHILE asks for one more
abbrev pub round_tag : Bool → ℕ
round_tag true = again_tag
round_tag false = done_tag

abbrev pub round_ending : (env : ℕ) → Result Bool End → Ending
round_ending env r = ending (λ b. Value (round_tag b) env) r
