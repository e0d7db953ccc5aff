-- The tables are still those that were lent, so that they hold what the run left in them.
use mathlib.Core.Path.{sym}
use Rattle.running.proofs.Commands.{program_runs}
use Rattle.running.proofs.run_program.Goals as goal

pub returns-clause-waiting_after : goal.returns-clause-waiting_after
returns-clause-waiting_after c =
    let b = c.bindings-1.given.1.1 (sym c.block-done.ensures.same.bindings) in
    let k = c.cells-1.given.1.1 (sym c.block-done.ensures.same.cells) in
    let o = c.out-1.given.1.1 (sym c.block-done.ensures.same.output) in
    let w = c.waiting-1.given.1.1 (sym c.block-done.ensures.same.waiting) in
    rw (c.ending_of.ensures, b, k, o, w) (program_runs _ _ _ _ _ _ _ c.child_at-first.ensures _ c.block-done.ensures.came)
