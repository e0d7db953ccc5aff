-- what is left to put completes what was asked for
use mathlib.Core.Path.{ap, ◌∙◌}
use Prim.Native.Nat.{ℕ, ◌+◌}
use Rattle.machine.specs.Entries.{put_cells}
use Rattle.stores.proofs.Laws.{all_left, some_left, one_less, none_left, cells_go_on, cells_end}
use Rattle.stores.proofs.put_cells.Goals as goal

pub loop-at-init : goal.loop-at-init
loop-at-init c = ap (λ (j : ℕ). put_cells j c.args.cells.now c.args.k c.args.c) (all_left c.args.k c.args.n)

pub loop-at-preserved : goal.loop-at-preserved
loop-at-preserved c =
    rw (one_less (c.args.k + c.args.n) c.loop-at.at) (cells_go_on _ _ _ _ _ (some_left _ _ c.loop-at-test.true) c.put_cell.ensures ∙ c.loop-at.invariant)

pub returns : goal.returns
returns c = cells_end _ _ _ _ (none_left _ _ c.loop-at-test.false) ∙ c.loop-at.invariant
