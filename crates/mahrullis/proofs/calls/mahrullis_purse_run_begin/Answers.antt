use mathlib.Core.Path.{refl, sym, ap, ◌∙◌}
use mathlib.Core.List.{List, ◌++◌}
use Prim.Native.Nat.{ℕ}
use lib.ListN.{length, drop}
use Rattle.mahrullis.specs.PurseReports.{pending_entries, PurseRunBeginInto}
use Rattle.mahrullis.proofs.PurseWays.{first_purses, whole_told, third_short, then_short, then_long, run_begin_into, run_refused_into}
use Rattle.mahrullis.proofs.calls.mahrullis_purse_run_begin.Goals.{
  then-not-told_whole-via-then-not-told_whole,
  then-not-told_whole-via-else-not-told_whole+then-pending-lt-PENDING_ENTRIES,
}
use Rattle.mahrullis.proofs.calls.mahrullis_purse_run_begin.Goals as goal

pub returns-then-not-told_whole : goal.returns-then-not-told_whole
returns-then-not-told_whole c =
    elim c.then-not-told_whole.branch [
      | then-not-told_whole-via-then-not-told_whole w ↦ PurseRunBeginInto.untold (third_short _ pending_entries (length c.args.pending.now) (sym w.if-not-told_whole.ensures))
      | then-not-told_whole-via-else-not-told_whole+then-pending-lt-PENDING_ENTRIES w ↦
          PurseRunBeginInto.untold (then_short _ pending_entries (length c.args.pending.now) (sym w.if-not-told_whole.ensures) w.if-pending-lt-PENDING_ENTRIES.true)
    ]

pub slice_bounds-begin_run-end-2 : goal.slice_bounds-begin_run-end-2
slice_bounds-begin_run-end-2 c = sym (first_purses c.args.purses.now (whole_told c.args.purses.now c.args.report.now (sym c.if-not-told_whole.ensures)).0)

pub begin_run-begun-requires : goal.begin_run-begun-requires
begin_run-begun-requires c = first_purses c.args.purses.now (whole_told c.args.purses.now c.args.report.now (sym c.if-not-told_whole.ensures)).0

pub returns-in-Ok : goal.returns-in-Ok
returns-in-Ok c =
    run_begin_into _ _ _ _ _ _ _ _ _ _ _ _ _ _ _ _ _ _ _ c.args.pending.now _
    (then_long _ pending_entries (length c.args.pending.now) (sym c.if-not-told_whole.ensures) c.if-pending-lt-PENDING_ENTRIES.false) refl c.in-Ok.begun c.in-Ok.ensures
    (c.put_report.ensures.answers, c.put_report.ensures.holds) (c.put_pending.ensures ∙ ap (λ (w : List ℕ). w ++ drop pending_entries c.args.pending.now) c.left_of.ensures)

pub returns-in-Err : goal.returns-in-Err
returns-in-Err c =
    run_refused_into _ _ _ _ _ _ _ _ _ _ _ _ _ _ _ _ _ _ _ c.args.pending.now _
    (then_long _ pending_entries (length c.args.pending.now) (sym c.if-not-told_whole.ensures) c.if-pending-lt-PENDING_ENTRIES.false) refl c.in-Err.refusal c.in-Err.ensures
    c.put_refusal.ensures c.put_pending-in-Err.ensures
