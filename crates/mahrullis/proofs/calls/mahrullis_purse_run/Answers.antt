use mathlib.Core.Path.{refl, sym}
use lib.ListN.{length}
use Rattle.std.specs.Prelude.{Ok, Err}
use Rattle.mahrullis.specs.PurseReports.{PurseRunInto}
use Rattle.mahrullis.proofs.PurseWays.{first_purses, whole_told, third_short, then_short, then_long, run_into}
use Rattle.mahrullis.proofs.calls.mahrullis_purse_run.Goals.{
  then-not-told_whole-via-then-not-told_whole,
  then-not-told_whole-via-else-not-told_whole+then-bank-held,
}
use Rattle.mahrullis.proofs.calls.mahrullis_purse_run.Goals as goal

pub returns-then-not-told_whole : goal.returns-then-not-told_whole
returns-then-not-told_whole c =
    elim c.then-not-told_whole.branch [
      | then-not-told_whole-via-then-not-told_whole w ↦ PurseRunInto.untold (third_short _ (length c.args.held.now) (length c.args.bank.now) (sym w.if-not-told_whole.ensures))
      | then-not-told_whole-via-else-not-told_whole+then-bank-held w ↦
          PurseRunInto.untold (then_short _ (length c.args.held.now) (length c.args.bank.now) (sym w.if-not-told_whole.ensures) w.if-bank-held.true)
    ]

pub slice_bounds-run_from_purse-end-2 : goal.slice_bounds-run_from_purse-end-2
slice_bounds-run_from_purse-end-2 c = sym (first_purses c.args.purses.now (whole_told c.args.purses.now c.args.report.now (sym c.if-not-told_whole.ensures)).0)

pub run_from_purse-answer-requires : goal.run_from_purse-answer-requires
run_from_purse-answer-requires c = (first_purses c.args.purses.now (whole_told c.args.purses.now c.args.report.now (sym c.if-not-told_whole.ensures)).0, c.if-bank-held.false)

pub returns-in-Ok : goal.returns-in-Ok
returns-in-Ok c =
    run_into _ _ _ _ _ _ _ _ _ _ _ _ _ _ _ _ _ _ _ c.args.n c.args.bank.now (Ok c.in-Ok.said) _ _
    (then_long _ (length c.args.held.now) (length c.args.bank.now) (sym c.if-not-told_whole.ensures) c.if-bank-held.false) refl c.in-Ok.ensures
    (c.put_report.ensures.answers, c.put_report.ensures.holds)

pub returns-in-Err : goal.returns-in-Err
returns-in-Err c =
    run_into _ _ _ _ _ _ _ _ _ _ _ _ _ _ _ _ _ _ _ c.args.n c.args.bank.now (Err c.in-Err.refusal) _ _
    (then_long _ (length c.args.held.now) (length c.args.bank.now) (sym c.if-not-told_whole.ensures) c.if-bank-held.false) refl c.in-Err.ensures
    c.put_refusal.ensures
