use mathlib.Core.Path.{refl}
use lib.Dec.{leb}
use lib.ListN.{length}
use Rattle.purse_model.specs.Journal.{purse_count}
use Rattle.mahrullis.specs.PurseReports.{pending_entries, CreditBeginInto}
use Rattle.mahrullis.proofs.PurseWays.{first_short, second_short, credit_begin_into, credit_refused_into}
use Rattle.mahrullis.proofs.calls.mahrullis_credit_begin.Goals.{
  then-purses-lt-PURSE_ENTRIES-via-then-purses-lt-PURSE_ENTRIES,
  then-purses-lt-PURSE_ENTRIES-via-else-purses-lt-PURSE_ENTRIES+then-pending-lt-PENDING_ENTRIES,
}
use Rattle.mahrullis.proofs.calls.mahrullis_credit_begin.Goals as goal

pub returns-then-purses-lt-PURSE_ENTRIES : goal.returns-then-purses-lt-PURSE_ENTRIES
returns-then-purses-lt-PURSE_ENTRIES c =
    elim c.then-purses-lt-PURSE_ENTRIES.branch [
      | then-purses-lt-PURSE_ENTRIES-via-then-purses-lt-PURSE_ENTRIES w ↦
          CreditBeginInto.untold (first_short purse_count (length c.args.purses.now) (leb pending_entries (length c.args.pending.now)) w.if-purses-lt-PURSE_ENTRIES.true)
      | then-purses-lt-PURSE_ENTRIES-via-else-purses-lt-PURSE_ENTRIES+then-pending-lt-PENDING_ENTRIES w ↦
          CreditBeginInto.untold (second_short purse_count (length c.args.purses.now) pending_entries (length c.args.pending.now) w.if-purses-lt-PURSE_ENTRIES.false
          w.if-pending-lt-PENDING_ENTRIES.true)
    ]

pub returns-in-Ok : goal.returns-in-Ok
returns-in-Ok c =
    credit_begin_into c.args.journal.now c.args.p c.args.amount c.args.purses.now _ _ _ c.if-purses-lt-PURSE_ENTRIES.false refl c.args.pending.now _ c.if-pending-lt-PENDING_ENTRIES.false
    c.in-Ok.place c.in-Ok.ensures refl c.put_pending.ensures

pub returns-in-Err : goal.returns-in-Err
returns-in-Err c =
    credit_refused_into c.args.journal.now c.args.p c.args.amount c.args.purses.now _ _ _ c.if-purses-lt-PURSE_ENTRIES.false refl c.args.pending.now _
    c.if-pending-lt-PENDING_ENTRIES.false c.in-Err.refusal c.in-Err.ensures c.number_of_refusal.ensures c.put_pending-in-Err.ensures
