use mathlib.Core.Path.{refl}
use Rattle.mahrullis.specs.PurseReports.{CreditInto}
use Rattle.mahrullis.proofs.PurseWays.{credit_into}
use Rattle.mahrullis.proofs.calls.mahrullis_credit.Goals as goal

pub returns-then-purses-lt-PURSE_ENTRIES : goal.returns-then-purses-lt-PURSE_ENTRIES
returns-then-purses-lt-PURSE_ENTRIES c = CreditInto.untold c.if-purses-lt-PURSE_ENTRIES.true

pub returns-in-Ok : goal.returns-in-Ok
returns-in-Ok c = credit_into c.args.journal.now c.args.p c.args.amount c.args.purses.now _ _ _ c.if-purses-lt-PURSE_ENTRIES.false refl c.args.n _ _ c.in-Ok.ensures refl

pub returns-in-Err : goal.returns-in-Err
returns-in-Err c = credit_into c.args.journal.now c.args.p c.args.amount c.args.purses.now _ _ _ c.if-purses-lt-PURSE_ENTRIES.false refl c.args.n _ _ c.in-Err.ensures c.number_of_refusal.ensures
