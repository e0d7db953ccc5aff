use mathlib.Core.Path.{refl}
use Rattle.mahrullis.specs.PurseReports.{ShowInto}
use Rattle.mahrullis.proofs.PurseWays.{show_into}
use Rattle.mahrullis.proofs.calls.mahrullis_purses.Goals as goal

pub returns-then-purses-lt-PURSE_ENTRIES : goal.returns-then-purses-lt-PURSE_ENTRIES
returns-then-purses-lt-PURSE_ENTRIES c = ShowInto.untold c.if-purses-lt-PURSE_ENTRIES.true

pub returns-in-Ok : goal.returns-in-Ok
returns-in-Ok c = show_into c.args.journal.now c.args.purses.now _ _ _ _ _ c.if-purses-lt-PURSE_ENTRIES.false c.in-Ok.ensures refl refl

pub returns-in-Err : goal.returns-in-Err
returns-in-Err c = show_into c.args.journal.now c.args.purses.now _ _ _ _ _ c.if-purses-lt-PURSE_ENTRIES.false c.in-Err.ensures refl refl
