use mathlib.Core.Bool.{true, false}
use mathlib.Core.Path.{sym}
use Rattle.std.proofs.lemmas.Result.{err_from_is_err_and}
use Rattle.purses.proofs.Calls.{tells, journal_refused, purse_refused, full_refused, credit_begun}
use Rattle.purses.proofs.begin_credit.Goals as goal

pub returns-in_err-place : goal.returns-in_err-place
returns-in_err-place c =
    let p = err_from_is_err_and c.from_residual.result c.from_residual.ensures.1 in
    rw (p.1, p.2) (journal_refused c.args.journal.now c.args.p c.args.amount _ _ c.in_err-place.ensures)

pub returns-then-is_none : goal.returns-then-is_none
returns-then-is_none c =
    purse_refused c.args.journal.now c.args.p c.args.amount _ _ c.in_ok-place.ensures (tells _ _ _ c.holds_after.result false c.holds_after.ensures c.if-is_none.ensures)

pub returns-then-not-has_room : goal.returns-then-not-has_room
returns-then-not-has_room c =
    full_refused c.args.journal.now c.args.p c.args.amount _ _ c.in_ok-place.ensures (tells _ _ _ c.holds_after.result true c.holds_after.ensures c.if-is_none.ensures)
    (sym c.if-not-has_room.ensures)

pub returns : goal.returns
returns c =
    credit_begun c.args.journal.now c.args.p c.args.amount _ _ c.in_ok-place.ensures (tells _ _ _ c.holds_after.result true c.holds_after.ensures c.if-is_none.ensures)
    (sym c.if-not-has_room.ensures)
