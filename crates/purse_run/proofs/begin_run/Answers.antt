use mathlib.Core.Path.{refl, sym}
use Rattle.std.proofs.lemmas.Result.{err_from_is_err_and}
use Rattle.purse_run.proofs.Laws.{journal_refused, purse_refused, full_refused, ran_as}
use Rattle.purse_run.proofs.begin_run.Goals as goal

pub returns-in_err-place : goal.returns-in_err-place
returns-in_err-place c =
    let p = err_from_is_err_and c.from_residual.result c.from_residual.ensures.1 in
    rw (p.1, p.2)
    (journal_refused _ _ _ _ _ _ _ _ _ _ _ _ _ _ _ c.in_err-place.ensures (record { tree_same = refl; works_same = refl; stores_same = refl; held_same = refl }))

pub returns-then-p-ge-PURSES : goal.returns-then-p-ge-PURSES
returns-then-p-ge-PURSES c =
    purse_refused _ _ _ _ _ _ _ _ _ _ _ _ _ _ _ c.in_ok-place.ensures c.if-p-ge-PURSES.true
    (record { tree_same = refl; works_same = refl; stores_same = refl; held_same = refl })

pub returns-then-not-has_room : goal.returns-then-not-has_room
returns-then-not-has_room c =
    full_refused _ _ _ _ _ _ _ _ _ _ _ _ _ _ _ c.in_ok-place.ensures c.if-p-ge-PURSES.false (sym c.if-not-has_room.ensures)
    (record { tree_same = refl; works_same = refl; stores_same = refl; held_same = refl })

pub returns : goal.returns
returns c =
    ran_as _ _ _ _ _ _ _ _ _ _ _ _ _ _ _ c.in_ok-place.ensures _ c.run-report.auto.output c.if-p-ge-PURSES.false (sym c.if-not-has_room.ensures) _ _ c.fuel_given-given.ensures c.entry.ensures
    c.run-report.ensures
