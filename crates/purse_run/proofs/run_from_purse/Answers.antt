use Rattle.std.proofs.lemmas.Result.{err_from_is_err_and}
use Rattle.purse_run.proofs.Laws.{refused_as, runs_as}
use Rattle.purse_run.proofs.run_from_purse.Goals as goal

pub returns-in_err-begun : goal.returns-in_err-begun
returns-in_err-begun c =
    let p = err_from_is_err_and c.from_residual.result c.from_residual.ensures.1 in
    rw (p.1, p.2) (refused_as _ _ _ _ _ _ _ _ _ _ _ _ _ _ _ _ c.in_err-begun.field-0.0 c.in_err-begun.ensures)

pub returns : goal.returns
returns c = runs_as _ _ _ _ _ _ _ _ _ _ _ _ _ _ _ _ _ _ _ c.in_ok-begun.ensures c.charge.ensures
