-- `close` refuses as the shared checks do; else the checks of the rows are written, by what its parts ensure. The two answers come first,
-- so that a promise that is not kept is what a check names first.
use Rattle.std.proofs.lemmas.Result.{err_from_is_err_and}
use Rattle.frame_portions.proofs.PortionSteps.{CloseLegal, close_legal, close_fits, close_refuses, close_accepts}
use Rattle.frame_portions.proofs.Progress.close.Goals as goal

-- refused for a parameter or for its place
pub returns-in_err-close_parameters : goal.returns-in_err-close_parameters
returns-in_err-close_parameters c =
    let p = err_from_is_err_and c.from_residual.result c.from_residual.ensures.1 in
    rw (p.1, p.2) (close_refuses _ _ _ _ _ _ c.in_err-close_parameters.ensures)

-- accepted
pub returns : goal.returns
returns c =
    let legal : CloseLegal _ _ _ _ _ _ = close_legal _ _ _ _ _ _ c.in_ok-close_parameters.ensures in
    close_accepts _ _ _ _ _ _ _ c.in_ok-close_parameters.ensures (c.write_checks.ensures.when_fit (close_fits _ _ _ _ _ _ legal))
