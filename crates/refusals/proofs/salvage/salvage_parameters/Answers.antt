-- `salvage_parameters` answers decode's checks, then the length of the list.
use Rattle.std.proofs.lemmas.Result.{err_from_is_err_and}
use Rattle.refusals.specs.Calls.{decode_parameters}
use Rattle.refusals.proofs.Verdicts.{stopped}
use Rattle.refusals.proofs.salvage.salvage_parameters.Goals as goal

pub returns-in_err-decode_parameters : goal.returns-in_err-decode_parameters
returns-in_err-decode_parameters c =
    let p = err_from_is_err_and c.from_residual.result c.from_residual.ensures.1 in
    rw (p.1, p.2) (stopped _ (decode_parameters _ _ _ _ c.args.block c.args.frame) _ c.in_err-decode_parameters.ensures)
