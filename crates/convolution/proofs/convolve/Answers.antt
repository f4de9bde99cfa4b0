-- `convolve` meets its contract: as the checks refuse, or by what `run_on` ensures.
use Rattle.std.proofs.lemmas.Result.{err_from_is_err_and}
use Rattle.convolution.proofs.Outcomes.{refused_outcome}
use Rattle.convolution.proofs.convolve.Goals as goal

pub returns-in_err-convolve_parameters : goal.returns-in_err-convolve_parameters
returns-in_err-convolve_parameters c =
    let p = err_from_is_err_and c.from_residual.result c.from_residual.ensures.1 in
    rw (p.1, p.2) (refused_outcome c.args.rate c.args.state.now c.args.octets.now c.args.symbols.now _ c.in_err-convolve_parameters.ensures)
