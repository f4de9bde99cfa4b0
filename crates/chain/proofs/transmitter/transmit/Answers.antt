-- `transmit` refuses as the shared checks do, and encode then refuses nothing; the coded part comes back, and again randomised, behind the marker.
use Rattle.std.proofs.lemmas.Result.{err_from_is_err_and}
use Rattle.chain.proofs.Transmissions.{transmit_refuses, never_refused, transmit_accepts}
use Rattle.chain.proofs.transmitter.transmit.Goals as goal

pub returns-in_err-transmit_parameters : goal.returns-in_err-transmit_parameters
returns-in_err-transmit_parameters c =
    let p = err_from_is_err_and c.from_residual.result c.from_residual.ensures.1 in
    rw (p.1, p.2) (transmit_refuses _ _ _ _ _ _ _ c.in_err-transmit_parameters.ensures)

pub returns-in_err-encode : goal.returns-in_err-encode
returns-in_err-encode c = absurd (never_refused _ _ _ c.args.randomised _ _ c.in_ok-transmit_parameters.ensures _ _ c.in_err-encode.ensures)

pub returns : goal.returns
returns c = transmit_accepts _ _ _ _ _ _ c.in_ok-transmit_parameters.ensures _ c.in_ok-encode.ensures _ c.copy_front.ensures _ c.randomise_if.ensures
