-- `receive`: each return cites the law for its stage, with what the checks, the marker test and the decoding ensure.
use mathlib.Core.Path.{◌≡◌, refl, ◌∙◌}
use denote.Enum.Bare.{sameb}
use Rattle.marker.specs.contracts.Form.{the_type}
use Rattle.marker.specs.declared.Form.{Form}
use Rattle.marker.specs.declared.Form.TheVariants.{True, Complement}
use Rattle.chain.specs.Outcome.{complemented}
use Rattle.std.proofs.lemmas.Result.{err_from_is_err_and}
use Rattle.chain.proofs.Receptions.{stopped_at_parameters, stopped_at_marker, as_decoded}
use Rattle.chain.proofs.receiver.receive.Goals as goal

pub returns-in_err-receive_parameters : goal.returns-in_err-receive_parameters
returns-in_err-receive_parameters c =
    let p = err_from_is_err_and c.from_residual.result c.from_residual.ensures.1 in
    rw (p.1, p.2) (stopped_at_parameters _ _ _ _ _ _ _ _ _ c.in_err-receive_parameters.ensures)

pub returns-in_err-near : goal.returns-in_err-near
returns-in_err-near c =
    let p = err_from_is_err_and c.from_residual-in_err-near.result c.from_residual-in_err-near.ensures.1 in
    rw (p.1, p.2) (stopped_at_marker _ _ _ _ _ _ _ _ c.in_ok-receive_parameters.ensures _ c.in_err-near.ensures)

-- Equal to the complement is what the form of a complemented marker is.
said : (form : Form) → sameb the_type form Complement ≡ complemented form
said True = refl
said Complement = refl

pub returns : goal.returns
returns c = as_decoded _ _ _ _ _ _ _ _ c.in_ok-receive_parameters.ensures c.in_ok-near.near c.in_ok-near.ensures _ (c.eq-inverted.ensures ∙ said c.in_ok-near.near.form) _ _ _ _ _ c.decode_part.ensures
