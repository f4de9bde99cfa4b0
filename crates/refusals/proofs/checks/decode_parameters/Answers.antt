-- `decode_parameters` answers checks 1 to 4, then the lengths.
use Rattle.refusals.proofs.Verdicts.{after-allowance, same_lengths}
use Rattle.refusals.proofs.checks.decode_parameters.Goals as goal

pub returns : goal.returns
returns c = after-allowance _ _ _ _ _ c.in_ok-allowed_parameters.ensures (same_lengths _ _ _ _ c.args.block c.args.frame _ c.block_length.ensures.0 c.frame_length.ensures c.lengths.ensures)
