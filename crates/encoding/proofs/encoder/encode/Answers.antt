-- `encode` refuses as the shared checks do; else the block is coded, by what its parts ensure. The two answers come first, so that a
-- promise that is not kept is what a check names first.
use mathlib.Core.Path.{refl}
use lib.ListN.{length}
use Rattle.std.proofs.lemmas.Result.{err_from_is_err_and}
use Rattle.encoding.proofs.CodedBlocks.{EncodeLegal, encode_legal, checks_room, octets_known, checks_written, encode_refuses, encode_accepts}
use Rattle.encoding.proofs.encoder.encode.Goals as goal
use Rattle.encoding.proofs.encoder.encode.Goals.{In_ok-encode_parameters}

legal : (c : In_ok-encode_parameters) → EncodeLegal c.args.code.strength c.args.code.depth c.args.code.fill (length c.args.frame.now) (length c.args.block.now)
legal c = encode_legal _ _ _ _ _ c.in_ok-encode_parameters.ensures

-- refused for a parameter
pub returns-in_err-encode_parameters : goal.returns-in_err-encode_parameters
returns-in_err-encode_parameters c =
    let p = err_from_is_err_and c.from_residual.result c.from_residual.ensures.1 in
    rw (p.1, p.2) (encode_refuses _ _ _ _ _ _ _ c.in_err-encode_parameters.ensures refl)

-- accepted
pub returns : goal.returns
returns c = encode_accepts _ _ _ _ _ _ _ c.in_ok-encode_parameters.ensures (search octets_known) (search checks_written) (search)

pub put_checks-requires : goal.put_checks-requires
put_checks-requires c = checks_room _ _ _ c.args.frame.now c.args.block.now _ (legal (goal.at.put_checks-requires c).In_ok-encode_parameters) c.copy_front.ensures
