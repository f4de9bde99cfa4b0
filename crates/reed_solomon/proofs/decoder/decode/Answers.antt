-- `decode` refuses before it works, delivers a block that is coded as it stands, or repairs the words into a local list and copies the frame out of it once the last word is good.
use native.Mathlib.Omega.{arith}
use Rattle.std.proofs.lemmas.Result.{err_from_is_err_and}
use Rattle.reed_solomon.proofs.Deliveries.{refuses_parameter, refuses_word, delivers, delivers_coded, coded_room, checks_of_words}
use Rattle.reed_solomon.proofs.decoder.decode.Goals as goal

pub returns-in_err-decode_parameters : goal.returns-in_err-decode_parameters
returns-in_err-decode_parameters c =
    let p = err_from_is_err_and c.from_residual.result c.from_residual.ensures.1 in
    rw (p.1, p.2) (refuses_parameter _ _ _ _ _ _ _ c.in_err-decode_parameters.ensures)

pub has_checks-requires : goal.has_checks-requires
has_checks-requires c = let room = coded_room _ _ _ _ _ _ c.in_ok-decode_parameters.ensures in (room.2, room.3)

pub returns-then-has_checks : goal.returns-then-has_checks
returns-then-has_checks c =
    delivers_coded _ _ _ _ _ _ c.in_ok-decode_parameters.ensures (λ m. (c.type_inv.block m).fits) _ c.front_rows-rows.ensures (c.has_checks.ensures c.if-has_checks.true) _ c.copy_front.ensures

pub repair_words-requires : goal.repair_words-requires
repair_words-requires c = (omega arith, checks_of_words _ _ _ _ _ c.args.frame.now _ c.in_ok-decode_parameters.ensures (λ m. (c.type_inv.block m).fits) c.front_rows-rows.ensures)

pub returns-in_err-decoding : goal.returns-in_err-decoding
returns-in_err-decoding c =
    let p = err_from_is_err_and c.from_residual-in_err-decoding.result c.from_residual-in_err-decoding.ensures.1 in
    let lost = c.in_err-decoding.ensures.words in
    rw (p.1, p.2, lost.1) (refuses_word _ _ _ _ _ _ c.in_ok-decode_parameters.ensures lost.0 lost.2)

pub returns : goal.returns
returns c = delivers _ _ _ _ _ _ c.in_ok-decode_parameters.ensures _ _ _ c.in_ok-decoding.ensures.words c.in_ok-decoding.ensures.size _ c.copy_front-2.ensures
