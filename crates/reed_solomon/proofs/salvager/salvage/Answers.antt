-- `salvage` refuses before it works, gives a block that is coded as it stands back as it is, or mends each word, copies the frame out and lists the changes.
use native.Mathlib.Omega.{arith}
use Rattle.std.proofs.lemmas.Result.{err_from_is_err_and}
use Rattle.reed_solomon.proofs.Salvages.{salvage_refuses, salvages, salvages_coded, salvage_decodes}
use Rattle.reed_solomon.proofs.Deliveries.{coded_room, checks_of_words}
use Rattle.reed_solomon.proofs.salvager.salvage.Goals as goal

pub returns-in_err-salvage_parameters : goal.returns-in_err-salvage_parameters
returns-in_err-salvage_parameters c =
    let p = err_from_is_err_and c.from_residual.result c.from_residual.ensures.1 in
    rw (p.1, p.2) (salvage_refuses _ _ _ _ _ _ _ _ c.in_err-salvage_parameters.ensures)

pub has_checks-requires : goal.has_checks-requires
has_checks-requires c = let room = coded_room _ _ _ _ _ _ (salvage_decodes _ _ _ _ _ _ _ c.in_ok-salvage_parameters.ensures) in (room.2, room.3)

pub returns-then-has_checks : goal.returns-then-has_checks
returns-then-has_checks c =
    salvages_coded _ _ _ _ _ _ _ c.in_ok-salvage_parameters.ensures (λ m. (c.type_inv.block m).fits) _ c.front_rows-rows.ensures (c.has_checks.ensures c.if-has_checks.true) _ _ c.all_marked-marks.ensures c.copy_front.ensures

pub salvage_words-requires : goal.salvage_words-requires
salvage_words-requires c = (omega arith, checks_of_words _ _ _ _ _ c.args.frame.now _ (salvage_decodes _ _ _ _ _ _ _ c.in_ok-salvage_parameters.ensures) (λ m. (c.type_inv.block m).fits) c.front_rows-rows.ensures)

pub returns : goal.returns
returns c = salvages _ _ _ _ _ _ _ c.in_ok-salvage_parameters.ensures _ _ _ c.salvage_words.ensures.0 c.salvage_words.ensures.1 _ _ _ c.copy_front-2.ensures c.put_changes-entries.ensures
