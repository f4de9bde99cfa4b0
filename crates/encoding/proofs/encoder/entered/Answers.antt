-- `entered`: the feedback is an octet, so that what is added for it is all of its product.
use lib.ListN.{get_or}
use mir.Syntax.{w8}
use mir.Val.{Fits}
use Rattle.field.proofs.Sum.{⊕_octet}
use borrow.Author.Rules.{rules}
use Rattle.encoding.proofs.StepTables.{stepped_entered}
use Rattle.encoding.proofs.encoder.entered.Goals as goal

pub returns : goal.returns
returns g c =
    let octet : Fits w8 (get_or c.args.row 0 0) = search rules in
    stepped_entered _ c.args.row _ _ (search rules) (⊕_octet c.args.symbol _ (search rules) octet.fits) c.stepped.ensures
