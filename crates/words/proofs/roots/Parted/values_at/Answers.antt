-- `values_at` has the parts of lambda at the cubes, and from them three values in each place.
use Rattle.words.proofs.Tables.{locators_listed, squares_listed, cubes_listed}
use Rattle.words.proofs.Thirds.{values_three}
use Rattle.words.proofs.roots.Parted.values_at.Goals as goal

pub returns : goal.returns
returns c =
    values_three c.args.at c.in_thirds-parted.ensures locators_listed squares_listed cubes_listed c.requires
    c.row_from-points.ensures c.row_from-z.ensures c.row_from-square.ensures c.joined.ensures
