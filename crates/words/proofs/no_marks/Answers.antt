-- `no_marks`: 255 zeros, none of which counts.
use mathlib.Core.Path.{refl}
use Rattle.codewords.specs.Locators.{weight}
use Rattle.words.proofs.no_marks.Goals as goal

pub returns : goal.returns
unfolding weight
returns c = (refl, refl)
