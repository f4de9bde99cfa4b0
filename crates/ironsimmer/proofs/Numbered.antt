-- Every refusal has a number that is not 0.
use mathlib.Core.Logic.{◌≢◌}
use native.Mathlib.Omega.{arith}
use Rattle.refusals.specs.Numbers.{marker_number, word_number}
use Rattle.refusals.specs.declared.MarkerRefusal.{MarkerRefusal}
use Rattle.refusals.specs.declared.MarkerRefusal.TheVariants as marker
use Rattle.refusals.specs.declared.WordRefusal.{WordRefusal}
use Rattle.refusals.specs.declared.WordRefusal.TheVariants as word
use Rattle.refusals.proofs.Verdicts.{parameter_nonzero}
use Rattle.chain.specs.declared.Stage.{Stage}
use Rattle.chain.specs.declared.Stage.TheVariants as stage
use Rattle.chain.specs.Outcome.{stage_number}

pub marker-nonzero : (r : MarkerRefusal) → marker_number r ≢ 0
marker-nonzero (marker.Parameters p) = parameter_nonzero p
marker-nonzero (marker.WrongBits wrong) = λ e. absurd (omega arith)

pub word-nonzero : (r : WordRefusal) → word_number r ≢ 0
word-nonzero (word.Parameters p) = parameter_nonzero p
word-nonzero (word.NoCodeword w) = λ e. absurd (omega arith)

pub stage-nonzero : (s : Stage) → stage_number s ≢ 0
stage-nonzero (stage.Parameters p) = parameter_nonzero p
stage-nonzero (stage.Marker r) = marker-nonzero r
stage-nonzero (stage.Word r) = word-nonzero r
