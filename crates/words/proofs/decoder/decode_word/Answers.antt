-- `decode_word`: too many marks, or nothing to correct, or errors are looked for.
use mathlib.Core.Path.{refl}
use native.Mathlib.Omega.{arith}
use Rattle.words.proofs.Arrays.{zero-at}
use Rattle.words.proofs.Decisions.{too_many_by, unchanged_by}
use Rattle.words.proofs.decoder.decode_word.Goals as goal

pub returns-then-marks-code : goal.returns-then-marks-code
returns-then-marks-code c = (omega arith, too_many_by _ _ _ _ (omega arith) (omega arith) (omega arith) _ _ _ _ refl refl (zero-at 255) (omega arith))

pub returns-then-untouched : goal.returns-then-untouched
returns-then-untouched c =
    let clear = c.untouched.ensures c.if-untouched.true in
    (omega arith, unchanged_by _ _ _ _ (omega arith) (omega arith) (omega arith) _ _ _ _ refl refl refl (zero-at 255) (omega (arith, clear.0)) clear.1)
