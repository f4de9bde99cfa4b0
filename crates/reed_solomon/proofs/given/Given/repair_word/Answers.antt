-- `repair_word`: the word's errors are looked for, and its information symbols are put, repaired, into their places.
use mathlib.Core.Path.{refl}
use mathlib.Core.Bool.{true, false}
use Rattle.reed_solomon.proofs.WordRepairs.{fits, word_lost, word_found}
use Rattle.reed_solomon.proofs.given.Given.repair_word.Goals as goal

pub returns-in_err-found : goal.returns-in_err-found
returns-in_err-found c = rw c.from_residual.ensures (word_lost _ _ _ _ _ c.args.w (fits c.args.self.now) c.args.frame.now false _ _ c.in_err-found.ensures refl)

pub returns : goal.returns
returns c = word_found _ _ _ _ _ c.args.w (fits c.args.self.now) c.args.frame.now true _ _ c.in_ok-found.ensures refl _ c.put_repaired.ensures
