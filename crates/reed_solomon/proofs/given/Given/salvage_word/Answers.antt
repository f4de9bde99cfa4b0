-- `salvage_word`: the word's errors are looked for, and all its symbols are put, with their errors added, into their places.
use mathlib.Core.Path.{refl}
use mathlib.Core.Bool.{true, false}
use Rattle.reed_solomon.proofs.WordRepairs.{fits}
use Rattle.reed_solomon.proofs.SalvagedWords.{word_mended, word_kept}
use Rattle.reed_solomon.proofs.given.Given.salvage_word.Goals as goal

pub returns-in-Some : goal.returns-in-Some
returns-in-Some c = word_mended _ _ _ _ _ c.args.w (fits c.args.self.now) true _ _ c.in-Some.ensures c.args.mended.now _ c.put_repaired.ensures refl

pub returns-in-None : goal.returns-in-None
returns-in-None c = word_kept _ _ _ _ _ c.args.w (fits c.args.self.now) false _ _ c.in-None.ensures c.args.mended.now _ c.put_repaired-in-None.ensures refl
