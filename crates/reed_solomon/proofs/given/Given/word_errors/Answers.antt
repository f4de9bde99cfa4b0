-- `word_errors`: the outcome of what the word differs by from the codeword that its row makes is the word's own.
use Rattle.reed_solomon.proofs.WordRepairs.{fits, word_outcome}
use Rattle.reed_solomon.proofs.given.Given.word_errors.Goals as goal

pub returns : goal.returns
returns c = word_outcome _ _ _ _ _ c.args.w (fits c.args.self.now) c.args.row.now _ c.requires.1 c.difference-rest.ensures _ _ _ c.find_errors.ensures
