-- `term` reads a zero past the end.
use borrow.Author.Rules.{rules}
use Rattle.words.proofs.ErrorsPlaced.{past_terms, within_terms}
use Rattle.words.proofs.errors.term.Goals as goal

pub returns-then-j-s : goal.returns-then-j-s
returns-then-j-s c = within_terms _ _

pub returns-else-j-s : goal.returns-else-j-s
returns-else-j-s c = past_terms _ _ (search rules)
