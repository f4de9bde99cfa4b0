-- `line_octet` converts an octet; zero is zero on the line too.
use borrow.Author.Rules.{rules}
use Rattle.words.proofs.Conversions.{to_line_zero_is}
use Rattle.words.proofs.line.line_octet.Goals as goal

pub returns-then-error-eq0 : goal.returns-then-error-eq0
returns-then-error-eq0 c = to_line_zero_is _ (search rules)
