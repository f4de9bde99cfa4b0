-- `moved_up` copies all octets but the first; behind them the zero stays.
use borrow.Author.Rules.{rules}
use Rattle.check_rows.proofs.Steps.{moved_end}
use Rattle.check_rows.proofs.step.moved_up.Goals as goal

pub returns : goal.returns
returns c = moved_end c.args.row _ (search rules) c.copy_from_slice.ensures.after
