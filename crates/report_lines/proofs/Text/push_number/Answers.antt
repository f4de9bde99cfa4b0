-- `push_number`: the digits that the library spells are the number in decimal, and they are added as octets are.
use mathlib.Core.List.{List}
use mathlib.Core.Path.{◌∙◌, subst}
use Prim.Native.Nat.{ℕ}
use borrow.Author.Rules.{rules}
use Rattle.report_lines.specs.Working.{Added}
use Rattle.report_lines.proofs.Numerals.{printed}
use Rattle.report_lines.proofs.Text.push_number.Goals as goal

pub returns : goal.returns
returns c =
    subst (λ (more : List ℕ). Added c.args.self.now more c.push.new.self)
    (c.decimal-k.ensures.digits ∙ printed c.decimal-k.result c.args.number (search rules) c.decimal-k.ensures.len)
    c.push.ensures
