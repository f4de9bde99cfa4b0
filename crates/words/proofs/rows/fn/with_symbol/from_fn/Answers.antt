-- `with_symbol` has the product in the order of the factors that is fast.
use mathlib.Core.Path.{sym, ap, ◌∙◌}
use Prim.Native.Nat.{ℕ}
use Rattle.field.specs.Field.{◌⊕◌}
use Rattle.field.proofs.Sum.{⊕_is}
use Rattle.field.proofs.Product.{·_comm}
use Rattle.words.specs.Working.{horner_at}
use Rattle.words.proofs.rows.fn.with_symbol.from_fn.Goals as goal

pub returns : goal.returns
unfolding horner_at
returns g c = sym (⊕_is _ _) ∙ ap (λ (x : ℕ). x ⊕ c.captures.symbol) (c.mul.ensures ∙ ·_comm _ _)
