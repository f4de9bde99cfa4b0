-- `with_coefficient` takes one more coefficient in each of three rows.
use Rattle.std.proofs.Common.{rules}
use Rattle.field.specs.Field.{◌⊕◌}
use Rattle.words.proofs.Made.{filled_made}
use Rattle.words.specs.Working.{scaled_sum_at, product_sum_at}
use Rattle.words.proofs.errors.with_coefficient.Goals as goal

pub returns : goal.returns
unfolding scaled_sum_at product_sum_at ◌⊕◌
returns c = record {
  above_is = filled_made _ _ _ (λ i y q k. search rules) _ _ c.from_fn.ensures.items;
  below_is = filled_made _ _ _ (λ i y q k. search rules) _ _ c.from_fn-2.ensures.items;
  rest_is = c.with_symbol.ensures;
}
