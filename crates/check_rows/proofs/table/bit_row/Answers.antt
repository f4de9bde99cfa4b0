-- `bit_row` copies one octet after another.
use Rattle.std.proofs.Common.{rules, arith, ◌+◌, ◌*◌, get_or}
use Rattle.octets.proofs.Made.{made_at}
use Rattle.check_rows.proofs.table.bit_row.Goals as goal

pub returns : goal.returns
returns c =
    record {
      size = c.from_fn.ensures.items.long;
      octet = λ j h. made_at _ (λ k. get_or c.args.rows.now (32 * c.args.bit + k) 0) _ _ 0 32 (λ q k y called. search rules) c.from_fn.ensures.items.each j (omega arith) (omega arith);
    }
