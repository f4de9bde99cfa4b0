-- `with_bit` adds the row of one bit through a mask that is zero where the bit is clear.
use Rattle.std.proofs.Common.{rules, arith, refl, ◌∙◌, ◌+◌, ◌*◌, ◌-◌, ◌/◌, ◌^◌, get_or}
use lib.Bits.{bit_and, bit_xor}
use Rattle.octets.proofs.Made.{made_at}
use Rattle.check_rows.proofs.Steps.{added_masked}
use Rattle.check_rows.proofs.step.with_bit.Goals as goal

pub returns : goal.returns
returns c =
    let args : _ = c.args in
    record {
      size = c.from_fn.ensures.items.long;
      octet = λ j h. made_at _ (λ k. bit_xor (get_or args.row k 0) (bit_and c.mask_of-mask.result (get_or args.rows.now (32 * args.bit + k) 0))) _ _ 0 32
          (λ q k y called. search rules) c.from_fn.ensures.items.each j (omega arith) (omega arith)
          ∙ added_masked (args.feedback / 2 ^ (7 - args.bit)) _ _ _ _ c.mask_of-mask.ensures refl;
    }
