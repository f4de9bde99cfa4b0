-- The table's row of the feedback is added.
use Rattle.std.proofs.Common.{rules, arith, sym, ◌∙◌, ◌+◌, ◌*◌, get_or}
use lib.Bits.{bit_xor}
use Rattle.field.proofs.Sum.{⊕_is}
use Rattle.octets.proofs.Made.{made_at}
use Rattle.check_rows.proofs.step.ArrayU88192FeedbackRows.added_to.Goals as goal

pub returns : goal.returns
returns c =
    let args : _ = c.args in
    record {
      size = c.from_fn.ensures.items.long;
      octet = λ j h. made_at _ (λ k. bit_xor (get_or args.row k 0) (get_or args.self.now (32 * args.feedback + k) 0)) _ _ 0 32
          (λ q k y called. search rules) c.from_fn.ensures.items.each j (omega arith) (omega arith)
          ∙ sym (⊕_is _ _);
    }
