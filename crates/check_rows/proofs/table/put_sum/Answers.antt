-- `put_sum` writes the octets of the sum; what it reads stands before them.
use Rattle.std.proofs.Common.{rules, arith, sym, ◌∙◌, ◌+◌, ◌*◌, ◌<◌, ◌≡◌, ℕ, get_or}
use lib.Bits.{bit_xor}
use Rattle.field.specs.Field.{◌⊕◌}
use Rattle.field.proofs.Sum.{⊕_is}
use Rattle.std.proofs.lemmas.Slice.{overwrites}
use Rattle.octets.proofs.Made.{made_at}
use Rattle.check_rows.proofs.Tables.{sum_put}
use Rattle.check_rows.proofs.table.put_sum.Goals as goal

pub returns : goal.returns
returns c =
    let args : _ = c.args in
    let sum : (j : ℕ) → j < 32 → get_or c.from_fn-sum.result j 0 ≡ get_or args.table.now (32 * args.from + j) 0 ⊕ get_or args.row j 0 =
    λ j h. made_at _ (λ k. bit_xor (get_or args.table.now (32 * args.from + k) 0) (get_or args.row k 0)) _ _ 0 32 (λ q k y called. search rules) c.from_fn-sum.ensures.items.each j (omega arith) (omega arith)
    ∙ sym (⊕_is _ _) in
    sum_put _ _ _ _ _ _ (omega arith) (omega arith) c.from_fn-sum.ensures.items.long sum c.copy_from_slice.ensures.after (search (rules, overwrites))
