-- `outgoing` answers checks 1 to 3, then the lengths.
use mathlib.Core.Path.{ap}
use Prim.Native.Nat.{ℕ, ◌+◌}
use Rattle.refusals.proofs.Verdicts.{after_words, same_lengths}
use Rattle.refusals.proofs.checks.outgoing.Goals as goal

pub returns : goal.returns
returns c = after_words _ _ _ _ c.in_ok-check.ensures (same_lengths _ _ _ _ _ _ _ c.frame_length.ensures (ap (λ (n : ℕ). n + c.args.front) c.block_length.ensures.0) c.lengths.ensures)
