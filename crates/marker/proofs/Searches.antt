-- What the search's checks, passed, say of the numbers.
use Rattle.std.proofs.Common.{ℕ, ◌*◌, ◌≤◌, inl, inr, arith}
use Rattle.refusals.specs.Order.{FirstOf}
use Rattle.refusals.specs.Calls.{search_order}

pub legal_given : {t stream start : ℕ} → FirstOf (search_order t stream start) 0 → (t ≤ 3) × (stream ≤ 65536) × (start ≤ 8 * stream)
legal_given (inl due) = absurd (omega arith)
legal_given (inr (legal, inl due)) = absurd (omega arith)
legal_given (inr (legal, inr (short, inl due))) = absurd (omega arith)
legal_given (inr (legal, inr (short, inr (inside, e)))) = (omega arith, omega arith, omega arith)
