-- `put_checks` writes the rows interleaved: the next octet is that of the row whose turn it is, at `check`.
use mathlib.Core.Path.{◌≡◌}
use Prim.Native.Nat.{ℕ, ◌<◌, ◌+◌, ◌*◌}
use lib.ListN.{get_or}
use Rattle.encoding.proofs.Interleaving.{interleaved}
use Rattle.encoding.proofs.encoder.put_checks.Given as goal

abbrev pub invariant-loop-octet : goal.invariant-loop-octet
invariant-loop-octet l =
    (l.turn.depth ≡ l.depth) × (l.octet-index ≡ l.check * l.depth + l.turn.word) × ((n : ℕ) → n < l.octet-index → get_or l.octet-items n 0 ≡ interleaved l.rows l.depth n)
