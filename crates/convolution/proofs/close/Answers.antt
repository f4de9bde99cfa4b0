-- `close` meets its contract: as the checks refuse, or by whether symbols are held.
use mathlib.Core.Path.{◌≡◌, ap, ◌∙◌}
use Prim.Native.Nat.{ℕ}
use native.Mathlib.Omega.{arith}
use lib.ListN.{length, take}
use Rattle.convolution.specs.Coder.{low_bits, first_octet, packed}
use Rattle.convolution.specs.Outcome.{held_of}
use Rattle.std.proofs.lemmas.Result.{err_from_is_err_and}
use Rattle.convolution.proofs.Outcomes.{legal_close, close_refused, close_done, closed_none, closed_some}
use Rattle.convolution.proofs.close.Goals as goal
use Rattle.convolution.proofs.close.Goals.{then-holds-gt0, else-holds-gt0}

pub returns-in_err-coder_close_parameters : goal.returns-in_err-coder_close_parameters
returns-in_err-coder_close_parameters c =
    let p = err_from_is_err_and c.from_residual.result c.from_residual.ensures.1 in
    rw (p.1, p.2) (close_refused c.args.rate c.args.state c.args.symbols.now _ c.in_err-coder_close_parameters.ensures)

pub returns : goal.returns
returns c =
    let s = c.args.state in
    let before = c.args.symbols.now in
    let passed = c.in_ok-coder_close_parameters.ensures in
    let known = legal_close c.args.rate s (length before) passed in
    let held : c.if-holds-gt0.symbols ≡ packed (held_of s) =
    elim c.if-holds-gt0.branch [
      | then-holds-gt0 w ↦
          w.symbols-is
          ∙ closed_some s before w.last_octet.result (omega arith) known.coder.holds known.room
          (w.last_octet.ensures ∙ ap first_octet w.top_bits.ensures.0 ∙ ap (λ (n : ℕ). first_octet (take n (low_bits 8 s.held))) c.from-holds.ensures)
      | else-holds-gt0 w ↦ w.symbols-is ∙ closed_none s before (omega arith) known.room
    ] in
    close_done c.args.rate s before c.from.result c.if-holds-gt0.symbols passed c.from.ensures held
