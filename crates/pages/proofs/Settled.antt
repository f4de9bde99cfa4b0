-- Each clause settles what the call gives and leaves.
use mathlib.Core.Path.{◌≡◌, sym, ◌∙◌}
use mathlib.Core.List.{List}
use Prim.Native.Nat.{ℕ, ◌-◌, ◌*◌}
use native.Mathlib.Omega.{arith}
use lib.ListN.{length}
use lib.Seq.{ext_get_or}
use Rattle.refusals.specs.declared.Code.{Code}
use Rattle.pages.specs.Draws.{turned, octet_of, Drawn}

pub turn_settled : (x a b : ℕ) → a ≡ turned x → b ≡ turned x → a ≡ b
turn_settled x a b p q = p ∙ sym q

pub drawn_settled : (x a b : ℕ) → a ≡ octet_of x → b ≡ octet_of x → a ≡ b
drawn_settled x a b p q = p ∙ sym q

pub fill_settled : (x : ℕ) (before a b : List ℕ) → length a ≡ length before → Drawn x (length before) a → length b ≡ length before → Drawn x (length before) b → a ≡ b
fill_settled x before a b p A q B = ext_get_or 0 a b (p ∙ sym q) (λ k h. A k (omega (arith, p)) ∙ sym (B k (omega (arith, p))))

pub frame_length_settled : (code : Code) (a b : ℕ) → a ≡ (255 - code.fill - 2 * code.strength) * code.depth → b ≡ (255 - code.fill - 2 * code.strength) * code.depth → a ≡ b
frame_length_settled code a b p q = p ∙ sym q

pub block_length_settled : (code : Code) (a b : ℕ) → a ≡ (255 - code.fill) * code.depth → b ≡ (255 - code.fill) * code.depth → a ≡ b
block_length_settled code a b p q = p ∙ sym q
