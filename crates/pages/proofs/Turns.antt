-- One turn of `fill`.
use Rattle.std.proofs.Common.{◌≡◌, ℕ, suc, ◌+◌, ◌<◌, List, length, get_or, set, sym, ap, ◌∙◌, arith, get_or-set_other, get_or-set_same}
use native.Mathlib.Decide.{ℕ_discrete}
use native.Mathlib.Numerals.{add-one}
use Rattle.pages.specs.Draws.{turned, octet_of, after, Drawn}

-- One turn more.
pub after_more : (x n : ℕ) → turned (after x n) ≡ after x (n + 1)
unfolding after
after_more x n = ap (after x) (sym (add-one n))

-- One octet more is drawn.
pub drawn_turn : (x : ℕ) (octets : List ℕ) (n octet : ℕ) → n < length octets → octet ≡ octet_of (after x (n + 1)) → Drawn x n octets → Drawn x (n + 1) (set octets n octet)
drawn_turn x octets n octet room is drawn k h =
    elim (ℕ_discrete k n) [
      | yes e ↦ ap (λ (m : ℕ). get_or (set octets n octet) m 0) e ∙ get_or-set_same octets n octet 0 room ∙ is ∙ ap (λ (m : ℕ). octet_of (after x m)) (add-one n ∙ ap suc (sym e))
      | no d ↦ get_or-set_other octets n k octet 0 d ∙ drawn k (omega arith)
    ]
