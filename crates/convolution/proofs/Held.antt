-- The octet of the held symbols: what stands below them is zero on return, and on entry changes nothing.
use mathlib.Core.Path.{◌≡◌, sym, ap, ap₂, ◌∙◌, subst}
use mathlib.Core.List.{List, ◌++◌}
use Prim.Native.Nat.{ℕ, ◌-◌, ◌*◌, ◌/◌, ◌%◌, ◌^◌}
use lib.ListN.{length}
use Rattle.refusals.specs.Order.{Check, FirstOf}
use Rattle.refusals.specs.Calls.{convolve_order, coder_close_order}
use Rattle.refusals.proofs.Orders.{first_unique}
use Rattle.convolution.specs.declared.State.{State}
use Rattle.convolution.specs.Coder.{bits_of, symbols_from, register_after, place_after, first_octet, packed, filled, left}
use Rattle.convolution.specs.Outcome.{Convolved, convolved_number, held_of, symbols_of, to_send, state_after, ConvolveOutcome, CloseOutcome}
use Rattle.convolution.proofs.Packing.{bits_dropped, zeros-below}
use Rattle.convolution.proofs.Settled.{convolved_known, either_way}
use Rattle.convolution.proofs.Accepting.{same_state}
use Rattle.convolution.proofs.Calls.{send_bits, whole_cut}

pub zeros_on_return : (rate : ℕ) (s : State) (octets before : List ℕ) (answer : Convolved) (next : State) (after : List ℕ) → ConvolveOutcome rate s octets before answer next after →
    convolved_number answer ≡ 0 → next.held % 2 ^ (8 - next.holds) ≡ 0
zeros_on_return rate s octets before answer next after o none =
    let send = to_send rate s octets in
    subst (λ (t : State). t.held % 2 ^ (8 - t.holds) ≡ 0) (sym (o.state none))
    (zeros-below (left send) (bits_dropped (8 * (length send / 8)) send (send_bits rate s octets)) (whole_cut rate s octets).few)

-- Two states that differ at most below the symbols held.
pub record SameHeld (s t : State) : Type 0 where
  pub register : s.register ≡ t.register
  pub place : s.place ≡ t.place
  pub holds : s.holds ≡ t.holds
  pub held : held_of s ≡ held_of t

module _ (rate : ℕ) (s t : State) (alike : SameHeld s t) (before after after' : List ℕ) where
  own_alike : (octets : List ℕ) → symbols_of rate s octets ≡ symbols_of rate t octets
  own_alike octets = ap₂ (λ (r p : ℕ). symbols_from rate r p (bits_of octets)) alike.register alike.place

  send_alike : (octets : List ℕ) → to_send rate s octets ≡ to_send rate t octets
  send_alike octets = ap₂ ◌++◌ alike.held (own_alike octets)

  state_alike : (octets : List ℕ) → state_after rate s octets ≡ state_after rate t octets
  state_alike octets =
      let rest = ap left (send_alike octets) in
      same_state (state_after rate s octets) (state_after rate t octets)
      (ap (λ (r : ℕ). register_after r (bits_of octets)) alike.register)
      (ap (λ (p : ℕ). place_after rate p (bits_of octets)) alike.place)
      (ap length rest)
      (ap first_octet rest)

  -- A call answers and writes the same from both, and if it is accepted it leaves the same state.
  pub dirt_ignored : (octets : List ℕ) (a b : Convolved) (next next' : State) → ConvolveOutcome rate s octets before a next after → ConvolveOutcome rate t octets before b next' after' →
      (a ≡ b) × (after ≡ after') × (convolved_number a ≡ 0 → next ≡ next')
  dirt_ignored octets a b next next' p q =
      let same : convolve_order rate s.register s.place s.holds (length octets) (length before) ≡ convolve_order rate t.register t.place t.holds (length octets) (length before) = cc in
      let e : convolved_number a ≡ convolved_number b =
      first_unique (convolve_order rate t.register t.place t.holds (length octets) (length before)) _ _ (subst (λ (order : List Check). FirstOf order (convolved_number a)) same p.number) q.number in (
        convolved_known a b e (λ z. p.count z ∙ ap length (own_alike octets) ∙ sym (q.count (sym e ∙ z))),
        either_way a (λ z. p.symbols z ∙ ap filled (send_alike octets) ∙ sym (q.symbols (sym e ∙ z))) (λ n. (p.refused n).1 ∙ sym (q.refused (λ z. n (e ∙ z))).1),
        λ z. p.state z ∙ state_alike octets ∙ sym (q.state (sym e ∙ z)),
      )

  -- So does a close.
  pub dirt_ignored_by_close : (a b : Convolved) → CloseOutcome rate s before a after → CloseOutcome rate t before b after' → (a ≡ b) × (after ≡ after')
  dirt_ignored_by_close a b p q =
      let same : coder_close_order rate s.register s.place s.holds (length before) ≡ coder_close_order rate t.register t.place t.holds (length before) = cc in
      let e : convolved_number a ≡ convolved_number b =
      first_unique (coder_close_order rate t.register t.place t.holds (length before)) _ _ (subst (λ (order : List Check). FirstOf order (convolved_number a)) same p.number) q.number in (
        convolved_known a b e (λ z. p.count z ∙ alike.holds ∙ sym (q.count (sym e ∙ z))),
        either_way a (λ z. p.symbols z ∙ ap packed alike.held ∙ sym (q.symbols (sym e ∙ z))) (λ n. p.refused n ∙ sym (q.refused (λ z. n (e ∙ z)))),
      )
