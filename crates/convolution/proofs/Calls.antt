-- The coder runs on: calls one after the other write, and leave, what the definition gives for their joined input, however long that is; and a close
-- after calls from the zero state completes the packed symbols of document 01.
use mathlib.Core.Path.{◌≡◌, sym, ap, ap₂, ◌∙◌, subst}
use mathlib.Core.List.{List, ◌++◌, append_assoc}
use Prim.Native.Nat.{ℕ, ◌+◌, ◌-◌, ◌*◌, ◌/◌, ◌<◌}
use lib.ListN.{length, replicate, length-append}
use Rattle.refusals.specs.Order.{FirstOf, OneOf}
use Rattle.refusals.specs.Sizes.{period, rates}
use Rattle.refusals.specs.Calls.{coder_close_order}
use Rattle.convolution.specs.declared.State.{State}
use Rattle.convolution.specs.Coder.{low_bits, bits_of, symbols_from, register_after, place_after, first_octet, packed, filled, left}
use Rattle.convolution.specs.Outcome.{Convolved, convolved_number, convolved_count, zero_state, held_of, symbols_of, to_send, state_after, ConvolveOutcome, CloseOutcome}
use Rattle.convolution.proofs.Bits.{bits-append}
use Rattle.convolution.proofs.Symbols.{symbols-append, register-append, place-append}
use Rattle.convolution.proofs.Count.{symbol_count_anew}
use Rattle.convolution.proofs.Packing.{AreBits, bits-joined, bits-taken, bits_dropped, low_bits_lem, symbols-bits, Cut, cut_into, cut_further, cut_filled, cut_left, cut_length, cut_packed, held_back, short_packed}
use Rattle.convolution.proofs.Outcomes.{legal_close}
use Rattle.convolution.proofs.Accepting.{same_state, held_length}

-- ---- two inputs one after the other

module _ (rate : ℕ) where
  pub send_bits : (s : State) (octets : List ℕ) → AreBits (to_send rate s octets)
  send_bits s octets =
      bits-joined (held_of s) (symbols_of rate s octets) (bits-taken s.holds (low_bits 8 s.held) (low_bits_lem 8 s.held)) (symbols-bits rate s.register s.place (bits_of octets))

  pub whole_cut : (s : State) (octets : List ℕ) → Cut (to_send rate s octets) (filled (to_send rate s octets)) (left (to_send rate s octets))
  whole_cut s octets = cut_into (to_send rate s octets) (send_bits s octets)

  -- What a call holds at its end is what it could not write.
  pub held_after : (s : State) (octets : List ℕ) → held_of (state_after rate s octets) ≡ left (to_send rate s octets)
  held_after s octets =
      held_back (left (to_send rate s octets)) (bits_dropped (8 * (length (to_send rate s octets) / 8)) (to_send rate s octets) (send_bits s octets)) (whole_cut s octets).few

  module _ (s : State) (first second : List ℕ) where
    abbrev next : State
    next = state_after rate s first

    own_joined : symbols_of rate s (first ++ second) ≡ symbols_of rate s first ++ symbols_of rate next second
    own_joined = ap (symbols_from rate s.register s.place) (bits-append first second) ∙ symbols-append rate s.register s.place (bits_of first) (bits_of second)

    send_joined : to_send rate s (first ++ second) ≡ to_send rate s first ++ symbols_of rate next second
    send_joined = ap (λ (l : List ℕ). held_of s ++ l) own_joined ∙ sym (append_assoc (held_of s) (symbols_of rate s first) (symbols_of rate next second))

    joined_cut : Cut (to_send rate s (first ++ second)) (filled (to_send rate s first) ++ filled (to_send rate next second)) (left (to_send rate next second))
    joined_cut =
        subst (λ (l : List ℕ). Cut l (filled (to_send rate s first) ++ filled (to_send rate next second)) (left (to_send rate next second))) (sym send_joined)
        (cut_further (to_send rate s first) _ _ (symbols_of rate next second) _ _ (whole_cut s first)
        (subst (λ (l : List ℕ). Cut (l ++ symbols_of rate next second) (filled (to_send rate next second)) (left (to_send rate next second))) (held_after s first) (whole_cut next second)))

    pub filled-joined : filled (to_send rate s first) ++ filled (to_send rate next second) ≡ filled (to_send rate s (first ++ second))
    filled-joined = sym (cut_filled _ _ _ joined_cut)

    pub state_joined : state_after rate next second ≡ state_after rate s (first ++ second)
    state_joined =
        let rest : left (to_send rate next second) ≡ left (to_send rate s (first ++ second)) = sym (cut_left _ _ _ joined_cut) in
        let bits : bits_of first ++ bits_of second ≡ bits_of (first ++ second) = sym (bits-append first second) in
        same_state (state_after rate next second) (state_after rate s (first ++ second))
        (sym (register-append s.register (bits_of first) (bits_of second)) ∙ ap (register_after s.register) bits)
        (sym (place-append rate s.place (bits_of first) (bits_of second)) ∙ ap (place_after rate s.place) bits)
        (ap length rest)
        (ap first_octet rest)

    pub count_joined : length (symbols_of rate s first) + length (symbols_of rate next second) ≡ length (symbols_of rate s (first ++ second))
    count_joined = sym (ap length own_joined ∙ length-append (symbols_of rate s first) (symbols_of rate next second))

-- ---- any list of calls

-- One call or more, each accepted and from the state that the one before it left: their joined input, the octets that they wrote, the symbols that
-- they reported, and the last state.
pub data Calls (rate : ℕ) (s : State) : List ℕ → List ℕ → ℕ → State → Type 0 where
  one : (octets before : List ℕ) (answer : Convolved) (next : State) (after : List ℕ) → ConvolveOutcome rate s octets before answer next after → convolved_number answer ≡ 0 →
      Calls rate s octets after (convolved_count answer) next
  more : {input written : List ℕ} {count : ℕ} {t : State} (octets before : List ℕ) (answer : Convolved) (next : State) (after : List ℕ) → Calls rate s input written count t →
      ConvolveOutcome rate t octets before answer next after → convolved_number answer ≡ 0 →
      Calls rate s (input ++ octets) (written ++ after) (count + convolved_count answer) next

-- What the definition gives for an input from a state on: the octets filled, the number of symbols, and the state.
pub record Given (rate : ℕ) (s : State) (input written : List ℕ) (n : ℕ) (t : State) : Type 0 where
  pub symbols : written ≡ filled (to_send rate s input)
  pub count : n ≡ length (symbols_of rate s input)
  pub state : t ≡ state_after rate s input

given_more : (rate : ℕ) (s : State) (first second w1 w2 : List ℕ) (n1 n2 : ℕ) (t u : State) → Given rate s first w1 n1 t → Given rate t second w2 n2 u → Given rate s (first ++ second) (w1 ++ w2) (n1 + n2) u
given_more rate s first second w1 w2 n1 n2 t u p q =
    let q' : Given rate (state_after rate s first) second w2 n2 u = subst (λ (x : State). Given rate x second w2 n2 u) p.state q in
    record {
      symbols = ap₂ ◌++◌ p.symbols q'.symbols ∙ filled-joined rate s first second;
      count = ap₂ ◌+◌ p.count q'.count ∙ count_joined rate s first second;
      state = q'.state ∙ state_joined rate s first second;
    }

one_given : (rate : ℕ) (s : State) (octets before : List ℕ) (answer : Convolved) (next : State) (after : List ℕ) → ConvolveOutcome rate s octets before answer next after → convolved_number answer ≡ 0 → Given rate s octets after (convolved_count answer) next
one_given rate s octets before answer u after o none = record { symbols = o.symbols none; count = o.count none; state = o.state none }

pub calls_joined : (rate : ℕ) (s : State) (input written : List ℕ) (count : ℕ) (t : State) → Calls rate s input written count t → Given rate s input written count t
calls_joined rate s input written count t (one octets before answer u after o none) = one_given rate s octets before answer u after o none
calls_joined rate s input written count t (more octets before answer u after calls o none) =
    given_more rate s _ octets _ after _ (convolved_count answer) _ u (calls_joined rate s _ _ _ _ calls) (one_given rate _ octets before answer u after o none)

pub two_calls_joined : (rate : ℕ) (s : State) (first second before before' after after' : List ℕ) (answer answer' : Convolved) (next next' : State) →
    ConvolveOutcome rate s first before answer next after →
    convolved_number answer ≡ 0 →
    ConvolveOutcome rate next second before' answer' next' after' →
    convolved_number answer' ≡ 0 →
    Given rate s (first ++ second) (after ++ after') (convolved_count answer + convolved_count answer') next'
two_calls_joined rate s first second before before' after after' answer answer' t u p e q f =
    calls_joined rate s _ _ _ _ (more second before' answer' u after' (one first before answer t after p e) q f)

-- ---- the close

-- A close gives the held symbols, and how many they are: its octet, if there is one, has them as its bits, then zeros.
pub close_gives_held : (rate : ℕ) (s : State) (before after : List ℕ) (answer : Convolved) → CloseOutcome rate s before answer after → convolved_number answer ≡ 0 →
    (bits_of after ≡ held_of s ++ replicate (8 * length after - s.holds) 0) × (convolved_count answer ≡ s.holds)
close_gives_held rate s before after answer o none =
    let known = legal_close rate s (length before) (subst (λ (n : ℕ). FirstOf (coder_close_order rate s.register s.place s.holds (length before)) n) none o.number) in
    let few = known.coder.holds in
    let short : length (held_of s) ≡ s.holds = held_length s few in
    let held : AreBits (held_of s) = bits-taken s.holds (low_bits 8 s.held) (low_bits_lem 8 s.held) in (
      ap bits_of (o.symbols none)
          ∙ short_packed (held_of s) held (subst (λ (n : ℕ). n < 8) (sym short) few)
          ∙ ap₂ (λ (l : List ℕ) (n : ℕ). held_of s ++ replicate (8 * length l - n) 0) (sym (o.symbols none)) short,
      o.count none,
    )

-- A close after calls completes the packing of all that was to be sent, and of the symbols so many stand in its octet.
pub closed_calls : (rate : ℕ) (s : State) (input written : List ℕ) (count : ℕ) (t : State) (before after : List ℕ) (answer : Convolved) →
    Calls rate s input written count t →
    CloseOutcome rate t before answer after →
    convolved_number answer ≡ 0 →
    (written ++ after ≡ packed (to_send rate s input)) × (8 * length written + convolved_count answer ≡ length (to_send rate s input))
closed_calls rate s input written count t before after answer calls o none =
    let g = calls_joined rate s input written count t calls in
    let cut = whole_cut rate s input in
    let held : held_of t ≡ left (to_send rate s input) = ap held_of g.state ∙ held_after rate s input in (
      ap₂ ◌++◌ g.symbols (o.symbols none ∙ ap packed held) ∙ sym (cut_packed _ _ _ cut),
      ap₂ (λ (l : List ℕ) (n : ℕ). 8 * length l + n) g.symbols (o.count none ∙ ap (λ (u : State). u.holds) g.state) ∙ sym (cut_length _ _ _ cut),
    )

-- From the zero state these are document 01's symbols; the calls reported all n of them, and the close those m that stand in its octet.
pub record Closed (rate : ℕ) (input written after : List ℕ) (n m : ℕ) : Type 0 where
  pub symbols : written ++ after ≡ packed (symbols_from rate 0 0 (bits_of input))
  pub count : n ≡ length (symbols_from rate 0 0 (bits_of input))
  pub last : 8 * length written + m ≡ n
  pub number : n ≡ 8 * length input + (8 * length input + (period rate - 1)) / period rate

pub closed_is_one_call : (rate : ℕ) (input written : List ℕ) (count : ℕ) (t : State) (before after : List ℕ) (answer : Convolved) →
    Calls rate zero_state input written count t →
    CloseOutcome rate t before answer after →
    convolved_number answer ≡ 0 →
    Closed rate input written after count (convolved_count answer)
closed_is_one_call rate input written count t before after answer calls o none =
    let both = closed_calls rate zero_state input written count t before after answer calls o none in
    let g = calls_joined rate zero_state input written count t calls in
    let legal-rate : OneOf rates rate = (legal_close rate t (length before) (subst (λ (n : ℕ). FirstOf (coder_close_order rate t.register t.place t.holds (length before)) n) none o.number)).coder.rate in
    record {
      symbols = both.0;
      count = g.count;
      last = both.1 ∙ sym g.count;
      number = g.count ∙ symbol_count_anew rate input legal-rate;
    }
