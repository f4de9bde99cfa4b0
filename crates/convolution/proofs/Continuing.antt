-- The coder can go on: legal numbers and the right lengths are accepted, and an accepted call leaves legal numbers for the next.
use mathlib.Core.Path.{◌≡◌, refl, sym, ap, ap₂, ◌∙◌, subst}
use mathlib.Core.List.{List, [], ◌∷◌}
use Prim.Native.Nat.{ℕ, ◌+◌, ◌/◌, ◌≤◌, ◌<◌}
use native.Mathlib.Nat.{mod-lt}
use native.Mathlib.Omega.{arith}
use lib.ListN.{length, length-append}
use Rattle.refusals.specs.Order.{Check, FirstOf, OneOf}
use Rattle.refusals.specs.Sizes.{period, rates, symbol_count, octets_for}
use Rattle.refusals.specs.Calls.{convolve_order, coder_close_order}
use Rattle.refusals.proofs.Orders.{first_unique, clear_accepted}
use Rattle.refusals.proofs.Legal.{LegalCoder}
use Rattle.convolution.specs.declared.State.{State}
use Rattle.std.specs.Prelude.{Ok}
use Rattle.convolution.specs.Coder.{bits_of, next_place, place_after, packed, filled}
use Rattle.convolution.specs.Outcome.{Convolved, convolved_number, zero_state, held_of, symbols_of, to_send, state_after, ConvolveOutcome, CloseOutcome}
use Rattle.convolution.proofs.Symbols.{register_small}
use Rattle.convolution.proofs.Count.{symbol_count_lem, regular}
use Rattle.convolution.proofs.Outcomes.{legal}
use Rattle.convolution.proofs.Accepting.{held_length}
use Rattle.convolution.proofs.Calls.{Calls, whole_cut, calls_joined}

-- A state whose numbers are legal at a rate.
abbrev pub LegalState : ℕ → State → Type 0
LegalState rate s = LegalCoder rate s.register s.place s.holds

-- ---- with legal numbers and the right lengths both calls are accepted

module _ (rate : ℕ) (s : State) (legal : LegalState rate s) where
  abbrev call_order : List ℕ → List ℕ → List Check
  call_order octets before = convolve_order rate s.register s.place s.holds (length octets) (length before)

  abbrev closing_order : List ℕ → List Check
  closing_order before = coder_close_order rate s.register s.place s.holds (length before)

  pub symbols-to_send : (octets : List ℕ) → length (to_send rate s octets) ≡ s.holds + symbol_count rate s.place (length octets)
  symbols-to_send octets =
      length-append (held_of s) (symbols_of rate s octets)
      ∙ ap₂ ◌+◌ (held_length s legal.holds) (symbol_count_lem rate s.register s.place octets legal.rate legal.place)

  none_due : (octets before : List ℕ) → length octets ≤ 2044 → length before ≡ length (to_send rate s octets) / 8 → FirstOf (call_order octets before) 0
  none_due octets before few room =
      clear_accepted (call_order octets before)
      (λ n. n legal.rate, (λ h. omega (arith, legal.register), (λ h. omega (arith, legal.place), (λ h. omega (arith, legal.holds), (λ h. omega arith, (λ n. n (room ∙ ap (λ (m : ℕ). m / 8) (symbols-to_send octets)), tt))))))

  close_none_due : (before : List ℕ) → length before ≡ octets_for s.holds → FirstOf (closing_order before) 0
  close_none_due before room =
      clear_accepted (closing_order before)
      (λ n. n legal.rate, (λ h. omega (arith, legal.register), (λ h. omega (arith, legal.place), (λ h. omega (arith, legal.holds), (λ n. n room, tt)))))

  pub call_accepted : (octets before : List ℕ) (answer : Convolved) (next : State) (after : List ℕ) → ConvolveOutcome rate s octets before answer next after
      → length octets ≤ 2044 → length before ≡ length (to_send rate s octets) / 8 → convolved_number answer ≡ 0
  call_accepted octets before answer next after o few room = first_unique (call_order octets before) _ 0 o.number (none_due octets before few room)

  pub close_accepted : (before : List ℕ) (answer : Convolved) (after : List ℕ) → CloseOutcome rate s before answer after
      → length before ≡ octets_for s.holds → convolved_number answer ≡ 0
  close_accepted before answer after o room = first_unique (closing_order before) _ 0 o.number (close_none_due before room)

  -- And there is such an outcome.
  pub call_permitted : (octets before : List ℕ) → length octets ≤ 2044 → length before ≡ length (to_send rate s octets) / 8
      → ConvolveOutcome rate s octets before (Ok (length (symbols_of rate s octets))) (state_after rate s octets) (filled (to_send rate s octets))
  call_permitted octets before few room =
      record {
        number = none_due octets before few room;
        refused = λ n. absurd (n refl);
        count = λ z. refl;
        symbols = λ z. refl;
        state = λ z. refl;
      }

  pub close_permitted : (before : List ℕ) → length before ≡ octets_for s.holds → CloseOutcome rate s before (Ok s.holds) (packed (held_of s))
  close_permitted before room =
      record { number = close_none_due before room; refused = λ n. absurd (n refl); count = λ z. refl; symbols = λ z. refl }

-- ---- the state that a call leaves is legal at its rate

place_small : (rate place : ℕ) (bits : List ℕ) → OneOf rates rate → place < period rate → place_after rate place bits < period rate
place_small rate place [] legal h = h
place_small rate place (bit ∷ bits) legal h = place_small rate (next_place rate place) bits legal (mod-lt _ (regular rate legal).some)

pub zero_legal : (rate : ℕ) → OneOf rates rate → LegalState rate zero_state
zero_legal rate legal = record { rate = legal; register = omega arith; place = (regular rate legal).some; holds = omega arith }

pub next_legal : (rate : ℕ) (s : State) (octets : List ℕ) → LegalState rate s → LegalState rate (state_after rate s octets)
next_legal rate s octets l =
    record {
      rate = l.rate;
      register = register_small s.register (bits_of octets) l.register;
      place = place_small rate s.place (bits_of octets) l.rate l.place;
      holds = (whole_cut rate s octets).few;
    }

-- So with the last state of any calls: another call, and a close, are accepted after them.
pub calls_legal : (rate : ℕ) (s : State) (input written : List ℕ) (count : ℕ) (t : State) → LegalState rate s → Calls rate s input written count t → LegalState rate t
calls_legal rate s input written count t l calls =
    subst (LegalState rate) (sym (calls_joined rate s input written count t calls).state) (next_legal rate s input l)
