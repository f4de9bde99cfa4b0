-- What a call of `convolve` and a `close` answer, and what they leave in the lent symbols (document 02, (iii); document 01, "Convolutional coder",
-- "Refusal numbers and the order of checks").
use Rattle.std.specs.Prelude.{◌≡◌, ◌≢◌, List, ◌++◌, ℕ, length, take, Result, Ok, Err}
use Rattle.refusals.specs.Order.{FirstOf}
use Rattle.refusals.specs.Calls.{convolve_order, coder_close_order}
use Rattle.refusals.specs.Numbers.{parameter_number}
use Rattle.refusals.specs.declared.Parameter.{Parameter}
use Rattle.convolution.specs.declared.State.{State}
use Rattle.convolution.specs.Coder.{low_bits, bits_of, register_after, place_after, symbols_from, first_octet, packed, filled, left}

-- What a call answers: how many symbols, or why it is refused.
abbrev pub Convolved : Type 0
Convolved = Result ℕ Parameter

-- The refusal's number, 0 if the call is accepted.
abbrev pub convolved_number : Convolved → ℕ
convolved_number (Ok count) = 0
convolved_number (Err parameter) = parameter_number parameter

-- The symbol count that the answer reports, 0 if the call is refused.
abbrev pub convolved_count : Convolved → ℕ
convolved_count (Ok count) = count
convolved_count (Err parameter) = 0

-- The state at the start: document 01's coder, with nothing held.
abbrev pub zero_state : State
zero_state = record { register = 0; place = 0; holds = 0; held = 0 }

-- The symbols that a state holds: the topmost of the octet. The bits below them are not looked at.
abbrev pub held_of : State → List ℕ
held_of s = take s.holds (low_bits 8 s.held)

-- The symbols of octets at a rate, from a state's register and place on.
abbrev pub symbols_of : ℕ → State → List ℕ → List ℕ
symbols_of rate s octets = symbols_from rate s.register s.place (bits_of octets)

-- What a call has to send: the symbols held, then its own.
abbrev pub to_send : ℕ → State → List ℕ → List ℕ
to_send rate s octets = held_of s ++ symbols_of rate s octets

-- Register and place run on over the octets; the symbols that fill no octet are held, with zeros below them.
abbrev pub state_after : ℕ → State → List ℕ → State
state_after rate s octets =
    record {
      register = register_after s.register (bits_of octets);
      place = place_after rate s.place (bits_of octets);
      holds = length (left (to_send rate s octets));
      held = first_octet (left (to_send rate s octets));
    }

-- The first refusal that is due leaves the state and the lent octets as they were; else the call's own symbols are counted, the octets that
-- are filled are written, and the state runs on.
pub record ConvolveOutcome (rate : ℕ) (s : State) (octets before : List ℕ) (answer : Convolved) (next : State) (after : List ℕ) : Type 0 where
  pub number : FirstOf (convolve_order rate s.register s.place s.holds (length octets) (length before)) (convolved_number answer)
  pub refused : convolved_number answer ≢ 0 → (next ≡ s) × (after ≡ before)
  pub count : convolved_number answer ≡ 0 → convolved_count answer ≡ length (symbols_of rate s octets)
  pub symbols : convolved_number answer ≡ 0 → after ≡ filled (to_send rate s octets)
  pub state : convolved_number answer ≡ 0 → next ≡ state_after rate s octets

-- So with a close, which writes the symbols held, if there are any, as one octet.
pub record CloseOutcome (rate : ℕ) (s : State) (before : List ℕ) (answer : Convolved) (after : List ℕ) : Type 0 where
  pub number : FirstOf (coder_close_order rate s.register s.place s.holds (length before)) (convolved_number answer)
  pub refused : convolved_number answer ≢ 0 → after ≡ before
  pub count : convolved_number answer ≡ 0 → convolved_count answer ≡ s.holds
  pub symbols : convolved_number answer ≡ 0 → after ≡ packed (held_of s)
