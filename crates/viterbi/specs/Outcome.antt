-- What a call of `likeliest` answers, and what it leaves in the lent data (document 02, (vi)).
use Rattle.std.specs.Prelude.{◌≡◌, ◌≢◌, List, ℕ, length, Result, Ok, Err}
use Rattle.refusals.specs.Order.{FirstOf}
use Rattle.refusals.specs.Calls.{likeliest_order}
use Rattle.refusals.specs.Numbers.{parameter_number}
use Rattle.refusals.specs.declared.Parameter.{Parameter}
use Rattle.codewords.specs.Words.{Octets}
use Rattle.convolution.specs.Coder.{bits_of, register_after}
use Rattle.viterbi.specs.declared.found.Likeliest.{Likeliest}
use Rattle.viterbi.specs.Likeliest.{places, Best}

-- What a call answers: what it found, or why it is refused.
abbrev pub Sought : Type 0
Sought = Result Likeliest Parameter

-- The refusal's number, 0 if the call is accepted.
abbrev pub sought_number : Sought → ℕ
sought_number (Ok found) = 0
sought_number (Err parameter) = parameter_number parameter

-- The differing places and the register reached that the answer tells, 0 if the call is refused.
abbrev pub sought_places : Sought → ℕ
sought_places (Ok found) = found.places
sought_places (Err parameter) = 0

abbrev pub sought_register : Sought → ℕ
sought_register (Ok found) = found.register
sought_register (Err parameter) = 0

-- The first refusal that is due leaves the lent data as they were; else they are the best input of their length, and its differing places and the
-- register that it leads to are told.
pub record LikeliestOutcome (register : ℕ) (received before : List ℕ) (answer : Sought) (after : List ℕ) : Type 0 where
  pub number : FirstOf (likeliest_order register (length received) (length before)) (sought_number answer)
  pub refused : sought_number answer ≢ 0 → after ≡ before
  pub octets : sought_number answer ≡ 0 → Octets after
  pub long : sought_number answer ≡ 0 → length after ≡ length before
  pub best : sought_number answer ≡ 0 → Best register received after
  pub differing : sought_number answer ≡ 0 → sought_places answer ≡ places register received after
  pub reached : sought_number answer ≡ 0 → sought_register answer ≡ register_after register (bits_of after)
