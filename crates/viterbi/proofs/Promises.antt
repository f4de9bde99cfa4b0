-- What the contract gives: a best input exists, and there are no fewer differing places than are told.
use mathlib.Core.Path.{◌≡◌, sym, ap, ◌∙◌}
use mathlib.Core.List.{List, [], ◌∷◌}
use Prim.Native.Nat.{ℕ, ◌*◌, ◌%◌, ◌<◌}
use native.Mathlib.Omega.{arith}
use lib.Dec.{ltb}
use lib.ListN.{length}
use Rattle.codewords.specs.Words.{Octets}
use Rattle.convolution.specs.Coder.{bits_of, next_register, filled}
use Rattle.convolution.proofs.Bits.{bits-length}
use Rattle.convolution.proofs.Packing.{AreBits}
use Rattle.viterbi.specs.Likeliest.{places, Best}
use Rattle.viterbi.specs.Outcome.{Sought, sought_number, sought_places, LikeliestOutcome}
use Rattle.viterbi.specs.Working.{via, choice, path}
use Rattle.viterbi.proofs.Octets.{filled-octets, filled-bits}
use Rattle.viterbi.proofs.Coding.{chosen_bit}
use Rattle.viterbi.proofs.Optimal.{path-length}
use Rattle.viterbi.proofs.Outcomes.{path_best}

-- For a data sheet: no input of that length has fewer differing places than the answer tells.
pub fewer_impossible : (register : ℕ) (received before : List ℕ) (answer : Sought) (after : List ℕ) → LikeliestOutcome register received before answer after → sought_number answer ≡ 0 →
    (other : List ℕ) → length other ≡ length before → places register received other < sought_places answer → ⊥
fewer_impossible register received before answer after o z other l fewer =
    omega (arith, o.differing z, (o.best z).least other (l ∙ sym (o.long z)))

-- ---- a best input exists

path-bits : (received : List ℕ) (r : ℕ) → AreBits (path received r)
path-bits [] r = tt
path-bits (a ∷ []) r = tt
path-bits (a ∷ (b ∷ later)) r = (chosen_bit (ltb (via r a b later 1) (via r a b later 0)), path-bits later (next_register r (choice r a b later)))

pub record BestInput (register : ℕ) (received : List ℕ) : Type 0 where
  pub input : List ℕ
  pub octets : Octets input
  pub double : length received ≡ 2 * length input
  pub best : Best register received input

pub best_exists : (register : ℕ) (received : List ℕ) → length received % 2 ≡ 0 → BestInput register received
best_exists register received even =
    let bits = path (bits_of received) register in
    let long : length bits ≡ 4 * length received = path-length (bits_of received) register (4 * length received) (omega (arith, bits-length received)) in
    let all = path-bits (bits_of received) register in
    let same : bits_of (filled bits) ≡ bits = filled-bits bits all (omega arith) in
    let double : length received ≡ 2 * length (filled bits) = omega (arith, ap length same, bits-length (filled bits)) in
    record {
      input = filled bits;
      octets = filled-octets bits all (omega arith);
      double = double;
      best = path_best register received (filled bits) double same;
    }
