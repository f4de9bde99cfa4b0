-- What the way out of `likeliest` that is not a refusal leaves: the path, which is the best input.
use mathlib.Core.Path.{◌≡◌, refl, sym, ap, ◌∙◌}
use mathlib.Core.List.{List}
use Prim.Native.Nat.{ℕ, ◌+◌, ◌*◌}
use native.Mathlib.Omega.{arith}
use lib.ListN.{length, get_or}
use Rattle.refusals.specs.Order.{FirstOf}
use Rattle.refusals.specs.Calls.{likeliest_order}
use Rattle.refusals.proofs.Legal.{accepted_likeliest}
use Rattle.convolution.specs.Coder.{bits_of}
use Rattle.convolution.proofs.Bits.{bits-length}
use Rattle.viterbi.specs.Likeliest.{places, Best}
use Rattle.viterbi.specs.Outcome.{LikeliestOutcome}
use Rattle.std.specs.Prelude.{Ok}
use Rattle.viterbi.specs.Working.{turned, to_go, path, ToGo, Walked}
use Rattle.viterbi.proofs.Octets.{bits_of_lem}
use Rattle.viterbi.proofs.Coding.{cost}
use Rattle.viterbi.proofs.Optimal.{lower, path-cost, path-first}

-- An input that is the path is the best, and differs in as many places as are to go.
module _ (register : ℕ) (received input : List ℕ) (double : length received ≡ 2 * length input) (walked : bits_of input ≡ path (bits_of received) register) where
  pub path-places : places register received input ≡ to_go (bits_of received) register
  unfolding cost
  path-places =
      ap (cost register (bits_of received)) walked
      ∙ path-cost (bits_of received) register (8 * length input) (omega (arith, bits-length received))

  pub path_best : Best register received input
  unfolding cost
  path_best =
      record {
        least = λ other e. omega (arith, path-places, lower (bits_of other) (bits_of received) register (bits_of_lem other) (omega (arith, bits-length received, bits-length other)));
        first = λ other e same. rw walked (path-first (bits_of received) (bits_of other) register (bits_of_lem other) (omega (arith, bits-length received, bits-length other)) (same ∙ path-places));
      }

pub path_found : (register : ℕ) (received before after costs : List ℕ) (base place end : ℕ) →
    FirstOf (likeliest_order register (length received) (length before)) 0 →
    ToGo (bits_of received) 0 base costs →
    place ≡ turned register →
    Walked (bits_of received) register before after end →
    LikeliestOutcome register received before (Ok (record { places = base + get_or costs place 0; register = end })) after
path_found register received before after costs base place end f c e w =
    let legal = accepted_likeliest register (length received) (length before) f in
    let double : length received ≡ 2 * length after = omega (arith, legal.even, legal.half, w.long) in
    record {
      number = f;
      refused = λ n. absurd (n refl);
      octets = λ z. w.octets;
      long = λ z. w.long;
      best = λ z. path_best register received after double w.bits;
      differing = λ z. ap (λ (p : ℕ). base + get_or costs p 0) e ∙ c.at register legal.register ∙ sym (path-places register received after double w.bits);
      reached = λ z. w.reached;
    }
