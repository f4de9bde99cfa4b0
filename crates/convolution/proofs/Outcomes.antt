-- How a call of `convolve` and a `close` come by their outcomes: from the verdict of the checks, and from what is done once they have passed.
use mathlib.Core.Path.{◌≡◌, refl, sym, ap, ◌∙◌}
use mathlib.Core.List.{List, [], ◌∷◌}
use Prim.Native.Nat.{ℕ, ◌+◌, ◌/◌, ◌≤◌, ◌<◌}
use native.Mathlib.Omega.{arith}
use lib.ListN.{length, set, take}
use lib.Seq.{length-take-le}
use Rattle.refusals.specs.Order.{FirstOf}
use Rattle.refusals.specs.Sizes.{symbol_count, octets_for}
use Rattle.std.specs.Prelude.{Ok, Err}
use Rattle.refusals.specs.Numbers.{parameter_number}
use Rattle.refusals.specs.Calls.{input_over, output, convolve_order, coder_close_order}
use Rattle.refusals.specs.Working.{coder_parameters}
use Rattle.refusals.specs.declared.Parameter.{Parameter}
use Rattle.refusals.proofs.Orders.{accepted_clear, first_accepts, not_different}
use Rattle.refusals.proofs.Legal.{LegalCoder, coder_numbers, accepted_coder}
use Rattle.refusals.proofs.Verdicts.{parameter_nonzero}
use Rattle.convolution.specs.declared.State.{State}
use Rattle.convolution.specs.Coder.{low_bits, first_octet, packed}
use Rattle.convolution.specs.Outcome.{held_of, ConvolveOutcome, CloseOutcome}
use Rattle.convolution.proofs.Bits.{low_length}
use Rattle.convolution.proofs.Packing.{packed_short}

-- What is known of the numbers once no check is due.
pub record Legal (r : ℕ) (s : State) (octets symbols : ℕ) : Type 0 where
  pub coder : LegalCoder r s.register s.place s.holds
  pub few : octets ≤ 2044
  pub room : symbols ≡ (s.holds + symbol_count r s.place octets) / 8

pub legal : (r : ℕ) (s : State) (octets symbols : ℕ) → FirstOf (convolve_order r s.register s.place s.holds octets symbols) 0 → Legal r s octets symbols
legal r s octets symbols f =
    let order = convolve_order r s.register s.place s.holds octets symbols in
    let front = coder_parameters r s.register s.place s.holds in
    let required = (s.holds + symbol_count r s.place octets) / 8 in
    let clear = accepted_clear order (omega arith, (omega arith, (omega arith, (omega arith, (omega arith, (omega arith, tt)))))) f in
    record {
      coder = accepted_coder r s.register s.place s.holds (first_accepts (FirstOf (input_over 2044 octets ∷ output symbols required ∷ []) 0) front (coder_numbers r s.register s.place s.holds) f);
      few = omega (arith, clear.1.1.1.1.0);
      room = not_different symbols required clear.1.1.1.1.1.0;
    }

pub record LegalClose (r : ℕ) (s : State) (symbols : ℕ) : Type 0 where
  pub coder : LegalCoder r s.register s.place s.holds
  pub room : symbols ≡ octets_for s.holds

pub legal_close : (r : ℕ) (s : State) (symbols : ℕ) → FirstOf (coder_close_order r s.register s.place s.holds symbols) 0 → LegalClose r s symbols
legal_close r s symbols f =
    let order = coder_close_order r s.register s.place s.holds symbols in
    let front = coder_parameters r s.register s.place s.holds in
    let clear = accepted_clear order (omega arith, (omega arith, (omega arith, (omega arith, (omega arith, tt))))) f in
    record {
      coder = accepted_coder r s.register s.place s.holds (first_accepts (FirstOf (output symbols (octets_for s.holds) ∷ []) 0) front (coder_numbers r s.register s.place s.holds) f);
      room = not_different symbols (octets_for s.holds) clear.1.1.1.1.0;
    }

module _ (rate : ℕ) (s : State) (octets before : List ℕ) where
  pub refused_outcome : (p : Parameter) → FirstOf (convolve_order rate s.register s.place s.holds (length octets) (length before)) (parameter_number p) → ConvolveOutcome rate s octets before (Err p) s before
  refused_outcome p first =
      record {
        number = first;
        refused = λ n. (refl, refl);
        count = λ none. absurd (parameter_nonzero p none);
        symbols = λ none. absurd (parameter_nonzero p none);
        state = λ none. absurd (parameter_nonzero p none);
      }

module _ (rate : ℕ) (s : State) (before : List ℕ) where
  pub close_refused : (p : Parameter) → FirstOf (coder_close_order rate s.register s.place s.holds (length before)) (parameter_number p) → CloseOutcome rate s before (Err p) before
  close_refused p first =
      record {
        number = first;
        refused = λ n. refl;
        count = λ none. absurd (parameter_nonzero p none);
        symbols = λ none. absurd (parameter_nonzero p none);
      }

  pub close_done : (n : ℕ) (after : List ℕ) → FirstOf (coder_close_order rate s.register s.place s.holds (length before)) 0 → n ≡ s.holds → after ≡ packed (held_of s) → CloseOutcome rate s before (Ok n) after
  close_done n after first count packs =
      record {
        number = first;
        refused = λ some. absurd (some refl);
        count = λ none. count;
        symbols = λ none. packs;
      }

-- With no symbol held nothing is written, else one octet.
pub closed_none : (s : State) (before : List ℕ) → s.holds ≡ 0 → length before ≡ octets_for s.holds → before ≡ packed (held_of s)
closed_none s [] e long = sym (ap (λ (n : ℕ). packed (take n (low_bits 8 s.held))) e)
closed_none s (x ∷ before) e long = absurd (omega arith)

pub closed_some : (s : State) (before : List ℕ) (v : ℕ) → 0 < s.holds → s.holds < 8 → length before ≡ octets_for s.holds → v ≡ first_octet (held_of s) → set before 0 v ≡ packed (held_of s)
closed_some s [] v some few long e = absurd (omega arith)
closed_some s (x ∷ y ∷ before) v some few long e = absurd (omega arith)
closed_some s (x ∷ []) v some few long e =
    let n : length (held_of s) ≡ s.holds = length-take-le s.holds (low_bits 8 s.held) (omega (arith, low_length 8 s.held)) in
    ap (λ (y : ℕ). y ∷ []) e ∙ sym (packed_short (held_of s) (omega arith) (omega arith))
