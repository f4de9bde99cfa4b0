-- An accepted call: what was written and what is held are the symbols to send, cut into octets.
use mathlib.Core.Path.{◌≡◌, sym, ap, ap₂, ◌∙◌}
use mathlib.Core.List.{List, ◌++◌}
use Prim.Native.Nat.{ℕ, ◌+◌, ◌-◌, ◌*◌, ◌/◌, ◌≤◌, ◌<◌}
use native.Mathlib.Omega.{arith}
use lib.ListN.{length, take, length-append}
use lib.Seq.{length-take-le, take-length}
use Rattle.refusals.specs.Order.{FirstOf}
use Rattle.refusals.specs.Sizes.{symbol_count}
use Rattle.refusals.specs.Calls.{convolve_order}
use Rattle.convolution.specs.declared.State.{State}
use Rattle.convolution.specs.declared.Flow.{Flow}
use Rattle.convolution.specs.Coder.{low_bits, bits_of, symbols_from, register_after, place_after, first_octet}
use Rattle.convolution.specs.Outcome.{held_of, symbols_of, to_send, state_after}
use Rattle.convolution.specs.Working.{stream, Sound, Opened, Handed, Run, Accepted}
use Rattle.convolution.proofs.Bits.{low_length}
use Rattle.convolution.proofs.Packing.{AreOctets, Cut, cut_length, cut_filled, cut_left}
use Rattle.convolution.proofs.Count.{symbol_count_lem}
use Rattle.convolution.proofs.Tables.{symbols_most}
use Rattle.convolution.proofs.Outcomes.{Legal, legal}

pub same_state : (a b : State) → a.register ≡ b.register → a.place ≡ b.place → a.holds ≡ b.holds → a.held ≡ b.held → a ≡ b
same_state a b p q r s =
    ap (λ (x : ℕ). record { register = x; place = a.place; holds = a.holds; held = a.held }) p
    ∙ ap₂ (λ (x y : ℕ). record { register = b.register; place = x; holds = y; held = a.held }) q r
    ∙ ap (λ (x : ℕ). record { register = b.register; place = b.place; holds = b.holds; held = x }) s

pub held_length : (s : State) → s.holds < 8 → length (held_of s) ≡ s.holds
held_length s h = length-take-le s.holds (low_bits 8 s.held) (omega (arith, low_length 8 s.held))

module _ (rate : ℕ) (s : State) (octets before : List ℕ) (none_due : FirstOf (convolve_order rate s.register s.place s.holds (length octets) (length before)) 0) where
  pub known : Legal rate s (length octets) (length before)
  known = legal rate s (length octets) (length before) none_due

  pub total : length (to_send rate s octets) ≡ s.holds + symbol_count rate s.place (length octets)
  total =
      length-append (held_of s) (symbols_of rate s octets)
      ∙ ap₂ ◌+◌ (held_length s known.coder.holds) (symbol_count_lem rate s.register s.place octets known.coder.rate known.coder.place)

  pub room_for : length before ≡ length (to_send rate s octets) / 8
  room_for = known.room ∙ ap (λ (n : ℕ). n / 8) (sym total)

  pub not_long : length before ≤ 4096
  not_long = omega (arith, known.room, symbols_most rate s.place (length octets) known.coder.rate, known.few, known.coder.holds)

  module _ (start : Flow) (opened : Opened s start) where
    pub start_sound : Sound rate start
    start_sound =
        record {
          register = omega (arith, opened.register, known.coder.register);
          place = omega (arith, opened.place, known.coder.place);
          held = opened.held;
          holds = omega (arith, opened.holds, known.coder.holds);
        }

    pub to_send_lem : stream rate start (bits_of octets) ≡ to_send rate s octets
    to_send_lem = ap₂ ◌++◌ opened.symbols (ap₂ (λ (r p : ℕ). symbols_from rate r p (bits_of octets)) opened.register opened.place)

    pub room_for_stream : length (stream rate start (bits_of octets)) / 8 ≤ length before
    room_for_stream = omega (arith, room_for, ap length to_send_lem)

    module _ (end : Flow) (after : List ℕ) (run : Run rate start (bits_of octets) end after) (long : length after ≡ length before) where
      same-symbols : to_send rate s octets ≡ bits_of after ++ low_bits end.holds end.held
      same-symbols =
          let n : length (stream rate start (bits_of octets)) / 8 ≡ length after = omega (arith, long, room_for, ap length to_send_lem) in
          let all : take (length (stream rate start (bits_of octets)) / 8) after ≡ after = ap (λ (m : ℕ). take m after) n ∙ take-length after in
          sym to_send_lem ∙ sym run.same ∙ ap (λ (l : List ℕ). bits_of l ++ low_bits end.holds end.held) all

      cut : AreOctets after → Cut (to_send rate s octets) after (low_bits end.holds end.held)
      cut small = record { same = same-symbols; small = small; few = omega (arith, low_length end.holds end.held, run.sound.holds) }

      numbers : AreOctets after → s.holds + length (symbols_of rate s octets) ≡ 8 * length before + end.holds
      numbers small =
          ap (λ (n : ℕ). n + length (symbols_of rate s octets)) (sym (held_length s known.coder.holds))
          ∙ sym (length-append (held_of s) (symbols_of rate s octets))
          ∙ cut_length _ _ _ (cut small)
          ∙ ap₂ (λ (n m : ℕ). 8 * n + m) long (low_length end.holds end.held)

      pub enough : AreOctets after → start.holds ≤ 8 * length before + end.holds
      enough small = omega (arith, opened.holds, numbers small)

      pub accepted : AreOctets after → (next : State) (n : ℕ) → Handed end next → n ≡ 8 * length before + end.holds - start.holds → Accepted rate s octets n next after
      accepted small next n handed e =
          let left = cut_left _ _ _ (cut small) in
          record {
            count = omega (arith, e, opened.holds, numbers small);
            state =
                same_state next (state_after rate s octets)
                (handed.register ∙ run.register ∙ ap (λ (r : ℕ). register_after r (bits_of octets)) opened.register)
                (handed.place ∙ run.place ∙ ap (λ (p : ℕ). place_after rate p (bits_of octets)) opened.place)
                (handed.holds ∙ sym (low_length end.holds end.held) ∙ ap length (sym left))
                (handed.held ∙ ap first_octet (sym left));
            symbols = sym (cut_filled _ _ _ (cut small));
          }
