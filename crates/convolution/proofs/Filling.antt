-- An octet went in: what is sent of its sums is what the definition sends for its bits, and register and place went on.
use mathlib.Core.Path.{◌≡◌, sym, ap, ap₂, subst, ◌∙◌}
use mathlib.Core.List.{List, ◌++◌, append_assoc}
use Prim.Native.Nat.{ℕ, ◌+◌, ◌*◌, ◌/◌, ◌%◌, ◌<◌}
use native.Mathlib.Nat.{mod-lt}
use native.Mathlib.Omega.{arith}
use Rattle.convolution.specs.declared.Flow.{Flow}
use Rattle.convolution.specs.Coder.{low_bits, g1, g2, register_after, place_after, symbols_from}
use Rattle.convolution.specs.Working.{added, sums_of, all_inverted, picked_from, Sent, Filled}
use Rattle.convolution.proofs.Bits.{low_mod}
use Rattle.convolution.proofs.Symbols.{symbols-append, register-append, place-append}
use Rattle.convolution.proofs.AtOnce.{sums-g1, sums-g2, register-at, symbols_picked, place_by_count}

module _ (rate octet : ℕ) (s : Flow) (small : octet < 256) (six : s.register < 64) where
  abbrev window : ℕ
  window = s.register * 256 + octet

  abbrev bits : List ℕ
  bits = low_bits 8 octet

  above : window / 256 % 64 ≡ s.register
  above = omega arith

  below : low_bits 8 window ≡ bits
  below = sym (low_mod 8 8 window (omega arith)) ∙ ap (low_bits 8) (omega arith)

  register_on : window % 64 ≡ register_after s.register bits
  register_on = sym (register-at 8 window) ∙ ap₂ register_after above below

  module _ (first plain second : ℕ) (t : Flow)
      (by-g1 : low_bits 8 first ≡ sums_of g1 (window / 256 % 64) (low_bits 8 window))
      (by-g2 : low_bits 8 plain ≡ sums_of g2 (window / 256 % 64) (low_bits 8 window))
      (turned : low_bits 8 second ≡ all_inverted rate (low_bits 8 plain))
      (sent : Sent rate s first second t) where
    picked_symbols : picked_from rate s.place (low_bits 8 first) (low_bits 8 second) ≡ symbols_from rate s.register s.place bits
    picked_symbols =
        ap₂ (picked_from rate s.place) (by-g1 ∙ ap₂ (sums_of g1) above below) (turned ∙ ap (all_inverted rate) (by-g2 ∙ ap₂ (sums_of g2) above below))
        ∙ sym (symbols_picked rate s.register s.place bits)

    place_on : t.place ≡ place_after rate s.place bits
    place_on = sent.place ∙ place_by_count 8 rate s.place first octet

    pub octet_filled : Filled rate s octet (record { register = window % 64; place = t.place; held = t.held; holds = t.holds })
    octet_filled =
        record {
          same = λ rest.
              record {
                symbols =
                    ap₂ ◌++◌ (sent.symbols ∙ ap (λ (l : List ℕ). low_bits s.holds s.held ++ l) picked_symbols) (ap₂ (λ (r p : ℕ). symbols_from rate r p rest) register_on place_on)
                    ∙ append_assoc (low_bits s.holds s.held) (symbols_from rate s.register s.place bits) _
                    ∙ ap (λ (l : List ℕ). low_bits s.holds s.held ++ l) (sym (symbols-append rate s.register s.place bits rest));
                register = ap (λ (r : ℕ). register_after r rest) register_on ∙ sym (register-append s.register bits rest);
                place = ap (λ (p : ℕ). place_after rate p rest) place_on ∙ sym (place-append rate s.place bits rest);
              };
          register = mod-lt window (omega arith);
          place = sent.small;
          holds = sent.holds;
        }

  -- The same of sums that were made at once, of the octet and the register before it in one number.
  module _ (wide last x y second : ℕ) (t : Flow)
      (is_window : wide ≡ window)
      (is_last : last ≡ wide % 64)
      (by-g1 : x ≡ added 2 4 8 64 wide)
      (by-g2 : y ≡ added 4 8 32 64 wide)
      (turned : low_bits 8 second ≡ all_inverted rate (low_bits 8 (y % 256)))
      (sent : Sent rate s (x % 256) second t) where
    abbrev first : ℕ
    first = x % 256

    first_are : low_bits 8 first ≡ sums_of g1 (window / 256 % 64) (low_bits 8 window)
    first_are = sums-g1 window x (by-g1 ∙ ap (added 2 4 8 64) is_window)

    plain_are : low_bits 8 (y % 256) ≡ sums_of g2 (window / 256 % 64) (low_bits 8 window)
    plain_are = sums-g2 window y (by-g2 ∙ ap (added 4 8 32 64) is_window)

    wide_on : window % 64 ≡ last
    wide_on = sym (is_last ∙ ap (λ (n : ℕ). n % 64) is_window)

    pub octet_filled_by_sums : Filled rate s octet (record { register = last; place = t.place; held = t.held; holds = t.holds })
    octet_filled_by_sums =
        subst (λ (r : ℕ). Filled rate s octet (record { register = r; place = t.place; held = t.held; holds = t.holds }))
        wide_on
        (octet_filled first (y % 256) second t first_are plain_are turned sent)
