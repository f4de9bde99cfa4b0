-- Rate 1/2 with nothing held: the symbols of octets one after the other, two octets for each.
use mathlib.Core.Path.{◌≡◌, refl, sym, ap, ap₂, ◌∙◌}
use mathlib.Core.List.{List, [], ◌∷◌, ◌++◌, append-nil}
use mathlib.Core.Logic.{inl}
use Prim.Native.Nat.{ℕ, ◌+◌, ◌-◌, ◌*◌, ◌/◌, ◌%◌, ◌≤◌, ◌<◌}
use native.Mathlib.Nat.{mod-lt}
use native.Mathlib.Numerals.{add-one}
use native.Mathlib.Omega.{arith}
use lib.ListN.{length, get_or, take}
use lib.Seq.{take-suc, take-length}
use Rattle.convolution.specs.declared.Flow.{Flow}
use Rattle.convolution.specs.Coder.{low_bits, bits_of, symbols_from, register_after, place_after}
use Rattle.convolution.specs.Working.{stream, Sound, Filled, Ready, Run}
use Rattle.convolution.specs.GroupWorking.{PairPut}
use Rattle.convolution.proofs.Bits.{low_mod, low_length, bits-append}
use Rattle.convolution.proofs.Symbols.{symbols-append, register-append, register_small}
use Rattle.convolution.proofs.AtOnce.{register-at}
use Rattle.convolution.proofs.Count.{symbol_count_lem}

-- The place stays where it is, and register and octet make one window.
place_stays : (bits : List ℕ) → place_after 1 0 bits ≡ 0
place_stays [] = refl
place_stays (bit ∷ bits) = place_stays bits

register_octet : (register octet : ℕ) → register < 64 → octet < 256 → register_after register (low_bits 8 octet) ≡ octet % 64
register_octet register octet six small =
    let window = register * 256 + octet in
    let above : window / 256 % 64 ≡ register = omega arith in
    let below : low_bits 8 window ≡ low_bits 8 octet = sym (low_mod 8 8 window (omega arith)) ∙ ap (low_bits 8) (omega arith) in
    ap₂ register_after (sym above) (sym below) ∙ register-at 8 window ∙ omega arith

-- ---- an octet gives two

module _ (register octet : ℕ) (full : Flow) (filled : Filled 1 (record { register = register; place = 0; held = 0; holds = 0 }) octet full) where
  sent : low_bits full.holds full.held ≡ symbols_from 1 register 0 (low_bits 8 octet)
  sent =
      sym (append-nil (low_bits full.holds full.held))
      ∙ (filled.same []).symbols
      ∙ ap (symbols_from 1 register 0) (append-nil (low_bits 8 octet))

  pub sixteen : full.holds ≡ 16
  sixteen =
      sym (low_length full.holds full.held)
      ∙ ap length (sent ∙ ap (symbols_from 1 register 0) (sym (append-nil (low_bits 8 octet))))
      ∙ symbol_count_lem 1 register 0 (octet ∷ []) (inl refl) (omega arith)

  pub pair_put : (before after : List ℕ) (at : ℕ) → Ready before at full.held full.holds after → PairPut before at register octet after
  pair_put before after at ready =
      let two : full.holds / 8 ≡ 2 = omega (arith, sixteen) in
      let none : full.holds % 8 ≡ 0 = omega (arith, sixteen) in
      record {
        long = ready.long;
        same =
            sym (append-nil (bits_of (take (at + 2) after)))
            ∙ sym (ap₂ (λ (n m : ℕ). bits_of (take (at + n) after) ++ low_bits m full.held) two none)
            ∙ ready.same
            ∙ ap (λ (l : List ℕ). bits_of (take at before) ++ l) sent;
      }

-- ---- octets one after the other

-- So many octets are in: twice as many are out.
abbrev pub Paired : ℕ → List ℕ → ℕ → List ℕ → Type 0
Paired register octets i symbols = bits_of (take (2 * i) symbols) ≡ symbols_from 1 register 0 (bits_of (take i octets))

module _ (register : ℕ) (octets : List ℕ) (six : register < 64) where
  one_more : (i : ℕ) → i < length octets → bits_of (take (i + 1) octets) ≡ bits_of (take i octets) ++ low_bits 8 (get_or octets i 0)
  one_more i h =
      ap (λ (n : ℕ). bits_of (take n octets)) (add-one i)
      ∙ ap bits_of (take-suc octets i 0 h)
      ∙ bits-append (take i octets) (get_or octets i 0 ∷ [])
      ∙ ap (λ (l : List ℕ). bits_of (take i octets) ++ l) (append-nil (low_bits 8 (get_or octets i 0)))

  -- The register after so many octets, and one more, is the last six bits of that one.
  pub register_last : (i : ℕ) → i < length octets → get_or octets i 0 < 256 → register_after register (bits_of (take (i + 1) octets)) ≡ get_or octets i 0 % 64
  register_last i h small =
      ap (register_after register) (one_more i h)
      ∙ register-append register (bits_of (take i octets)) (low_bits 8 (get_or octets i 0))
      ∙ register_octet _ (get_or octets i 0) (register_small register (bits_of (take i octets)) six) small

  paired_next : (i r : ℕ) (symbols after : List ℕ) → i < length octets → r ≡ register_after register (bits_of (take i octets))
      → PairPut symbols (2 * i) r (get_or octets i 0) after → Paired register octets i symbols → Paired register octets (i + 1) after
  paired_next i r symbols after h e put sofar =
      let two : 2 * (i + 1) ≡ 2 * i + 2 = omega arith in
      let front = bits_of (take i octets) in
      ap (λ (n : ℕ). bits_of (take n after)) two
      ∙ put.same
      ∙ ap₂ ◌++◌ sofar (ap₂ (λ (x p : ℕ). symbols_from 1 x p (low_bits 8 (get_or octets i 0))) e (sym (place_stays front)))
      ∙ sym (symbols-append 1 register 0 front (low_bits 8 (get_or octets i 0)))
      ∙ ap (symbols_from 1 register 0) (sym (one_more i h))

  pub paired_first : (symbols after : List ℕ) → 0 < length octets → PairPut symbols 0 register (get_or octets 0 0) after → Paired register octets 1 after
  paired_first symbols after h put = paired_next 0 register symbols after h refl put refl

  pub paired_on : (i : ℕ) (symbols after : List ℕ) → 0 < i → i < length octets → get_or octets (i - 1) 0 < 256
      → PairPut symbols (2 * i) (get_or octets (i - 1) 0 % 64) (get_or octets i 0) after → Paired register octets i symbols → Paired register octets (i + 1) after
  paired_on i symbols after some h small put sofar =
      let back : i - 1 + 1 ≡ i = omega arith in
      paired_next i (get_or octets (i - 1) 0 % 64) symbols after h (sym (register_last (i - 1) (omega arith) small) ∙ ap (λ (n : ℕ). register_after register (bits_of (take n octets))) back) put sofar

-- ---- the whole call

pub nothing_in : (start : Flow) (octets symbols : List ℕ) → Sound 1 start → start.holds ≡ 0 → length octets ≡ 0 → Run 1 start (bits_of octets) start symbols
nothing_in start (x ∷ octets) symbols sound none e = absurd (omega arith)
nothing_in start [] symbols sound none e =
    let nothing : length (stream 1 start []) / 8 ≡ 0 = ap (λ (n : ℕ). length (low_bits n start.held ++ []) / 8) none in
    record {
      same = ap (λ (n : ℕ). bits_of (take n symbols) ++ low_bits start.holds start.held) nothing ∙ sym (append-nil (low_bits start.holds start.held));
      register = refl;
      place = refl;
      sound = sound;
    }

module _ (start : Flow) (octets : List ℕ) (sound : Sound 1 start) (none : start.holds ≡ 0) where
  to_send_lem : stream 1 start (bits_of octets) ≡ symbols_from 1 start.register 0 (bits_of octets)
  to_send_lem =
      let first : start.place ≡ 0 = omega (arith, sound.place) in
      ap₂ (λ (n p : ℕ). low_bits n start.held ++ symbols_from 1 start.register p (bits_of octets)) none first

  length-to_send : length (stream 1 start (bits_of octets)) / 8 ≡ 2 * length octets
  length-to_send = ap (λ (l : List ℕ). length l / 8) to_send_lem ∙ ap (λ (n : ℕ). n / 8) (symbol_count_lem 1 start.register 0 octets (inl refl) (omega arith)) ∙ omega arith

  pub pairs_room : (n : ℕ) → length (stream 1 start (bits_of octets)) / 8 ≤ n → 2 * length octets ≤ n
  pairs_room n h = omega (arith, length-to_send)

  pub all_paired : (symbols : List ℕ) → 0 < length octets → get_or octets (length octets - 1) 0 < 256 → Paired start.register octets (length octets) symbols
      → Run 1 start (bits_of octets) (record { register = get_or octets (length octets - 1) 0 % 64; place = start.place; held = start.held; holds = start.holds }) symbols
  all_paired symbols some small paired =
      let back : length octets - 1 + 1 ≡ length octets = omega arith in
      let all : take (length octets) octets ≡ octets = take-length octets in
      let first : start.place ≡ 0 = omega (arith, sound.place) in
      record {
        same =
            ap₂ (λ (n m : ℕ). bits_of (take n symbols) ++ low_bits m start.held) length-to_send none
            ∙ append-nil _
            ∙ paired
            ∙ ap (λ (l : List ℕ). symbols_from 1 start.register 0 (bits_of l)) all
            ∙ sym to_send_lem;
        register = sym (register_last start.register octets sound.register (length octets - 1) (omega arith) small) ∙ ap (λ (n : ℕ). register_after start.register (bits_of (take n octets))) back ∙ ap (λ (l : List ℕ). register_after start.register (bits_of l)) all;
        place = first ∙ sym (place_stays (bits_of octets)) ∙ ap (λ (p : ℕ). place_after 1 p (bits_of octets)) (sym first);
        sound = record { register = mod-lt (get_or octets (length octets - 1) 0) (omega arith); place = sound.place; held = sound.held; holds = sound.holds };
      }
