-- A call goes on by turns: a group of octets or one octet goes in, whole octets go out, and what is written with what is yet to be sent stays the same.
use mathlib.Core.Path.{◌≡◌, refl, sym, ap, ap₂, ◌∙◌, subst}
use mathlib.Core.List.{List, [], ◌∷◌, ◌++◌, append_assoc, append-nil}
use Prim.Native.Nat.{ℕ, ◌+◌, ◌-◌, ◌*◌, ◌/◌, ◌%◌, ◌^◌, ◌≤◌, ◌<◌}
use native.Mathlib.Nat.{mod-lt, mod-eq_of_lt, div-lt_iff_lt-mul}
use native.Mathlib.Numerals.{add-one}
use native.Mathlib.Omega.{arith}
use lib.Pow.{pow_pos, pow_mono, shr-shr, shr_lt}
use Rattle.std.specs.Prelude.{slice_range}
use lib.ListN.{length, get_or, take, drop, length-append, length-drop, take-append-drop, drop_of_length-le}
use lib.Seq.{length-take-le, take-suc, drop-drop}
use Rattle.refusals.specs.Sizes.{period}
use Rattle.convolution.specs.declared.Flow.{Flow}
use Rattle.convolution.specs.declared.Group.{Group}
use Rattle.convolution.specs.declared.Progress.{Progress}
use Rattle.convolution.specs.Coder.{low_bits, bits_of, g1, g2, symbols_from, register_after, place_after}
use Rattle.convolution.specs.Working.{stream, added, sums_of, picked_from, Sound, Filled, Ready, Kept, Run}
use Rattle.convolution.specs.GroupWorking.{SumsBy, symbols_by, Grouped, Put, whole_of, Underway, Turned}
use Rattle.convolution.proofs.Bits.{low_split, low_mod, low_length, bits-append}
use Rattle.convolution.proofs.Symbols.{symbols-append, register-append, place-append}
use Rattle.convolution.proofs.AtOnce.{all-g1, all-g2, register-at, symbols_picked, none_inverted}
use Rattle.convolution.proofs.Puncturing.{fits_below, joined-below}
use Rattle.convolution.proofs.Stream.{octet_gone, octets_out, room, lengths, ended}

-- ---- octets read below a register

pub window_small : (w k : ℕ) → k ≤ 6 → w / 2 ^ (8 * k) < 64 → w < 2 ^ 54
window_small w k few h =
    let fits : w < 64 * 2 ^ (8 * k) = (div-lt_iff_lt-mul (pow_pos (8 * k))).0 h in
    omega (arith, pow_mono {i = 8 * k} {j = 48} (omega arith))

module _ (octets : List ℕ) (k w octet : ℕ) (within : k < length octets) (small : octet < 256) (read : octet ≡ get_or octets k 0) where
  abbrev next : ℕ
  next = w * 256 + octet

  up : 8 * (k + 1) ≡ 8 * k + 8
  up = omega arith

  pub window_above : next / 2 ^ (8 * (k + 1)) ≡ w / 2 ^ (8 * k)
  window_above =
      let one : next / 2 ^ 8 ≡ w = omega arith in
      let sum : 8 * (k + 1) ≡ 8 + 8 * k = omega arith in
      ap (λ (n : ℕ). next / 2 ^ n) sum ∙ sym (shr-shr next 8 (8 * k)) ∙ ap (λ (x : ℕ). x / 2 ^ (8 * k)) one

  pub window-below : low_bits (8 * k) w ≡ bits_of (take k octets) → low_bits (8 * (k + 1)) next ≡ bits_of (take (k + 1) octets)
  window-below e =
      let one : next / 2 ^ 8 ≡ w = omega arith in
      let low : low_bits 8 next ≡ low_bits 8 octet = sym (low_mod 8 8 next (omega arith)) ∙ ap (low_bits 8) (omega arith) in
      let more : take (k + 1) octets ≡ take k octets ++ (octet ∷ []) =
      ap (λ (n : ℕ). take n octets) (add-one k)
      ∙ take-suc octets k 0 within
      ∙ ap (λ (x : ℕ). take k octets ++ (x ∷ [])) (sym read) in
      ap (λ (n : ℕ). low_bits n next) up
      ∙ low_split (8 * k) 8 next
      ∙ ap₂ ◌++◌ (ap (low_bits (8 * k)) one ∙ e) (low ∙ sym (append-nil (low_bits 8 octet)))
      ∙ sym (ap bits_of more ∙ bits-append (take k octets) (octet ∷ []))

-- ---- the held symbols go out first

module _ (held holds symbols n : ℕ) (few : holds < 8) (some : 8 ≤ n) (most : n ≤ 64) (small : symbols < 2 ^ n) where
  abbrev rest : ℕ
  rest = symbols / 2 ^ holds

  all : (n - holds) + holds ≡ n
  all = omega arith

  short : rest % 2 ^ (n - holds) ≡ rest
  short = mod-eq_of_lt (shr_lt (n - holds) holds (subst (λ (m : ℕ). symbols < 2 ^ m) (sym all) small))

  pub behind_fits : held * 2 ^ (n - holds) % 2 ^ 64 + rest < 2 ^ 64
  behind_fits = subst (λ (x : ℕ). held * 2 ^ (n - holds) % 2 ^ 64 + x < 2 ^ 64) short (fits_below 64 held rest (n - holds) (omega arith))

  pub behind_held : low_bits n (held * 2 ^ (n - holds) % 2 ^ 64 + rest) ++ low_bits holds symbols ≡ low_bits holds held ++ low_bits n symbols
  behind_held =
      let out = held * 2 ^ (n - holds) % 2 ^ 64 + rest in
      let whole : n ≡ holds + (n - holds) = omega arith in
      let front : low_bits n out ≡ low_bits holds held ++ low_bits (n - holds) rest =
      ap₂ (λ (m x : ℕ). low_bits m (held * 2 ^ (n - holds) % 2 ^ 64 + x)) whole (sym short) ∙ joined-below 64 held rest (n - holds) (omega arith) holds (omega arith) in
      ap (λ (l : List ℕ). l ++ low_bits holds symbols) front
      ∙ append_assoc (low_bits holds held) (low_bits (n - holds) rest) (low_bits holds symbols)
      ∙ ap (λ (l : List ℕ). low_bits holds held ++ l) (sym (low_split (n - holds) holds symbols) ∙ ap (λ (m : ℕ). low_bits m symbols) all)

-- ---- a group goes in

module _ (rate : ℕ) (octets before : List ℕ) (p : Progress) (g : Group) (grouped : Grouped rate g) (under : Underway rate octets before p) (first-place : p.flow.place ≡ 0) (within : p.read + g.octets ≤ length octets)
    (w x y v : ℕ) (above : w / 2 ^ (8 * g.octets) ≡ p.flow.register) (below : low_bits (8 * g.octets) w ≡ bits_of (take g.octets (drop p.read octets)))
    (by-g1 : SumsBy g1 w x) (by-g2 : SumsBy g2 w y) (sent : v ≡ symbols_by g x y) where
  abbrev s : Flow
  s = p.flow

  abbrev bits : List ℕ
  bits = bits_of (take g.octets (drop p.read octets))

  abbrev to_come : List ℕ
  to_come = bits_of (drop (p.read + g.octets) octets)

  cut : bits_of (drop p.read octets) ≡ bits ++ to_come
  cut =
      ap bits_of (sym (take-append-drop g.octets (drop p.read octets)) ∙ ap (λ (l : List ℕ). take g.octets (drop p.read octets) ++ l) (drop-drop g.octets p.read octets))
      ∙ bits-append (take g.octets (drop p.read octets)) (drop (p.read + g.octets) octets)

  register_found : w / 2 ^ (8 * g.octets) % 64 ≡ s.register
  register_found = ap (λ (r : ℕ). r % 64) above ∙ mod-eq_of_lt under.sound.register

  symbols_are : low_bits (8 * g.filled) v ≡ symbols_from rate s.register s.place bits
  symbols_are =
      let c2 = sums_of g2 s.register bits in
      ap (low_bits (8 * g.filled)) sent
      ∙ grouped.symbols x y
      ∙ ap₂ (picked_from rate 0) (by-g1 (8 * g.octets) ∙ ap₂ (sums_of g1) register_found below) (by-g2 (8 * g.octets) ∙ ap₂ (sums_of g2) register_found below ∙ none_inverted rate c2 grouped.punctured)
      ∙ sym (symbols_picked rate s.register 0 bits)
      ∙ ap (λ (q : ℕ). symbols_from rate s.register q bits) (sym first-place)

  register_on : w % 64 ≡ register_after s.register bits
  register_on = sym (register-at (8 * g.octets) w) ∙ ap₂ register_after register_found below

  place_on : 0 ≡ place_after rate s.place bits
  place_on = sym (grouped.place w) ∙ ap₂ (place_after rate) (sym first-place) below

  -- What follows the held symbols: the group's, and those to come.
  follows : symbols_from rate s.register s.place (bits_of (drop p.read octets)) ≡ low_bits (8 * g.filled) v ++ symbols_from rate (w % 64) 0 to_come
  follows =
      ap (symbols_from rate s.register s.place) cut
      ∙ symbols-append rate s.register s.place bits to_come
      ∙ ap₂ ◌++◌ (sym symbols_are) (ap₂ (λ (r q : ℕ). symbols_from rate r q to_come) (sym register_on) (sym place_on))

  pub group_room : p.written + g.filled ≤ length before
  group_room =
      let front = take p.written before in
      let n : length front ≡ p.written = length-take-le p.written before under.fits in
      let all = lengths front (whole_of rate octets before p) (symbols_from rate s.register s.place (bits_of (drop p.read octets))) s.holds s.held refl in
      let more : length (symbols_from rate s.register s.place (bits_of (drop p.read octets))) ≡ 8 * g.filled + length (symbols_from rate (w % 64) 0 to_come) =
      ap length follows ∙ length-append (low_bits (8 * g.filled) v) _ ∙ ap (λ (k : ℕ). k + length (symbols_from rate (w % 64) 0 to_come)) (low_length (8 * g.filled) v) in
      omega (arith, under.room)

  module _ (out : ℕ) (after : List ℕ)
      (behind : low_bits (8 * g.filled) out ++ low_bits s.holds v ≡ low_bits s.holds s.held ++ low_bits (8 * g.filled) v)
      (put : Put before p.written out g.filled after) where
    abbrev q : Progress
    q = record { flow = record { register = w % 64; place = 0; held = v % 128; holds = s.holds }; read = p.read + g.octets; written = p.written + g.filled }

    same_whole : whole_of rate octets after q ≡ whole_of rate octets before p
    same_whole =
        let front = bits_of (take p.written before) in
        let new = low_bits (8 * g.filled) v in
        let last = symbols_from rate (w % 64) 0 to_come in
        let kept : low_bits s.holds (v % 128) ≡ low_bits s.holds v = low_mod s.holds 7 v (omega (arith, under.sound.holds)) in
        ap₂ (λ (a b : List ℕ). a ++ (b ++ last)) put.same kept
        ∙ append_assoc front (low_bits (8 * g.filled) out) (low_bits s.holds v ++ last)
        ∙ ap (λ (l : List ℕ). front ++ l)
        (sym (append_assoc (low_bits (8 * g.filled) out) (low_bits s.holds v) last)
        ∙ ap (λ (l : List ℕ). l ++ last) behind
        ∙ append_assoc (low_bits s.holds s.held) new last
        ∙ ap (λ (l : List ℕ). low_bits s.holds s.held ++ l) (sym follows))

    pub group_turned : Turned rate octets before p after q
    group_turned =
        record {
          long = put.long;
          same = same_whole;
          register = ap (λ (r : ℕ). register_after r to_come) register_on ∙ sym (register-append s.register bits to_come) ∙ ap (register_after s.register) (sym cut);
          place = ap (λ (k : ℕ). place_after rate k to_come) place_on ∙ sym (place-append rate s.place bits to_come) ∙ ap (place_after rate s.place) (sym cut);
          sound =
              record {
                register = mod-lt w (omega arith);
                place = subst (λ (k : ℕ). k < period rate) first-place under.sound.place;
                held = mod-lt v (omega arith);
                holds = under.sound.holds;
              };
          further = omega (arith, grouped.some);
          within = within;
          fits = subst (λ (n : ℕ). p.written + g.filled ≤ n) (sym put.long) group_room;
        }

-- The same of sums that were made at once, of the group's octets and the register before them in one number.
module _ (rate : ℕ) (octets before : List ℕ) (p : Progress) (g : Group) (grouped : Grouped rate g) (under : Underway rate octets before p) (first-place : p.flow.place ≡ 0) (within : p.read + g.octets ≤ length octets)
    (w x y v : ℕ)
    (stands : let part = slice_range octets p.read (p.read + g.octets) in (w / 2 ^ (8 * length part) ≡ p.flow.register) × (low_bits (8 * length part) w ≡ bits_of part))
    (added-g1 : x ≡ added 2 4 8 64 w) (added-g2 : y ≡ added 4 8 32 64 w) (sent : v ≡ symbols_by g x y) where
  part_is : slice_range octets p.read (p.read + g.octets) ≡ take g.octets (drop p.read octets)
  part_is = ap (λ (n : ℕ). take n (drop p.read octets)) (omega arith)

  long : length (slice_range octets p.read (p.read + g.octets)) ≡ g.octets
  long = ap length part_is ∙ length-take-le g.octets (drop p.read octets) (omega (arith, length-drop p.read octets))

  above : w / 2 ^ (8 * g.octets) ≡ p.flow.register
  above = ap (λ (n : ℕ). w / 2 ^ (8 * n)) (sym long) ∙ stands.0

  below : low_bits (8 * g.octets) w ≡ bits_of (take g.octets (drop p.read octets))
  below = ap (λ (n : ℕ). low_bits (8 * n) w) (sym long) ∙ stands.1 ∙ ap bits_of part_is

  pub group_room_by_sums : p.written + g.filled ≤ length before
  group_room_by_sums = group_room rate octets before p g grouped under first-place within w x y v above below (all-g1 w x added-g1) (all-g2 w y added-g2) sent

  pub group_turned_by_sums : (out : ℕ) (after : List ℕ) → low_bits (8 * g.filled) out ++ low_bits p.flow.holds v ≡ low_bits p.flow.holds p.flow.held ++ low_bits (8 * g.filled) v →
      Put before p.written out g.filled after →
      Turned rate octets before p after
      (record { flow = record { register = w % 64; place = 0; held = v % 128; holds = p.flow.holds }; read = p.read + g.octets; written = p.written + g.filled })
  group_turned_by_sums = group_turned rate octets before p g grouped under first-place within w x y v above below (all-g1 w x added-g1) (all-g2 w y added-g2) sent

-- ---- an octet goes in

module _ (rate : ℕ) (octets before : List ℕ) (p : Progress) (under : Underway rate octets before p) (within : p.read < length octets) (full : Flow) (filled : Filled rate p.flow (get_or octets p.read 0) full) where
  pub octet_room : p.written + full.holds / 8 ≤ length before
  octet_room = room rate p.read p.written octets before (whole_of rate octets before p) p.flow full within filled under.fits under.room refl

  pub octet_turned : (after : List ℕ) (kept : Flow) → Ready before p.written full.held full.holds after → Kept full kept →
      Turned rate octets before p after (record { flow = kept; read = p.read + 1; written = p.written + full.holds / 8 })
  octet_turned after kept ready keeps =
      let gone = octet_gone rate p.read octets p.flow full within filled in
      let to_come = bits_of (drop (p.read + 1) octets) in
      record {
        long = ready.long;
        same = octets_out rate p.written before after to_come (whole_of rate octets before p) full kept ready keeps (ap (λ (l : List ℕ). bits_of (take p.written before) ++ l) gone.symbols);
        register = ap (λ (r : ℕ). register_after r to_come) keeps.register ∙ gone.register;
        place = ap (λ (k : ℕ). place_after rate k to_come) keeps.place ∙ gone.place;
        sound =
            record {
              register = subst (λ (r : ℕ). r < 64) (sym keeps.register) filled.register;
              place = subst (λ (k : ℕ). k < period rate) (sym keeps.place) filled.place;
              held = keeps.held;
              holds = omega (arith, keeps.holds);
            };
        further = omega arith;
        within = omega arith;
        fits = omega (arith, octet_room, ready.long);
      }

-- ---- turns one after the other

-- A call that began at a state with nothing written has gone so far.
pub record Going (rate : ℕ) (octets before : List ℕ) (start : Flow) (symbols : List ℕ) (p : Progress) : Type 0 where
  pub long : length symbols ≡ length before
  pub same : whole_of rate octets symbols p ≡ stream rate start (bits_of octets)
  pub register : register_after p.flow.register (bits_of (drop p.read octets)) ≡ register_after start.register (bits_of octets)
  pub place : place_after rate p.flow.place (bits_of (drop p.read octets)) ≡ place_after rate start.place (bits_of octets)
  pub sound : Sound rate p.flow
  pub within : p.read ≤ length octets
  pub fits : p.written ≤ length symbols

module _ (rate : ℕ) (octets before : List ℕ) (start : Flow) where
  module _ (symbols : List ℕ) (p : Progress) (going : Going rate octets before start symbols p) where
    pub going_underway : length (stream rate start (bits_of octets)) / 8 ≤ length before → Underway rate octets symbols p
    going_underway enough = record { sound = going.sound; fits = going.fits; room = omega (arith, enough, going.long, ap length going.same) }

    pub going_on : (after : List ℕ) (q : Progress) → Turned rate octets symbols p after q → Going rate octets before start after q
    going_on after q turned =
        record {
          long = turned.long ∙ going.long;
          same = turned.same ∙ going.same;
          register = turned.register ∙ going.register;
          place = turned.place ∙ going.place;
          sound = turned.sound;
          within = turned.within;
          fits = turned.fits;
        }

    pub going_over : length octets ≤ p.read → Run rate start (bits_of octets) p.flow symbols
    going_over over =
        let whole = stream rate start (bits_of octets) in
        let front = take p.written symbols in
        let n : length front ≡ p.written = length-take-le p.written symbols going.fits in
        let none : drop p.read octets ≡ [] = drop_of_length-le octets {i = p.read} over in
        let e =
        ended front whole p.flow.holds p.flow.held going.sound.holds
        (subst (λ (l : List ℕ). bits_of front ++ stream rate p.flow (bits_of l) ≡ whole) none going.same) in
        record {
          same = ap (λ (m : ℕ). bits_of (take m symbols) ++ low_bits p.flow.holds p.flow.held) (sym e.octets ∙ n) ∙ e.same;
          register = ap (λ (l : List ℕ). register_after p.flow.register (bits_of l)) (sym none) ∙ going.register;
          place = ap (λ (l : List ℕ). place_after rate p.flow.place (bits_of l)) (sym none) ∙ going.place;
          sound = going.sound;
        }
