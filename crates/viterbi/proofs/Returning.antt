-- What was coded comes back, however the coder's calls were cut: with no symbol wrong the call tells 0 places and the register that the coder
-- reached, so the next goes on from there.
use mathlib.Core.Path.{◌≡◌, refl, sym, ap, ap₂, ◌∙◌, subst}
use mathlib.Core.Logic.{◌⊎◌, inl, ⊎_elim}
use mathlib.Core.List.{List, [], ◌∷◌}
use Prim.Native.Nat.{ℕ, ◌+◌, ◌*◌, ◌/◌, ◌%◌, ◌≤◌, ◌<◌}
use native.Mathlib.Omega.{arith}
use lib.ListN.{length, get_or, drop}
use Rattle.refusals.specs.Order.{FirstOf}
use Rattle.refusals.specs.Calls.{likeliest_order, convolve_order}
use Rattle.refusals.proofs.Orders.{first_unique, clear_accepted}
use Rattle.refusals.proofs.Legal.{LegalCoder}
use Rattle.codewords.specs.Words.{Octets, differing}
use Rattle.codewords.proofs.LineWords.{differing_self, differing_none}
use Rattle.convolution.specs.declared.State.{State}
use Rattle.convolution.specs.Coder.{bits_of, g1, ones, connected, symbols_at, symbols_from, next_register, register_after, filled}
use Rattle.convolution.specs.Outcome.{to_send}
use Rattle.convolution.proofs.Bits.{bits-length}
use Rattle.convolution.proofs.Count.{symbol_count_lem}
use Rattle.convolution.proofs.Packing.{AreBits, symbols-bits}
use Rattle.convolution.proofs.Outcomes.{legal}
use Rattle.convolution.proofs.Calls.{Calls, one, more, calls_joined}
use Rattle.std.specs.Prelude.{Ok}
use Rattle.viterbi.specs.Likeliest.{places}
use Rattle.viterbi.specs.Outcome.{Sought, sought_number, sought_register, LikeliestOutcome}
use Rattle.viterbi.proofs.Octets.{bits_of_lem, known_by_bits, filled-bits}
use Rattle.viterbi.proofs.Settled.{sought_known, likeliest_settled}

-- ---- no two inputs have the same symbols

-- The first symbol of a bit tells the bit, by what the register adds to it.
by_register : (register x : ℕ) → x < 2 → connected g1 register x ≡ (1 * x + ones (drop 1 g1) register) % 2
by_register register x h =
    let bit : (register * 2 + x) % 2 ≡ x = omega arith in
    let older : (register * 2 + x) / 2 ≡ register = omega arith in
    ap₂ (λ (b w : ℕ). (1 * b + ones (drop 1 g1) w) % 2) bit older

bit_known : (register x y : ℕ) → x < 2 → y < 2 → connected g1 register x ≡ connected g1 register y → x ≡ y
bit_known register x y h l e = parity (ones (drop 1 g1) register) x y h l (sym (by_register register x h) ∙ e ∙ by_register register y l)
  where
    parity : (m x y : ℕ) → x < 2 → y < 2 → (1 * x + m) % 2 ≡ (1 * y + m) % 2 → x ≡ y
    parity m x y h l e = omega arith

symbols_known : (register : ℕ) (bits other : List ℕ) → AreBits bits → AreBits other → length bits ≡ length other →
    symbols_from 1 register 0 bits ≡ symbols_from 1 register 0 other → bits ≡ other
unfolding symbols_at
symbols_known register [] [] p q l e = refl
symbols_known register [] (y ∷ other) p q l e = absurd (omega arith)
symbols_known register (x ∷ bits) [] p q l e = absurd (omega arith)
symbols_known register (x ∷ bits) (y ∷ other) p q l e =
    let same : x ≡ y = bit_known register x y p.0 q.0 (ap (λ (s : List ℕ). get_or s 0 0) e) in
    ap₂ ◌∷◌ same
    (symbols_known (next_register register x) bits other p.1 q.1 (omega arith)
    (ap (drop 2) e ∙ ap (λ (b : ℕ). symbols_from 1 (next_register register b) 0 other) (sym same)))

pub coded-length : (register : ℕ) (input : List ℕ) → length (symbols_from 1 register 0 (bits_of input)) ≡ 16 * length input
coded-length register input = symbol_count_lem 1 register 0 input (inl refl) (omega arith) ∙ omega arith

-- ---- symbols with none wrong

module _ (register : ℕ) (input received : List ℕ) (coded : bits_of received ≡ symbols_from 1 register 0 (bits_of input)) where
  pub coded_double : length received ≡ 2 * length input
  coded_double = omega (arith, bits-length received, ap length coded, coded-length register input)

  none_wrong : places register received input ≡ 0
  none_wrong = ap (differing (symbols_from 1 register 0 (bits_of input))) coded ∙ differing_self (symbols_from 1 register 0 (bits_of input))

  pub coded_found : Octets input → (before : List ℕ) (answer : Sought) (after : List ℕ) → LikeliestOutcome register received before answer after → sought_number answer ≡ 0 → length before ≡ length input →
      (answer ≡ Ok (record { places = 0; register = register_after register (bits_of input) })) × (after ≡ input)
  coded_found octets before answer after o z l =
      let none : places register received after ≡ 0 = omega (arith, none_wrong, (o.best z).least input (sym l ∙ sym (o.long z))) in
      let same : after ≡ input =
      known_by_bits after input (o.octets z) octets
      (symbols_known register (bits_of after) (bits_of input) (bits_of_lem after) (bits_of_lem input) (omega (arith, bits-length after, bits-length input, o.long z))
      (differing_none _ _ none ∙ coded)) in (
        sought_known answer (Ok (record { places = 0; register = register_after register (bits_of input) })) z (λ y. o.differing z ∙ none) (λ y. o.reached z ∙ ap (λ (x : List ℕ). register_after register (bits_of x)) same),
        same,
      )

-- Legal numbers are accepted.
pub coded_accepted : (register : ℕ) (received before : List ℕ) (n : ℕ) → register < 64 → length before ≤ 256 → length received ≡ 2 * length before →
    FirstOf (likeliest_order register (length received) (length before)) n → n ≡ 0
coded_accepted register received before n h l d f =
    let order = likeliest_order register (length received) (length before) in
    let fits : (length received % 2 ≡ 1) ⊎ (512 < length received) → ⊥ = ⊎_elim (λ odd. omega arith) (λ over. omega arith) in
    first_unique order n 0 f (clear_accepted order (λ over. omega arith, (fits, (λ other. other (omega arith), tt))))

-- ---- symbols that the coder wrote

-- The coder's first call was accepted, so its state was legal.
start_legal : (s : State) {input written : List ℕ} {count : ℕ} {t : State} → Calls 1 s input written count t → LegalCoder 1 s.register s.place s.holds
start_legal s (one octets before answer u after o z) =
    (legal 1 s (length octets) (length before) (subst (FirstOf (convolve_order 1 s.register s.place s.holds (length octets) (length before))) z o.number)).coder
start_legal s (more octets before answer u after calls o z) = start_legal s calls

-- From a state that holds nothing the calls write just the symbols of their input, and lead to the register that it leads to.
module _ (s : State) (input written : List ℕ) (count : ℕ) (t : State) (calls : Calls 1 s input written count t) (nothing : s.holds ≡ 0) where
  pub written_symbols : bits_of written ≡ symbols_from 1 s.register 0 (bits_of input)
  written_symbols =
      let place : s.place ≡ 0 = omega (arith, (start_legal s calls).place) in
      let symbols = symbols_from 1 s.register 0 (bits_of input) in
      let sent : to_send 1 s input ≡ symbols = rw (nothing, place) in
      ap bits_of ((calls_joined 1 s input written count t calls).symbols ∙ ap filled sent)
      ∙ filled-bits symbols (symbols-bits 1 s.register 0 (bits_of input)) (omega (arith, coded-length s.register input))

  pub register_reached : t.register ≡ register_after s.register (bits_of input)
  register_reached = ap (λ (u : State). u.register) (calls_joined 1 s input written count t calls).state

  module _ (octets : Octets input) where
    pub coded_comes_back : (before : List ℕ) (answer : Sought) (after : List ℕ) → length input ≤ 256 → length before ≡ length input → LikeliestOutcome s.register written before answer after →
        (answer ≡ Ok (record { places = 0; register = t.register })) × (after ≡ input)
    coded_comes_back before answer after few l o =
        let double = coded_double s.register input written written_symbols in
        let accepted = coded_accepted s.register written before (sought_number answer) (start_legal s calls).register (omega arith) (omega arith) o.number in
        let found = coded_found s.register input written written_symbols octets before answer after o accepted l in
        (found.0 ∙ ap (λ (r : ℕ). Ok (record { places = 0; register = r })) (sym register_reached), found.1)

    -- So whatever comes next is decoded from the register reached as from the coder's own.
    pub register_handed_on : (before : List ℕ) (answer : Sought) (after : List ℕ) → length input ≤ 256 → length before ≡ length input → LikeliestOutcome s.register written before answer after →
        (received lent left right : List ℕ) (a b : Sought) → LikeliestOutcome (sought_register answer) received lent a left → LikeliestOutcome t.register received lent b right →
        (a ≡ b) × (left ≡ right)
    register_handed_on before answer after few l o received lent left right a b p q =
        let same : sought_register answer ≡ t.register = ap sought_register (coded_comes_back before answer after few l o).0 in
        likeliest_settled t.register received lent left right a b (subst (λ (r : ℕ). LikeliestOutcome r received lent a left) same p) q
