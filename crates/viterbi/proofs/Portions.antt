-- Portions: with no symbol wrong what was coded comes back, however the coder's calls and the decoder's are cut.
use mathlib.Core.Path.{◌≡◌, refl, sym, ap, ap₂, ◌∙◌, subst}
use mathlib.Core.List.{List, [], ◌∷◌, ◌++◌}
use Prim.Native.Nat.{ℕ, ◌*◌, ◌≤◌}
use native.Mathlib.Omega.{arith}
use lib.ListN.{length, take, drop, length-append, take-append-drop}
use lib.Seq.{take_at, drop_at, length-take-le}
use Rattle.refusals.specs.Order.{FirstOf}
use Rattle.refusals.specs.Calls.{likeliest_order}
use Rattle.refusals.proofs.Legal.{accepted_likeliest}
use Rattle.codewords.specs.Words.{Octets}
use Rattle.convolution.specs.declared.State.{State}
use Rattle.convolution.specs.Coder.{bits_of, symbols_from, register_after, place_after}
use Rattle.convolution.proofs.Bits.{bits-append, bits-length}
use Rattle.convolution.proofs.Symbols.{symbols-append, register-append}
use Rattle.convolution.proofs.Calls.{Calls}
use Rattle.viterbi.specs.Outcome.{Sought, sought_number, sought_register, LikeliestOutcome}
use Rattle.viterbi.proofs.Octets.{nothing, octets-taken, octets_dropped}
use Rattle.viterbi.proofs.Returning.{coded-length, coded_double, coded_found, written_symbols, register_reached}

-- Calls one after the other, each accepted and from the register that the one before it reached: the symbols that they were given, the data that they
-- left, and the last register.
pub data Portions : ℕ → List ℕ → List ℕ → ℕ → Type 0 where
  none : (register : ℕ) → Portions register [] [] register
  then : {received input : List ℕ} {end : ℕ} (register : ℕ) (symbols before : List ℕ) (answer : Sought) (after : List ℕ) → LikeliestOutcome register symbols before answer after →
      sought_number answer ≡ 0 → Portions (sought_register answer) received input end → Portions register (symbols ++ received) (after ++ input) end

place_stays : (bits : List ℕ) → place_after 1 0 bits ≡ 0
place_stays [] = refl
place_stays (bit ∷ bits) = place_stays bits

-- The symbols of joined inputs are told apart by their number.
cut_coded : (register k : ℕ) (first later input : List ℕ) → length first ≡ 2 * k → bits_of (first ++ later) ≡ symbols_from 1 register 0 (bits_of input) →
    (length (take k input) ≡ k)
    × (bits_of first ≡ symbols_from 1 register 0 (bits_of (take k input)))
    × (bits_of later ≡ symbols_from 1 (register_after register (bits_of (take k input))) 0 (bits_of (drop k input)))
cut_coded register k first later input l coded = (front, sym taken-first ∙ ap (take (16 * k)) both ∙ taken_second, sym dropped_first ∙ ap (drop (16 * k)) both ∙ dropped_second)
  where
    bits : bits_of input ≡ bits_of (take k input) ++ bits_of (drop k input)
    bits = ap bits_of (sym (take-append-drop k input)) ∙ bits-append (take k input) (drop k input)

    enough : k ≤ length input
    enough = omega (arith, coded_double register input (first ++ later) coded, length-append first later)

    front : length (take k input) ≡ k
    front = length-take-le k input enough

    head : List ℕ
    head = symbols_from 1 register 0 (bits_of (take k input))

    tail : List ℕ
    tail = symbols_from 1 (register_after register (bits_of (take k input))) 0 (bits_of (drop k input))

    joined : symbols_from 1 register 0 (bits_of input) ≡ head ++ tail
    joined =
        ap (symbols_from 1 register 0) bits
        ∙ symbols-append 1 register 0 (bits_of (take k input)) (bits_of (drop k input))
        ∙ ap (λ (p : ℕ). head ++ symbols_from 1 (register_after register (bits_of (take k input))) p (bits_of (drop k input))) (place_stays (bits_of (take k input)))

    both : bits_of first ++ bits_of later ≡ head ++ tail
    both = sym (bits-append first later) ∙ coded ∙ joined

    first_long : length (bits_of first) ≡ 16 * k
    first_long = omega (arith, bits-length first)

    head_long : length head ≡ 16 * k
    head_long = coded-length register (take k input) ∙ ap (λ (n : ℕ). 16 * n) front

    taken-first : take (16 * k) (bits_of first ++ bits_of later) ≡ bits_of first
    taken-first = take_at (bits_of first) (bits_of later) (16 * k) first_long

    taken_second : take (16 * k) (head ++ tail) ≡ head
    taken_second = take_at head tail (16 * k) head_long

    dropped_first : drop (16 * k) (bits_of first ++ bits_of later) ≡ bits_of later
    dropped_first = drop_at (bits_of first) (bits_of later) (16 * k) first_long

    dropped_second : drop (16 * k) (head ++ tail) ≡ tail
    dropped_second = drop_at head tail (16 * k) head_long

coded_portions : (register : ℕ) (received output : List ℕ) (end : ℕ) → Portions register received output end →
    (input : List ℕ) → Octets input → bits_of received ≡ symbols_from 1 register 0 (bits_of input) → (output ≡ input) × (end ≡ register_after register (bits_of input))
coded_portions register received output end (none r) input p coded =
    let empty : input ≡ [] = nothing input (omega (arith, coded_double register input [] coded)) in
    (sym empty, ap (λ (l : List ℕ). register_after register (bits_of l)) (sym empty))
coded_portions register received output end (then r symbols before answer after o z later) input p coded =
    let k = length after in
    let legal = accepted_likeliest register (length symbols) (length before) (subst (FirstOf (likeliest_order register (length symbols) (length before))) z o.number) in
    let cut = cut_coded register k symbols _ input (omega (arith, legal.even, legal.half, o.long z)) coded in
    let found = coded_found register (take k input) symbols cut.1 (octets-taken k input p) before answer after o z (sym (o.long z) ∙ sym cut.0) in
    let reached : sought_register answer ≡ register_after register (bits_of (take k input)) = ap sought_register found.0 in
    let rest =
    coded_portions (sought_register answer) _ _ end later (drop k input) (octets_dropped k input p)
    (cut.2 ∙ ap (λ (q : ℕ). symbols_from 1 q 0 (bits_of (drop k input))) (sym reached)) in (
      ap₂ ◌++◌ found.1 rest.0 ∙ take-append-drop k input,
      rest.1
          ∙ ap (λ (q : ℕ). register_after q (bits_of (drop k input))) reached
          ∙ sym (register-append register (bits_of (take k input)) (bits_of (drop k input)))
          ∙ ap (register_after register) (sym (bits-append (take k input) (drop k input)) ∙ ap bits_of (take-append-drop k input)),
    )

pub portions_come_back : (s : State) (input written : List ℕ) (count : ℕ) (t : State) → Calls 1 s input written count t → s.holds ≡ 0 → Octets input →
    (output : List ℕ) (end : ℕ) → Portions s.register written output end → (output ≡ input) × (end ≡ t.register)
portions_come_back s input written count t calls none-held octets output end portions =
    let back = coded_portions s.register written output end portions input octets (written_symbols s input written count t calls none-held) in
    (back.0, back.1 ∙ sym (register_reached s input written count t calls none-held))
