-- What the search has seen before a bit, how that grows with each bit, and what it finds.
use Rattle.std.proofs.Common.{◌≡◌, ℕ, suc, ◌+◌, ◌-◌, ◌*◌, ◌/◌, ◌%◌, ◌^◌, ◌<◌, ◌≤◌, List, length, get_or, ap, ◌∙◌, ⊎_elim, eq-or-lt_of_le, arith}
use lib.Bits.{bit_xor}
use lib.Count.{ones}
use Rattle.octets.specs.Bits.{bit_at}
use Rattle.octets.proofs.Bits.{bit_of_octet}
use Rattle.marker.specs.declared.Form.{Form}
use Rattle.marker.specs.declared.Form.TheVariants.{True}
use Rattle.marker.specs.Place.{wrong_bits, nearer, fewer, form_at, fewest_wrong, NoneFits}
use Rattle.marker.specs.Outcome.{FoundFirst}
use Rattle.marker.specs.Working.{word, base, Carried}
use Rattle.marker.proofs.Forms.{named_at}
use Rattle.marker.proofs.Word.{word_none, word_more, front_enters, word_split, word_small, word-wrong, bit_small}

-- Before bit q, `looked` places were looked at, all that have no bit from q on, and none fits.
pub record Sofar (tolerance : ℕ) (s : List ℕ) (start budget q window looked : ℕ) : Type 0 where
  pub reached : start + 31 ≤ q
  pub carried : Carried s start q window
  pub counted : looked ≡ q - (start + 31)
  pub none : NoneFits tolerance s start (start + looked)
  pub within : looked ≤ budget

-- ---- the window

pub none_entered : (s : List ℕ) (start : ℕ) → Carried s start (base start) 0
none_entered s start =
    let none : base start - base start ≡ 0 = omega arith in
    rw (none, word_none s (base start))

-- The first n bits of octet i enter.
pub front-entered : (s : List ℕ) (start i n : ℕ) {window next : ℕ} → get_or s i 0 < 256 → n ≤ 8 → start / 8 ≤ i → Carried s start (i * 8) window
    → next ≡ window * 2 ^ n % 2 ^ 32 + get_or s i 0 / 2 ^ (8 - n) → Carried s start (i * 8 + n) next
front-entered s start i n octet h l old e =
    let more : i * 8 + n - base start ≡ i * 8 - base start + n = omega arith in
    rw more (front_enters s (base start) (i * 8 - base start) i n octet h (omega arith) old e)

pub moved_on : (s : List ℕ) (start : ℕ) {p q window : ℕ} → p ≡ q → Carried s start p window → Carried s start q window
moved_on s start e old = old ∙ ap (λ (q : ℕ). word (q - base start) s (base start) % 2 ^ 32) e

-- Bit b of octet i enters.
pub entered : (s : List ℕ) (start i b : ℕ) {window next : ℕ} → b < 8 → base start ≤ i * 8 + b → Carried s start (i * 8 + b) window
    → next ≡ window * 2 % 2 ^ 32 + get_or s i 0 / 2 ^ (7 - b) % 2 → Carried s start (i * 8 + (b + 1)) next
entered s start i b {window} {next} h l old e =
    let more : i * 8 + (b + 1) - base start ≡ suc (i * 8 + b - base start) = omega arith in
    let here : base start + (i * 8 + b - base start) ≡ i * 8 + b = omega arith in
    let e' : next ≡ window * 2 % 2 ^ 32 + bit_at s (i * 8 + b) = rw (bit_of_octet s i b h) e in
    rw (more, word_more, here) (omega (arith, bit_small s (i * 8 + b)))

-- From the first place on, the window holds the 32 bits of a place.
window_here : (s : List ℕ) (start q : ℕ) {window : ℕ} → start + 32 ≤ q → Carried s start q window → window ≡ word 32 s (q - 32)
window_here s start q {window} h old =
    let parted : q - base start ≡ q - 32 - base start + 32 = omega arith in
    let here : base start + (q - 32 - base start) ≡ q - 32 = omega arith in
    let split : word (q - base start) s (base start) ≡ word (q - 32 - base start) s (base start) * 2 ^ 32 + word 32 s (q - 32) =
    rw (parted, word_split, here) in
    omega (arith, word_small 32 s (q - 32))

-- ---- what was seen

module _ {tolerance : ℕ} {s : List ℕ} {start budget : ℕ} where
  module _ (i b : ℕ) {window next looked : ℕ} (small : b < 8) (so : Sofar tolerance s start budget (i * 8 + b) window looked)
      (e : next ≡ window * 2 % 2 ^ 32 + get_or s i 0 / 2 ^ (7 - b) % 2) where
    carried_on : Carried s start (i * 8 + (b + 1)) next
    carried_on = entered s start i b small (omega (arith, so.reached)) so.carried e

    -- The wrong bits of the window are those of the place that is looked at.
    here_wrong : ones (bit_xor next 0x1ACFFC1D) ≡ wrong_bits True s (start + looked)
    here_wrong =
        let place : i * 8 + (b + 1) - 32 ≡ start + looked = omega arith in
        let held : next ≡ word 32 s (start + looked) = rw place at (window_here s start (i * 8 + (b + 1)) (omega arith) carried_on) in
        rw held (word-wrong s (start + looked))

    module _ {form : Form} {wrong : ℕ} (left : looked ≡ budget → ⊥)
        (near : (form ≡ nearer (ones (bit_xor next 0x1ACFFC1D)) (32 - ones (bit_xor next 0x1ACFFC1D)))
        × (wrong ≡ fewer (ones (bit_xor next 0x1ACFFC1D)) (32 - ones (bit_xor next 0x1ACFFC1D)))) where
      here : (form ≡ form_at s (start + looked)) × (wrong ≡ fewest_wrong s (start + looked))
      here = named_at s (start + looked) here_wrong near

      pub onward : tolerance < wrong → Sofar tolerance s start budget (i * 8 + (b + 1)) next (looked + 1)
      onward over = record {
        reached = omega arith;
        carried = carried_on;
        counted = omega arith;
        none = none_more;
        within = omega arith;
      }
        where
          none_more : NoneFits tolerance s start (start + (looked + 1))
          none_more p l h f =
              ⊎_elim
              (λ (same : p ≡ start + looked).
              let fits : fewest_wrong s (start + looked) ≤ tolerance = rw same at f in omega (arith, here.1))
              (λ earlier. so.none p l earlier f)
              (eq-or-lt_of_le (omega arith))

      pub found : wrong ≤ tolerance → i < length s → FoundFirst tolerance s start budget (start + looked) form wrong (looked + 1)
      found fits inside = record {
        from = omega arith;
        inside = omega arith;
        fits = omega (arith, here.1);
        first = so.none;
        named = here.0;
        bits = here.1;
        counted = omega arith;
        affordable = omega arith;
      }
