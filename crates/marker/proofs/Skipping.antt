-- No place fits: what the top bits of eight counts tell, octet after octet.
use Rattle.std.proofs.Common.{◌≡◌, ℕ, ◌+◌, ◌-◌, ◌*◌, ◌<◌, ◌≤◌, List, subst, arith}
use native.Mathlib.Decide.{dec_lt}
use lib.Bits.{bit_and}
use Rattle.marker.specs.declared.Form.TheVariants.{True, Complement}
use Rattle.marker.specs.Place.{wrong_bits, fewer, fewest_wrong, NoneFits}
use Rattle.marker.specs.Working.{lanes, common_wrong, tops_apart, TopsTell}
use Rattle.marker.proofs.Forms.{nearer-true, nearer_complement}
use Rattle.marker.proofs.Packed.{AllTops, tops_of_both, apart_tells}
use Rattle.marker.proofs.Passing.{none_joined}
use Rattle.marker.proofs.OctetBits.{common_bounds, common_most}

fewer_above : (t a b : ℕ) → t < a → t < b → fewer a b ≤ t → ⊥
fewer_above t a b h k few =
    elim (dec_lt b a) [
      | yes l ↦ omega (arith, (nearer_complement a b l).1)
      | no l ↦ omega (arith, (nearer-true a b (omega arith)).1)
    ]

module _ {t : ℕ} (s : List ℕ) (i : ℕ) (few : t ≤ 3) where
  pub common_tell : {counts tops : ℕ} → counts ≡ lanes 8 (common_wrong s i) → tops ≡ tops_apart t counts → TopsTell t s i tops
  common_tell e is b l set =
      let apart : (t < common_wrong s i b) × (common_wrong s i b + t < 24) = apart_tells t (common_wrong s i) few (λ k h. common_most k s i) e is b l set in
      let bounds = common_bounds b s i l in
      fewer_above t (wrong_bits True s (8 * i + b)) (wrong_bits Complement s (8 * i + b)) (omega (arith, bounds.0)) (omega (arith, bounds.1))

module _ (t : ℕ) (s : List ℕ) where
  pub none_in_octet : (i tops : ℕ) → AllTops tops → TopsTell t s i tops → NoneFits t s (8 * i) (8 * (i + 1))
  none_in_octet i tops all tell p from below fits =
      let b = p - 8 * i in
      let place : p ≡ 8 * i + b = omega arith in
      tell b (omega arith) (all b (omega arith)) (subst (λ (q : ℕ). fewest_wrong s q ≤ t) place fits)

  pub none_in_four : (i a b c d : ℕ) → AllTops (bit_and (bit_and (bit_and a b) c) d)
      → TopsTell t s i a → TopsTell t s (i + 1) b → TopsTell t s (i + 2) c → TopsTell t s (i + 3) d → NoneFits t s (8 * i) (8 * (i + 4))
  none_in_four i a b c d all first second third fourth =
      let abc = tops_of_both (bit_and (bit_and a b) c) d all in
      let ab = tops_of_both (bit_and a b) c abc.0 in
      let both = tops_of_both a b ab.0 in
      none_joined t s (8 * i) (8 * (i + 1)) (8 * (i + 4)) (none_in_octet i a both.0 first)
      (none_joined t s (8 * (i + 1)) (8 * (i + 2)) (8 * (i + 4)) (λ p from below. none_in_octet (i + 1) b both.1 second p from (omega arith))
      (none_joined t s (8 * (i + 2)) (8 * (i + 3)) (8 * (i + 4)) (λ p from below. none_in_octet (i + 2) c ab.1 third p from (omega arith))
      (λ p from below. none_in_octet (i + 3) d abc.1 fourth p from (omega arith))))
