-- Octets with all bits inverted: each form has the wrong bits that the other had, so that the test and the search answer alike and name the other form.
use Rattle.std.proofs.Common.{◌≡◌, ℕ, zero, suc, ◌+◌, ◌-◌, ◌*◌, ◌<◌, ◌≤◌, List, length, get_or, Ok, Err, sym, refl, ap, ◌∙◌, ap₂, arith}
use native.Mathlib.Decide.{dec_lt}
use lib.Bits.{differ}
use Rattle.octets.specs.Bits.{bit_at, inverted}
use Rattle.octets.proofs.Inversion.{inverted-length, bit-inverted}
use Rattle.marker.specs.declared.Form.{Form}
use Rattle.marker.specs.declared.Form.TheVariants.{True, Complement}
use Rattle.marker.specs.declared.Searched.{Searched}
use Rattle.marker.specs.declared.Searched.TheVariants.{Found, Absent, Spent}
use Rattle.marker.specs.Place.{marker_bit, wrong_among, wrong_bits, nearer, fewer, form_at, fewest_wrong, Place, NoneFits}
use Rattle.marker.specs.Outcome.{SearchAnswer, Looked, SearchOutcome}
use Rattle.marker.proofs.Forms.{nearer-true, nearer_complement, complement_wrong}
use Rattle.marker.proofs.Searches.{legal_given}
use Rattle.marker.proofs.Settled.{search_settled}

abbrev pub other_form : Form → Form
other_form True = Complement
other_form Complement = True

-- The smaller of two counts does not ask which comes first.
fewer-turned : (a b : ℕ) → fewer a b ≡ fewer b a
fewer-turned a b =
    elim (dec_lt b a) [
      | yes less ↦ (nearer_complement a b less).1 ∙ sym (nearer-true b a (omega arith)).1
      | no more ↦ elim (dec_lt a b) [
        | yes less ↦ (nearer-true a b (omega arith)).1 ∙ sym (nearer_complement b a less).1
        | no same ↦ ap₂ fewer (omega arith) (omega arith)
      ]
    ]

-- Two bits differ as their inverses do.
differ_inverted : (x y : ℕ) → x < 2 → y < 2 → differ (1 - x) (1 - y) ≡ differ x y
differ_inverted zero zero h k = refl
differ_inverted zero (suc zero) h k = refl
differ_inverted (suc zero) zero h k = refl
differ_inverted (suc zero) (suc zero) h k = refl
differ_inverted zero (suc (suc y)) h k = absurd (omega arith)
differ_inverted (suc zero) (suc (suc y)) h k = absurd (omega arith)
differ_inverted (suc (suc x)) y h k = absurd (omega arith)

other_bit : (form : Form) (n : ℕ) → (marker_bit (other_form form) n ≡ 1 - marker_bit form n) × (marker_bit form n < 2)
other_bit True n = (refl, omega arith)
other_bit Complement n = (omega arith, omega arith)

module _ (stream : List ℕ) (small : (j : ℕ) → get_or stream j 0 < 256) where
  wrong_among_lem : (form : Form) (n p : ℕ) → p + n ≤ 8 * length stream → wrong_among (other_form form) n (inverted stream) p ≡ wrong_among form n stream p
  unfolding wrong_among
  wrong_among_lem form zero p inside = refl
  wrong_among_lem form (suc n) p inside =
      ap₂ ◌+◌ (wrong_among_lem form n p (omega arith))
      (ap₂ differ (bit-inverted stream small (p + n) (omega arith)) (other_bit form n).0
      ∙ differ_inverted (bit_at stream (p + n)) (marker_bit form n) (omega arith) (other_bit form n).1)

  module _ (p : ℕ) (inside : Place stream p) where
    -- Each form has the wrong bits that the other had.
    pub wrong-inverted : (form : Form) → wrong_bits (other_form form) (inverted stream) p ≡ wrong_bits form stream p
    wrong-inverted form = wrong_among_lem form 32 p inside

    pub fewest_inverted : fewest_wrong (inverted stream) p ≡ fewest_wrong stream p
    fewest_inverted =
        ap₂ fewer (wrong-inverted Complement) (wrong-inverted True) ∙ fewer-turned (wrong_bits Complement stream p) (wrong_bits True stream p)

    -- Where the place fits, the other form is named: neither has as many wrong bits as the other.
    pub form_inverted : fewest_wrong stream p < 16 → form_at (inverted stream) p ≡ other_form (form_at stream p)
    form_inverted few =
        ap₂ nearer (wrong-inverted Complement) (wrong-inverted True) ∙
        elim (dec_lt (wrong_bits Complement stream p) (wrong_bits True stream p)) [
          | yes less ↦ (nearer-true (wrong_bits Complement stream p) (wrong_bits True stream p) (omega arith)).0
              ∙ ap other_form (sym (nearer_complement (wrong_bits True stream p) (wrong_bits Complement stream p) less).0)
          | no more ↦
              let near = nearer-true (wrong_bits True stream p) (wrong_bits Complement stream p) (omega arith) in
              (nearer_complement (wrong_bits Complement stream p) (wrong_bits True stream p) (omega (arith, near.1, complement_wrong stream p))).0
              ∙ ap other_form (sym near.0)
        ]

  -- ---- the search

  -- An answer with the other form.
  abbrev pub seen_in_other_form : Searched → Searched
  seen_in_other_form (Found place form wrong looked) = Found place (other_form form) wrong looked
  seen_in_other_form (Absent looked) = Absent looked
  seen_in_other_form (Spent next looked) = Spent next looked

  abbrev pub in_other_form : SearchAnswer → SearchAnswer
  in_other_form (Ok seen) = Ok (seen_in_other_form seen)
  in_other_form (Err p) = Err p

  same_length : length (inverted stream) ≡ length stream
  same_length = inverted-length stream

  none_inverted : (tolerance start end : ℕ) → end + 31 ≤ 8 * length stream → NoneFits tolerance stream start end → NoneFits tolerance (inverted stream) start end
  none_inverted tolerance start end inside none p from before fits =
      none p from before (omega (arith, fewest_inverted p (omega arith)))

  looked_inverted : (tolerance start budget : ℕ) → tolerance ≤ 3 → (seen : Searched) → Looked tolerance stream start budget seen
      → Looked tolerance (inverted stream) start budget (seen_in_other_form seen)
  looked_inverted tolerance start budget legal (Found place form wrong looked) F =
      record {
        from = F.from;
        inside = omega (arith, same_length, F.inside);
        fits = omega (arith, fewest_inverted place F.inside, F.fits);
        first = none_inverted tolerance start place (omega (arith, F.inside)) F.first;
        named = ap other_form F.named ∙ sym (form_inverted place F.inside (omega (arith, F.fits)));
        bits = F.bits ∙ sym (fewest_inverted place F.inside);
        counted = F.counted;
        affordable = F.affordable;
      }
  looked_inverted tolerance start budget legal (Absent looked) N =
      record {
        none = λ p from inside fits. N.none p from (omega (arith, same_length)) (omega (arith, same_length, fewest_inverted p (omega (arith, same_length))));
        counted = N.counted ∙ rw same_length;
        affordable = N.affordable;
      }
  looked_inverted tolerance start budget legal (Spent next looked) S =
      record {
        inside = omega (arith, same_length, S.inside);
        none = none_inverted tolerance start next (omega (arith, S.inside)) S.none;
        reached = S.reached;
        counted = S.counted;
      }

  outcome_inverted : (tolerance start budget : ℕ) (answer : SearchAnswer) → SearchOutcome tolerance stream start budget answer
      → SearchOutcome tolerance (inverted stream) start budget (in_other_form answer)
  outcome_inverted tolerance start budget (Ok seen) O =
      record { number = rw same_length O.number; looked = looked_inverted tolerance start budget (legal_given O.number).0 seen O.looked }
  outcome_inverted tolerance start budget (Err p) O = record { number = rw same_length O.number; looked = tt }

  -- A stream with all bits inverted is searched with the same answer, place, wrong bits and number looked at; a marker found is of the other form.
  pub complement_searched : (tolerance start budget : ℕ) (answer answer' : SearchAnswer) → SearchOutcome tolerance stream start budget answer
      → SearchOutcome tolerance (inverted stream) start budget answer' → answer' ≡ in_other_form answer
  complement_searched tolerance start budget answer answer' O O' =
      search_settled tolerance (inverted stream) start answer' (in_other_form answer) O' (outcome_inverted tolerance start budget answer O)
