-- What `transmit` answers: refused for a parameter, or a marked block whose part after the marker is coded, and randomised if asked.
use Rattle.std.specs.Prelude.{Ok, Err}
use mathlib.Core.Path.{◌≡◌, refl, ap, ap₂, ◌∙◌}
use mathlib.Core.Bool.{Bool}
use mathlib.Core.List.{List, ◌++◌, append-nil}
use Prim.Native.Nat.{ℕ, ◌+◌, ◌-◌, ◌≤◌}
use native.Mathlib.Nat.{mul-le-mul, le_of_eq}
use native.Mathlib.Omega.{arith}
use lib.ListN.{length, take, drop, length-append, length-drop, drop_of_length-le}
use lib.Seq.{take_all, drop_at, length-take-le}
use borrow.Rule.Slice.PartMut.{mid_of, put_mid, same_len_mid}
use Rattle.octets.specs.Copies.{copied_over}
use Rattle.octets.proofs.Laws.{copied_fitting}
use Rattle.refusals.specs.Order.{FirstOf}
use Rattle.refusals.specs.Sizes.{frame_length, block_length, marked_length}
use Rattle.refusals.specs.Numbers.{parameter_number}
use Rattle.refusals.specs.Calls.{encode_order, transmit_order}
use Rattle.refusals.specs.declared.Parameter.{Parameter}
use Rattle.refusals.proofs.Orders.{Clear, accepted_clear, clear_accepted, not_different, first_unique}
use Rattle.refusals.proofs.Verdicts.{parameter_nonzero}
use Rattle.refusals.proofs.Legal.{LegalWords, legal_words}
use Rattle.marker.specs.Place.{marker}
use Rattle.encoding.specs.Outcome.{EncodeOutcome}
use Rattle.encoding.proofs.CodedBlocks.{EncodeLegal, encode_legal}
use Rattle.chain.specs.Outcome.{randomised_if, TransmitOutcome}
use Rattle.chain.proofs.Opening.{randomised-length}

-- ---- lengths

pub block_most : (e i q : ℕ) → LegalWords e i q → block_length i q ≤ 2040
block_most e i q L = mul-le-mul most L.deep
  where
    most : 255 - q ≤ 255
    most = omega arith

-- What is known once every check of transmit has passed.
pub record TransmitLegal (e i q frame marked : ℕ) : Type 0 where
  pub words : LegalWords e i q
  pub input : frame ≡ frame_length e i q
  pub output : marked ≡ marked_length i q

pub transmit_clear : (e i q frame marked : ℕ) → FirstOf (transmit_order e i q frame marked) 0 → Clear (transmit_order e i q frame marked)
transmit_clear e i q frame marked =
    accepted_clear (transmit_order e i q frame marked) (omega arith, (omega arith, (omega arith, (omega arith, (omega arith, tt)))))

pub transmit_legal : (e i q frame marked : ℕ) → FirstOf (transmit_order e i q frame marked) 0 → TransmitLegal e i q frame marked
transmit_legal e i q frame marked f =
    let clear : Clear (transmit_order e i q frame marked) = transmit_clear e i q frame marked f in
    record {
      words = legal_words e i q (clear.0, (clear.1.0, (clear.1.1.0, tt)));
      input = not_different frame (frame_length e i q) clear.1.1.1.0;
      output = not_different marked (marked_length i q) clear.1.1.1.1.0;
    }

-- What transmit accepts, encode accepts for a block that is four octets shorter.
pub block_passes : (e i q frame marked block : ℕ) → marked ≡ block + 4 → FirstOf (transmit_order e i q frame marked) 0 → FirstOf (encode_order e i q frame block) 0
block_passes e i q frame marked block size f =
    let clear : Clear (transmit_order e i q frame marked) = transmit_clear e i q frame marked f in
    let legal : TransmitLegal e i q frame marked = transmit_legal e i q frame marked f in
    clear_accepted (encode_order e i q frame block) (clear.0, (clear.1.0, (clear.1.1.0, (clear.1.1.1.0, ((λ n. n (omega (arith, legal.output))), tt)))))

-- ---- a part lent from octet 4 on, and back in its place

tail_back : (list put : List ℕ) → put ++ drop (length list - 4) (drop 4 list) ≡ put
tail_back list put = ap {B = List ℕ} (λ (rest : List ℕ). put ++ rest) (drop_of_length-le (drop 4 list) (le_of_eq (length-drop 4 list))) ∙ append-nil put

put_back : (list put : List ℕ) → 4 ≤ length list → drop 4 (put_mid 4 (length list - 4) list put) ≡ put
put_back list put fits = drop_at (take 4 list) (put ++ drop (length list - 4) (drop 4 list)) 4 (length-take-le 4 list fits) ∙ tail_back list put

-- ---- transmit

module _ (e i q : ℕ) (flag : Bool) (frame before : List ℕ) where
  pub transmit_refuses : (p : Parameter) → FirstOf (transmit_order e i q (length frame) (length before)) (parameter_number p) → TransmitOutcome e i q flag frame before (Err p) before
  transmit_refuses p f =
      record {
        number = f;
        size = refl;
        refused = λ n. refl;
        accepted = λ z. absurd (parameter_nonzero p z);
      }

  module _ (passes : FirstOf (transmit_order e i q (length frame) (length before)) 0) where
    pub marker_fits : 4 ≤ length before
    marker_fits = omega (arith, (transmit_legal e i q (length frame) (length before) passes).output)

    -- the part after the marker, as it is lent
    abbrev part : List ℕ
    part = mid_of 4 (length before - 4) before

    part_is : part ≡ drop 4 before
    part_is = take_all (length before - 4) (drop 4 before) (le_of_eq (length-drop 4 before))

    part_size : length before ≡ length part + 4
    part_size = omega (arith, ap length part_is, length-drop 4 before, marker_fits)

    accepted : FirstOf (encode_order e i q (length frame) (length part)) 0
    accepted = block_passes e i q (length frame) (length before) (length part) part_size passes

    -- Transmit's checks are encode's: encode refuses nothing that came so far.
    pub never_refused : (p : Parameter) (block : List ℕ) → EncodeOutcome e i q frame part (Err p) block → ⊥
    never_refused p block C = parameter_nonzero p (first_unique (encode_order e i q (length frame) (length part)) (parameter_number p) 0 C.number accepted)

    module _ (block : List ℕ) (C : EncodeOutcome e i q frame part (Ok tt) block) where
      -- the marked block once the coded block is back in it
      abbrev coded : List ℕ
      coded = put_mid 4 (length before - 4) before block

      marker_room : 4 ≤ length coded
      marker_room = omega (arith, same_len_mid 4 (length before - 4) before block C.size, marker_fits)

      module _ (marked : List ℕ) (copied : marked ≡ copied_over marker coded) where
        marked_is : marked ≡ marker ++ block
        marked_is = copied ∙ copied_fitting marker coded marker_room ∙ ap {B = List ℕ} (λ (rest : List ℕ). marker ++ rest) (put_back before block marker_fits)

        marked_size : length marked ≡ length block + 4
        marked_size = omega (arith, ap length marked_is, length-append marker block)

        pub block_fits : 4 ≤ length marked
        block_fits = omega (arith, marked_size)

        lent_is : mid_of 4 (length marked - 4) marked ≡ block
        lent_is = take_all (length marked - 4) (drop 4 marked) (le_of_eq (length-drop 4 marked)) ∙ ap (drop 4) marked_is

        pub lent_within : length (mid_of 4 (length marked - 4) marked) ≤ 2040
        lent_within =
            let legal : EncodeLegal e i q (length frame) (length part) = encode_legal e i q (length frame) (length part) accepted in
            omega (arith, ap length lent_is, C.size, legal.output, block_most e i q legal.words)

        pub transmit_accepts : (sent : List ℕ) → sent ≡ randomised_if flag (mid_of 4 (length marked - 4) marked)
            → TransmitOutcome e i q flag frame before (Ok tt) (put_mid 4 (length marked - 4) marked sent)
        transmit_accepts sent is =
            record {
              number = passes;
              size = ap length whole ∙ omega (arith, length-append marker (randomised_if flag block), randomised-length flag block, C.size, part_size);
              refused = λ n. absurd (n refl);
              accepted = λ z. record { block = block; coded = C.accepted refl; sent = whole };
            }
          where
            front : take 4 marked ≡ marker
            front = ap (take 4) marked_is

            whole : put_mid 4 (length marked - 4) marked sent ≡ marker ++ randomised_if flag block
            whole =
                ap₂ {C = List ℕ} (λ (x y : List ℕ). x ++ y) front (tail_back marked sent ∙ is ∙ ap (randomised_if flag) lent_is)
