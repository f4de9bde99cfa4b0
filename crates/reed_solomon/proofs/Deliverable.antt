-- What any permitted outcome of decode says: which blocks are delivered, and that a delivery is settled.
use Rattle.reed_solomon.specs.Outcome.{Decoded, Delivered}
use Rattle.std.specs.Prelude.{Ok, Err}
use mathlib.Core.Path.{◌≡◌, refl, sym, ap, ◌∙◌, subst}
use mathlib.Core.Logic.{inl, inr}
use mathlib.Core.List.{List}
use Prim.Native.Nat.{ℕ, ◌+◌, ◌-◌, ◌*◌, ◌/◌, ◌%◌, ◌≤◌, ◌<◌}
use native.Mathlib.Nat.{div-add-mod', mod-lt, div-lt_iff_lt-mul}
use native.Mathlib.Omega.{arith}
use native.Mathlib.Decide.{dec_lt}
use lib.ListN.{length, get_or}
use lib.Seq.{ext_get_or}
use Rattle.refusals.specs.Order.{FirstOf}
use Rattle.refusals.specs.Sizes.{information, frame_length}
use Rattle.refusals.specs.Calls.{decode_parameters, decode_order}
use Rattle.refusals.specs.declared.WordRefusal.TheVariants.{Parameters, NoCodeword}
use Rattle.refusals.proofs.Orders.{first_unique, first_accepts, first_passes}
use Rattle.refusals.proofs.Legal.{decode_numbers}
use Rattle.refusals.proofs.Verdicts.{parameter_nonzero}
use Rattle.codewords.specs.Words.{differing}
use Rattle.codewords.proofs.Codewords.{good_unique, good_more_allowance}
use Rattle.encoding.specs.Blocks.{word_of, sum}
use Rattle.reed_solomon.specs.Outcome.{Delivery, Lost, decoded_number}

-- Only a delivery has number 0.
pub delivered_is : (a : Decoded) → decoded_number a ≡ 0 → a ≡ Delivered
delivered_is (Ok done) z = refl
delivered_is (Err (Parameters p)) z = absurd (parameter_nonzero p z)
delivered_is (Err (NoCodeword w)) z = absurd (omega arith)

-- Some word is lost.
abbrev pub SomeLost : ℕ → ℕ → ℕ → ℕ → List ℕ → Type 0
SomeLost e i q s block = (w : ℕ) × (w < i) × Lost e i q s block w

module _ (e i q s : ℕ) (block before : List ℕ) where
  abbrev pub Passed : Type 0
  Passed = FirstOf (decode_parameters e i q s (length block) (length before)) 0

  abbrev pub Order : ℕ → Type 0
  Order n = FirstOf (decode_order e i q s (length block) (length before) (SomeLost e i q s block)) n

  -- once the parameters have passed, the words decide
  pub all_found : Passed → (SomeLost e i q s block → ⊥) → Order 0
  all_found f none = first_passes (decode_parameters e i q s (length block) (length before)) 0 (decode_numbers e i q s (length block) (length before)) f (inr (none, refl))

  pub some_lost : Passed → SomeLost e i q s block → Order 10
  some_lost f l = first_passes (decode_parameters e i q s (length block) (length before)) 10 (decode_numbers e i q s (length block) (length before)) f (inl (l, refl))

  pub accepted_passed : Order 0 → Passed
  accepted_passed f = first_accepts _ (decode_parameters e i q s (length block) (length before)) (decode_numbers e i q s (length block) (length before)) f

  pub number_is : (n m : ℕ) → Order n → Order m → n ≡ m
  number_is n m = first_unique (decode_order e i q s (length block) (length before) (SomeLost e i q s block)) n m

-- ---- two deliveries of one block, with two allowances, are one

module _ (e i q s t : ℕ) (block : List ℕ) (strong : e ≤ 128) (order : s ≤ t) (small : t ≤ e) (some : 0 < i) where
  module _ (f c : List ℕ) (m : ℕ) (g d : List ℕ) (n : ℕ) (D : Delivery e i q s block f c m) (E : Delivery e i q t block g d n) where
    same-codeword : (w : ℕ) → w < i → D.codewords w ≡ E.codewords w
    same-codeword w h =
        good_unique e q t (word_of i q block w) (D.codewords w) (E.codewords w) strong small (good_more_allowance e q s t (word_of i q block w) (D.codewords w) order (D.good w h)) (E.good w h)

    pub same_counts : length c ≡ 8 → length d ≡ 8 → c ≡ d
    same_counts l k =
        ext_get_or 0 c d (l ∙ sym k)
        (λ w h. elim (dec_lt w i) [
          | yes y ↦ D.count w y ∙ ap (differing (word_of i q block w)) (same-codeword w y) ∙ sym (E.count w y)
          | no n ↦ D.beyond w (omega arith) ∙ sym (E.beyond w (omega arith))
        ])

    pub same_total : length c ≡ 8 → length d ≡ 8 → m ≡ n
    same_total l k = D.summed ∙ ap sum (same_counts l k) ∙ sym E.summed

    pub same-frame : length f ≡ frame_length e i q → length g ≡ frame_length e i q → f ≡ g
    same-frame l k =
        ext_get_or 0 f g (l ∙ sym k)
        (λ p h. let e₁ : p / i * i + p % i ≡ p = div-add-mod' p i in
        let w : p % i < i = mod-lt p some in
        let a : p / i < information e - q = (div-lt_iff_lt-mul some).1 (omega arith) in
        subst (λ (x : ℕ). get_or f x 0 ≡ get_or g x 0) e₁
        (D.symbols (p / i) (p % i) a w ∙ ap (λ (l : List ℕ). get_or l (q + p / i) 0) (same-codeword (p % i) w) ∙ sym (E.symbols (p / i) (p % i) a w)))
