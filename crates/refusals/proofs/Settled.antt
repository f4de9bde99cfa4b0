-- Every public call of the crate is settled by its contract: two verdicts that one order permits are equal.
use mathlib.Core.Path.{◌≡◌, refl, sym, ap, ◌∙◌}
use mathlib.Core.Bool.{Bool, true, false}
use mathlib.Core.List.{List, [], ◌∷◌}
use Prim.Native.Nat.{ℕ}
use lib.ListN.{get_or}
use Rattle.refusals.specs.Order.{Check, FirstOf, OneOf, Tells}
use Rattle.refusals.specs.Sizes.{strengths}
use Rattle.refusals.specs.Numbers.{parameter_number, verdict_number, Verdict, marker_number, marker_value, word_number, word_value}
use Rattle.refusals.specs.Calls.{encode_order, portion_order, close_order, decode_parameters, salvage_order, randomise_order, convolve_order, coder_close_order, likeliest_order, marker_parameters, search_order, transmit_order, receive_parameters}
use Rattle.refusals.specs.declared.Parameter.{Parameter}
use Rattle.refusals.specs.declared.Parameter.TheVariants.{Strength, Depth, Fill, Allowance, Input, Output, Rate, Tolerance, Start, Progress}
use Rattle.std.specs.Prelude.{Ok, Err}
use Rattle.refusals.specs.declared.MarkerRefusal.{MarkerRefusal}
use Rattle.refusals.specs.declared.MarkerRefusal.TheVariants as marker
use Rattle.refusals.specs.declared.WordRefusal.{WordRefusal}
use Rattle.refusals.specs.declared.WordRefusal.TheVariants as word
use Rattle.refusals.proofs.Orders.{first_unique}

-- ---- a verdict is known by its number

by_number : List Verdict
by_number =
    (Ok tt) ∷ Err Strength ∷ Err Depth ∷ Err Fill ∷ Err Allowance ∷ Err Input ∷ Err Output ∷ Err Rate ∷ Err Tolerance
    ∷ (Ok tt) ∷ (Ok tt) ∷ Err Start ∷ (Ok tt) ∷ (Ok tt) ∷ Err Progress ∷ []

found : (v : Verdict) → get_or by_number (verdict_number v) (Ok tt) ≡ v
unfolding by_number
found (Ok done) = refl
found (Err Strength) = refl
found (Err Depth) = refl
found (Err Fill) = refl
found (Err Allowance) = refl
found (Err Input) = refl
found (Err Output) = refl
found (Err Rate) = refl
found (Err Tolerance) = refl
found (Err Start) = refl
found (Err Progress) = refl

pub verdict_known : (v w : Verdict) → verdict_number v ≡ verdict_number w → v ≡ w
verdict_known v w e = sym (found v) ∙ ap (λ (n : ℕ). get_or by_number n (Ok tt)) e ∙ found w

pub parameter_known : (p q : Parameter) → parameter_number p ≡ parameter_number q → p ≡ q
parameter_known p q e = let same : Err p ≡ Err q = verdict_known (Err p) (Err q) e in cc

pub verdict_settled : (order : List Check) (v w : Verdict) → FirstOf order (verdict_number v) → FirstOf order (verdict_number w) → v ≡ w
verdict_settled order v w p q = verdict_known v w (first_unique order (verdict_number v) (verdict_number w) p q)

-- ---- so each call is settled

-- a flag that tells a fact is settled
pub flag_settled : (fact : Type 0) (a b : Bool) → Tells a fact → Tells b fact → a ≡ b
flag_settled fact true true t u = refl
flag_settled fact true false t u = absurd (u t)
flag_settled fact false true t u = absurd (t u)
flag_settled fact false false t u = refl

pub strength_legal_settled : (e : ℕ) (a b : Bool) → Tells a (OneOf strengths e) → Tells b (OneOf strengths e) → a ≡ b
strength_legal_settled e = flag_settled (OneOf strengths e)

module _ (v w : Verdict) where
  abbrev Settled : List Check → Type 0
  Settled order = FirstOf order (verdict_number v) → FirstOf order (verdict_number w) → v ≡ w

  pub encode_parameters_settled : (e i q frame block : ℕ) → Settled (encode_order e i q frame block)
  encode_parameters_settled e i q frame block = verdict_settled (encode_order e i q frame block) v w

  pub portion_parameters_settled : (e i q portion written place : ℕ) (closed : Bool) → Settled (portion_order e i q portion written place closed)
  portion_parameters_settled e i q portion written place closed = verdict_settled (portion_order e i q portion written place closed) v w

  pub close_parameters_settled : (e i q checks place : ℕ) (closed : Bool) → Settled (close_order e i q checks place closed)
  close_parameters_settled e i q checks place closed = verdict_settled (close_order e i q checks place closed) v w

  pub transmit_parameters_settled : (e i q frame marked : ℕ) → Settled (transmit_order e i q frame marked)
  transmit_parameters_settled e i q frame marked = verdict_settled (transmit_order e i q frame marked) v w

  pub decode_parameters_settled : (e i q s block frame : ℕ) → Settled (decode_parameters e i q s block frame)
  decode_parameters_settled e i q s block frame = verdict_settled (decode_parameters e i q s block frame) v w

  pub salvage_parameters_settled : (e i q s block frame list : ℕ) → Settled (salvage_order e i q s block frame list)
  salvage_parameters_settled e i q s block frame list = verdict_settled (salvage_order e i q s block frame list) v w

  pub receive_parameters_settled : (e i q s t marked frame : ℕ) → Settled (receive_parameters e i q s t marked frame)
  receive_parameters_settled e i q s t marked frame = verdict_settled (receive_parameters e i q s t marked frame) v w

  pub randomise_parameters_settled : (block : ℕ) → Settled (randomise_order block)
  randomise_parameters_settled block = verdict_settled (randomise_order block) v w

  pub convolve_parameters_settled : (r bits at held octets symbols : ℕ) → Settled (convolve_order r bits at held octets symbols)
  convolve_parameters_settled r bits at held octets symbols = verdict_settled (convolve_order r bits at held octets symbols) v w

  pub coder_close_parameters_settled : (r bits at held symbols : ℕ) → Settled (coder_close_order r bits at held symbols)
  coder_close_parameters_settled r bits at held symbols = verdict_settled (coder_close_order r bits at held symbols) v w

  pub likeliest_parameters_settled : (bits symbols octets : ℕ) → Settled (likeliest_order bits symbols octets)
  likeliest_parameters_settled bits symbols octets = verdict_settled (likeliest_order bits symbols octets) v w

  pub marker_parameters_settled : (t octets : ℕ) → Settled (marker_parameters t octets)
  marker_parameters_settled t octets = verdict_settled (marker_parameters t octets) v w

  pub search_parameters_settled : (t stream from : ℕ) → Settled (search_order t stream from)
  search_parameters_settled t stream from = verdict_settled (search_order t stream from) v w

-- ---- so is each number

module _ (m n : ℕ) where
  pub parameter_number_settled : (p : Parameter) → m ≡ parameter_number p → n ≡ parameter_number p → m ≡ n
  parameter_number_settled p a b = a ∙ sym b

  pub verdict_number_settled : (v : Verdict) → m ≡ verdict_number v → n ≡ verdict_number v → m ≡ n
  verdict_number_settled v a b = a ∙ sym b

  pub marker_number_settled : (r : MarkerRefusal) → m ≡ marker_number r → n ≡ marker_number r → m ≡ n
  marker_number_settled r a b = a ∙ sym b

  pub word_number_settled : (r : WordRefusal) → m ≡ word_number r → n ≡ word_number r → m ≡ n
  word_number_settled r a b = a ∙ sym b

  pub parameter_value_settled : (p : Parameter) → m ≡ 0 → n ≡ 0 → m ≡ n
  parameter_value_settled p a b = a ∙ sym b

  pub marker_value_settled : (r : MarkerRefusal) → m ≡ marker_value r → n ≡ marker_value r → m ≡ n
  marker_value_settled r a b = a ∙ sym b

  pub word_value_settled : (r : WordRefusal) → m ≡ word_value r → n ≡ word_value r → m ≡ n
  word_value_settled r a b = a ∙ sym b

-- ---- and each refusal that is made of a parameter

module _ (p : Parameter) where
  pub marker_from_settled : (a b : MarkerRefusal) → a ≡ marker.Parameters p → b ≡ marker.Parameters p → a ≡ b
  marker_from_settled a b A B = A ∙ sym B

  pub word_from_settled : (a b : WordRefusal) → a ≡ word.Parameters p → b ≡ word.Parameters p → a ≡ b
  word_from_settled a b A B = A ∙ sym B
