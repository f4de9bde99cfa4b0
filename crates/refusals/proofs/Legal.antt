-- What legal parameters say of the numbers.
use mathlib.Core.Path.{◌≡◌}
use mathlib.Core.Logic.{◌≢◌, inl, inr}
use mathlib.Core.List.{List, [], ◌∷◌}
use Prim.Native.Nat.{ℕ, ◌*◌, ◌/◌, ◌%◌, ◌≤◌, ◌<◌}
use native.Mathlib.Omega.{arith}
use Rattle.refusals.specs.Order.{FirstOf, OneOf}
use Rattle.refusals.specs.Sizes.{strengths, depths, rates, period, information, block_length}
use Rattle.refusals.specs.Calls.{decode_parameters, salvage_order, likeliest_order}
use Rattle.refusals.specs.Working.{word_parameters, allowed_parameters, coder_parameters}
use Rattle.refusals.proofs.Orders.{Numbered, Clear, accepted_clear, first_accepts, not_different, one_of}

-- The least and the largest number of a list bound every one of it.
abbrev pub Within : ℕ → ℕ → List ℕ → Type 0
Within low high [] = Unit {0}
Within low high (m ∷ ms) = (low ≤ m) × (m ≤ high) × Within low high ms

pub bounds : (low high : ℕ) (ms : List ℕ) → Within low high ms → (n : ℕ) → OneOf ms n → (low ≤ n) × (n ≤ high)
bounds low high [] w n o = absurd o
bounds low high (m ∷ ms) w n (inl e) = (omega arith, omega arith)
bounds low high (m ∷ ms) w n (inr o) = bounds low high ms w.2 n o

pub strength_bounds : (e : ℕ) → OneOf strengths e → (8 ≤ e) × (e ≤ 16)
strength_bounds = bounds 8 16 strengths (omega arith, omega arith, (omega arith, omega arith, tt))

pub depth_bounds : (i : ℕ) → OneOf depths i → (1 ≤ i) × (i ≤ 8)
depth_bounds =
    bounds 1 8 depths
    (omega arith, omega arith, (omega arith, omega arith, (omega arith, omega arith, (omega arith, omega arith, (omega arith, omega arith, (omega arith, omega arith, tt))))))

pub rate_bounds : (r : ℕ) → OneOf rates r → (1 ≤ r) × (r ≤ 5)
rate_bounds =
    bounds 1 5 rates (omega arith, omega arith, (omega arith, omega arith, (omega arith, omega arith, (omega arith, omega arith, (omega arith, omega arith, tt)))))

-- 1 to 5 are in a list that begins with them.
pub first-five : (later : List ℕ) (n : ℕ) → n ≢ 0 → n ≤ 5 → OneOf (1 ∷ 2 ∷ 3 ∷ 4 ∷ 5 ∷ later) n
first-five later n z h =
    one_of (1 ∷ 2 ∷ 3 ∷ 4 ∷ 5 ∷ later) n
    (λ k.
    let one : n ≢ 1 = λ e. k (inl e) in
    let two : n ≢ 2 = λ e. k (inr (inl e)) in
    let three : n ≢ 3 = λ e. k (inr (inr (inl e))) in
    let four : n ≢ 4 = λ e. k (inr (inr (inr (inl e)))) in
    let five : n ≢ 5 = λ e. k (inr (inr (inr (inr (inl e))))) in
    omega arith)

-- A depth over 5 is 8.
pub depth-cases : (i : ℕ) → OneOf depths i → 5 < i → i ≢ 8 → ⊥
depth-cases i (inl e) h n = omega arith
depth-cases i (inr (inl e)) h n = omega arith
depth-cases i (inr (inr (inl e))) h n = omega arith
depth-cases i (inr (inr (inr (inl e)))) h n = omega arith
depth-cases i (inr (inr (inr (inr (inl e))))) h n = omega arith
depth-cases i (inr (inr (inr (inr (inr (inl e)))))) h n = n e
depth-cases i (inr (inr (inr (inr (inr (inr o)))))) h n = o

-- A rate that is none of 1 to 4 is 5.
pub last_rate : (r : ℕ) → OneOf rates r → r ≢ 1 → r ≢ 2 → r ≢ 3 → r ≢ 4 → r ≡ 5
last_rate r o one two three four = omega (arith, (rate_bounds r o).0, (rate_bounds r o).1)

-- What is known of the numbers once checks 1, 2 and 3 have passed.
pub record LegalWords (e i q : ℕ) : Type 0 where
  pub strength : OneOf strengths e
  pub depth : OneOf depths i
  pub weak : 8 ≤ e
  pub strong : e ≤ 16
  pub some : 1 ≤ i
  pub deep : i ≤ 8
  pub filled : q < information e

pub legal_words : (e i q : ℕ) → Clear (word_parameters e i q) → LegalWords e i q
legal_words e i q clear =
    let strong : OneOf strengths e = one_of strengths e clear.0 in
    let deep : OneOf depths i = one_of depths i clear.1.0 in
    record {
      strength = strong;
      depth = deep;
      weak = (strength_bounds e strong).0;
      strong = (strength_bounds e strong).1;
      some = (depth_bounds i deep).0;
      deep = (depth_bounds i deep).1;
      filled = omega (arith, clear.1.1.0, (strength_bounds e strong).1);
    }

-- The numbers of the lists are all refusals.
pub word_numbers : (e i q : ℕ) → Numbered (word_parameters e i q)
word_numbers e i q = (omega arith, (omega arith, (omega arith, tt)))

pub allowed_numbers : (e i q s : ℕ) → Numbered (allowed_parameters e i q s)
allowed_numbers e i q s = (omega arith, (omega arith, (omega arith, (omega arith, tt))))

pub decode_numbers : (e i q s block frame : ℕ) → Numbered (decode_parameters e i q s block frame)
decode_numbers e i q s block frame = (omega arith, (omega arith, (omega arith, (omega arith, (omega arith, (omega arith, tt))))))

pub salvage_numbers : (e i q s block frame list : ℕ) → Numbered (salvage_order e i q s block frame list)
salvage_numbers e i q s block frame list = (omega arith, (omega arith, (omega arith, (omega arith, (omega arith, (omega arith, (omega arith, tt)))))))

pub accepted_words : (e i q : ℕ) → FirstOf (word_parameters e i q) 0 → LegalWords e i q
accepted_words e i q f = legal_words e i q (accepted_clear (word_parameters e i q) (word_numbers e i q) f)

-- Salvage accepts what decode's checks accept, with a list of four octets for each octet of the block.
pub accepted_salvage : (e i q s block frame list : ℕ) → FirstOf (salvage_order e i q s block frame list) 0 → FirstOf (decode_parameters e i q s block frame) 0 × (list ≡ 4 * block_length i q)
accepted_salvage e i q s block frame list f =
    let clear = accepted_clear (salvage_order e i q s block frame list) (salvage_numbers e i q s block frame list) f in
    (first_accepts _ (decode_parameters e i q s block frame) (decode_numbers e i q s block frame) f, not_different list (4 * block_length i q) clear.1.1.1.1.1.1.0)

-- What is known of the coder's numbers once check 7 has passed.
pub record LegalCoder (r bits at held : ℕ) : Type 0 where
  pub rate : OneOf rates r
  pub register : bits < 64
  pub place : at < period r
  pub holds : held < 8

pub coder_numbers : (r bits at held : ℕ) → Numbered (coder_parameters r bits at held)
coder_numbers r bits at held = (omega arith, (omega arith, (omega arith, (omega arith, tt))))

pub accepted_coder : (r bits at held : ℕ) → FirstOf (coder_parameters r bits at held) 0 → LegalCoder r bits at held
accepted_coder r bits at held f =
    let clear = accepted_clear (coder_parameters r bits at held) (coder_numbers r bits at held) f in
    record {
      rate = one_of rates r clear.0;
      register = omega (arith, clear.1.0);
      place = omega (arith, clear.1.1.0);
      holds = omega (arith, clear.1.1.1.0);
    }

-- What is known of the numbers for which the likeliest data are sought.
pub record LegalLikeliest (bits symbols octets : ℕ) : Type 0 where
  pub register : bits < 64
  pub even : symbols % 2 ≡ 0
  pub limit : symbols ≤ 512
  pub half : octets ≡ symbols / 2

pub likeliest_numbers : (bits symbols octets : ℕ) → Numbered (likeliest_order bits symbols octets)
likeliest_numbers bits symbols octets = (omega arith, (omega arith, (omega arith, tt)))

pub accepted_likeliest : (bits symbols octets : ℕ) → FirstOf (likeliest_order bits symbols octets) 0 → LegalLikeliest bits symbols octets
accepted_likeliest bits symbols octets f =
    let clear = accepted_clear (likeliest_order bits symbols octets) (likeliest_numbers bits symbols octets) f in
    let odd : (symbols % 2 ≡ 1) → ⊥ = λ o. clear.1.0 (inl o) in
    let over : (512 < symbols) → ⊥ = λ o. clear.1.0 (inr o) in
    record {
      register = omega (arith, clear.0);
      even = omega (arith, odd);
      limit = omega (arith, over);
      half = not_different octets (symbols / 2) clear.1.1.0;
    }
