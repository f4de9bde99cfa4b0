-- How a call answers its order: by the verdict on its first checks, then by what comes after them.
use mathlib.Core.Path.{◌≡◌, refl, sym, ◌∙◌, subst}
use mathlib.Core.Bool.{Bool, true, false}
use mathlib.Core.Logic.{◌≢◌, ◌⊎◌, inl, inr, ⊎_elim}
use mathlib.Core.List.{List, [], ◌∷◌}
use Prim.Native.Nat.{ℕ, ◌<◌}
use native.Mathlib.Omega.{arith}
use Rattle.refusals.specs.Order.{Check, FirstOf, Tells}
use Rattle.refusals.specs.Sizes.{frame_length, block_length}
use Rattle.refusals.specs.Numbers.{parameter_number}
use Rattle.refusals.specs.Calls.{decode_parameters, allowance, input, output}
use Rattle.refusals.specs.Working.{word_parameters, allowed_parameters, coder_parameters}
use Rattle.refusals.specs.declared.Parameter.{Parameter}
use Rattle.refusals.specs.declared.Parameter.TheVariants.{Strength, Depth, Fill, Allowance, Input, Output, Rate, Tolerance, Start, Progress}
use Rattle.refusals.proofs.Legal.{word_numbers, allowed_numbers, decode_numbers, coder_numbers}
use Rattle.refusals.proofs.Orders.{Begins, first_stops, first_passes, first_accepts}

-- Parameters are refused by 1 to 8, by 11 and by 14, so by neither 0, which is accepted, nor 9 nor 10, which are not about parameters.
pub parameter_number_lem : (p : Parameter) → ((0 < parameter_number p) × (parameter_number p < 9)) ⊎ (10 < parameter_number p)
parameter_number_lem Strength = inl (omega arith, omega arith)
parameter_number_lem Depth = inl (omega arith, omega arith)
parameter_number_lem Fill = inl (omega arith, omega arith)
parameter_number_lem Allowance = inl (omega arith, omega arith)
parameter_number_lem Input = inl (omega arith, omega arith)
parameter_number_lem Output = inl (omega arith, omega arith)
parameter_number_lem Rate = inl (omega arith, omega arith)
parameter_number_lem Tolerance = inl (omega arith, omega arith)
parameter_number_lem Start = inr (omega arith)
parameter_number_lem Progress = inr (omega arith)

pub parameter_nonzero : (p : Parameter) → parameter_number p ≢ 0
parameter_nonzero p z = ⊎_elim (λ low. omega arith) (λ last. omega arith) (parameter_number_lem p)

pub parameter_not_nine : (p : Parameter) → parameter_number p ≢ 9
parameter_not_nine p z = ⊎_elim (λ low. omega arith) (λ last. omega arith) (parameter_number_lem p)

pub parameter_not_ten : (p : Parameter) → parameter_number p ≢ 10
parameter_not_ten p z = ⊎_elim (λ low. omega arith) (λ last. omega arith) (parameter_number_lem p)

-- A refusal that the first checks gave is the whole call's.
pub stopped : (rest : Type 0) (front : List Check) (p : Parameter) → FirstOf front (parameter_number p) → Begins front (parameter_number p) rest
stopped rest front p f = first_stops rest front (parameter_number p) f (parameter_nonzero p)

-- Checks 1, 2 and 3 passed: what comes after them decides.
pub after_words : {rest : Type 0} (e i q n : ℕ) → FirstOf (word_parameters e i q) 0 → rest → Begins (word_parameters e i q) n rest
after_words e i q n f g = first_passes (word_parameters e i q) n (word_numbers e i q) f g

-- So with check 4; and then checks 1, 2 and 3 have passed.
pub after-allowance : {rest : Type 0} (e i q s n : ℕ) → FirstOf (allowed_parameters e i q s) 0 → rest → Begins (allowed_parameters e i q s) n rest
after-allowance e i q s n f g = first_passes (allowed_parameters e i q s) n (allowed_numbers e i q s) f g

pub allowed_words : (e i q s : ℕ) → FirstOf (allowed_parameters e i q s) 0 → FirstOf (word_parameters e i q) 0
allowed_words e i q s f = first_accepts (FirstOf (allowance e s ∷ []) 0) (word_parameters e i q) (word_numbers e i q) f

-- So with all that decode checks before it decodes.
pub after_decode : {rest : Type 0} (e i q s block frame n : ℕ) → FirstOf (decode_parameters e i q s block frame) 0 → rest → Begins (decode_parameters e i q s block frame) n rest
after_decode e i q s block frame n f g =
    first_passes (decode_parameters e i q s block frame) n (decode_numbers e i q s block frame) f g

pub decoded_words : (e i q s block frame : ℕ) → FirstOf (decode_parameters e i q s block frame) 0 → FirstOf (word_parameters e i q) 0
decoded_words e i q s block frame f =
    first_accepts (FirstOf (allowance e s ∷ input block (block_length i q) ∷ output frame (frame_length e i q) ∷ []) 0) (word_parameters e i q) (word_numbers e i q) f

-- So with check 7.
pub after_coder : {rest : Type 0} (r bits at held n : ℕ) → FirstOf (coder_parameters r bits at held) 0 → rest → Begins (coder_parameters r bits at held) n rest
after_coder r bits at held n f g = first_passes (coder_parameters r bits at held) n (coder_numbers r bits at held) f g

-- The lengths that were computed are those required.
pub same_lengths : (a b c d given out n : ℕ) → a ≡ c → b ≡ d → FirstOf (input given a ∷ output out b ∷ []) n → FirstOf (input given c ∷ output out d ∷ []) n
same_lengths a b c d given out n p q f =
    subst (λ (x : ℕ). FirstOf (input given x ∷ output out d ∷ []) n) p (subst (λ (y : ℕ). FirstOf (input given a ∷ output out y ∷ []) n) q f)

-- Of a state that is not closed the other part of check 14 decides.
pub still_open : {other : Type 0} (closed : Bool) → closed ≡ false → (other → ⊥) → (closed ≡ true) ⊎ other → ⊥
still_open closed e d (inl t) = let z : ◌≡◌ {A = ℕ} 0 1 = cc in absurd (omega arith)
still_open closed e d (inr o) = d o

-- The length computed, and the flag told: checks 6 and 14 are those of the order.
pub last_checks : (given a b : ℕ) (unfit : Bool) (due : Type 0) (n : ℕ) → a ≡ b → Tells unfit due → FirstOf (output given a ∷ (14, (unfit ≡ true)) ∷ []) n
    → FirstOf (output given b ∷ (14, due) ∷ []) n
last_checks given a b unfit due n e t (inl f) = inl (λ h. f.0 (h ∙ sym e), f.1)
last_checks given a b unfit due n e t (inr (d, inl f)) = inr (λ h. d (λ k. h (k ∙ e)), inl (subst (λ (flag : Bool). Tells flag due) f.0 t, f.1))
last_checks given a b true due n e t (inr (d, inr f)) = absurd (f.0 refl)
last_checks given a b false due n e t (inr (d, inr f)) = inr (λ h. d (λ k. h (k ∙ e)), inr (t, f.1))
