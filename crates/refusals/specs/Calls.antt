-- The twelve checks, and the order in which each of the thirteen calls makes them (document 01, "Refusal numbers and the order of checks"; document 02,
-- (ii), (iii), (vi) and (vii)).
use Rattle.std.specs.Prelude.{◌≡◌, Bool, true, ◌≢◌, ◌⊎◌, List, [], ◌∷◌, ◌++◌, ℕ, ◌+◌, ◌-◌, ◌*◌, ◌/◌, ◌%◌, ◌≤◌, ◌<◌}
use Rattle.refusals.specs.Order.{Check, OneOf}
use Rattle.refusals.specs.Sizes.{strengths, depths, rates, period, information, frame_length, block_length, checks_length, marked_length, symbol_count, octets_for}

-- The checks, each with its number; 5 has three forms, for a length that is not the one required, for one over the limit, and for one that is odd
-- or over the limit, and 7 four, for the rate and for the coder's state: a register over six bits, a place that the period does not have, more than
-- seven symbols held.
abbrev pub strength : ℕ → Check
strength e = (1, (OneOf strengths e → ⊥))

abbrev pub depth : ℕ → Check
depth i = (2, (OneOf depths i → ⊥))

abbrev pub fill : ℕ → ℕ → Check
fill e q = (3, information e - 1 < q)

abbrev pub allowance : ℕ → ℕ → Check
allowance e s = (4, e < s)

abbrev pub input : ℕ → ℕ → Check
input len required = (5, len ≢ required)

abbrev pub input_over : ℕ → ℕ → Check
input_over limit len = (5, limit < len)

abbrev pub input_odd_or_over : ℕ → ℕ → Check
input_odd_or_over limit len = (5, (len % 2 ≡ 1) ⊎ (limit < len))

abbrev pub output : ℕ → ℕ → Check
output len required = (6, len ≢ required)

abbrev pub rate : ℕ → Check
rate r = (7, (OneOf rates r → ⊥))

abbrev pub register : ℕ → Check
register bits = (7, 63 < bits)

abbrev pub place : ℕ → ℕ → Check
place r at = (7, period r ≤ at)

abbrev pub holding : ℕ → Check
holding n = (7, 7 < n)

abbrev pub tolerance : ℕ → Check
tolerance t = (8, 3 < t)

abbrev pub marker : ℕ → ℕ → Check
marker t wrong = (9, t < wrong)

abbrev pub word : Type 0 → Check
word uncorrectable = (10, uncorrectable)

abbrev pub start : ℕ → ℕ → Check
start from stream = (11, 8 * stream < from)

-- 14 has two forms: a portion after the close, or one that would pass the frame; a close after the close, or elsewhere than at the frame's end.
abbrev pub passing : Bool → ℕ → ℕ → Check
passing closed end frame = (14, (closed ≡ true) ⊎ (frame < end))

abbrev pub unfinished : Bool → ℕ → ℕ → Check
unfinished closed place frame = (14, (closed ≡ true) ⊎ (place ≢ frame))

-- The orders. A length is called by what it is the length of; `wrong` is the wrong bits of the four marker octets, and
-- `uncorrectable` says that some word has no codeword with an all-zero fill within the allowance.
abbrev pub encode_order : ℕ → ℕ → ℕ → ℕ → ℕ → List Check
encode_order e i q frame block = strength e ∷ depth i ∷ fill e q ∷ input frame (frame_length e i q) ∷ output block (block_length i q) ∷ []

abbrev pub portion_order : ℕ → ℕ → ℕ → ℕ → ℕ → ℕ → Bool → List Check
portion_order e i q portion written place closed =
    strength e ∷ depth i ∷ fill e q ∷ input_over 300 portion ∷ output written portion ∷ passing closed (place + portion) (frame_length e i q) ∷ []

abbrev pub close_order : ℕ → ℕ → ℕ → ℕ → ℕ → Bool → List Check
close_order e i q checks place closed =
    strength e ∷ depth i ∷ fill e q ∷ output checks (checks_length e i) ∷ unfinished closed place (frame_length e i q) ∷ []

abbrev pub decode_parameters : ℕ → ℕ → ℕ → ℕ → ℕ → ℕ → List Check
decode_parameters e i q s block frame =
    strength e ∷ depth i ∷ fill e q ∷ allowance e s ∷ input block (block_length i q) ∷ output frame (frame_length e i q) ∷ []

abbrev pub decode_order : ℕ → ℕ → ℕ → ℕ → ℕ → ℕ → Type 0 → List Check
decode_order e i q s block frame uncorrectable = decode_parameters e i q s block frame ++ (word uncorrectable ∷ [])

-- Salvage checks as decode does before it decodes, then its list: four octets for each octet of the block.
abbrev pub salvage_order : ℕ → ℕ → ℕ → ℕ → ℕ → ℕ → ℕ → List Check
salvage_order e i q s block frame list = decode_parameters e i q s block frame ++ (output list (4 * block_length i q) ∷ [])

abbrev pub randomise_order : ℕ → List Check
randomise_order block = input_over 2040 block ∷ []

-- A call of the coder gives the whole octets of the symbols held and its own; a close gives one octet if any are held.
abbrev pub convolve_order : ℕ → ℕ → ℕ → ℕ → ℕ → ℕ → List Check
convolve_order r bits at held octets symbols =
    rate r ∷ register bits ∷ place r at ∷ holding held ∷ input_over 2044 octets ∷ output symbols ((held + symbol_count r at octets) / 8) ∷ []

abbrev pub coder_close_order : ℕ → ℕ → ℕ → ℕ → ℕ → List Check
coder_close_order r bits at held symbols = rate r ∷ register bits ∷ place r at ∷ holding held ∷ output symbols (octets_for held) ∷ []

-- The likeliest data are half as many octets as the symbols that they are sought for.
abbrev pub likeliest_order : ℕ → ℕ → ℕ → List Check
likeliest_order bits symbols octets = register bits ∷ input_odd_or_over 512 symbols ∷ output octets (symbols / 2) ∷ []

abbrev pub marker_parameters : ℕ → ℕ → List Check
marker_parameters t octets = tolerance t ∷ input octets 4 ∷ []

abbrev pub marker_order : ℕ → ℕ → ℕ → List Check
marker_order t octets wrong = marker_parameters t octets ++ (marker t wrong ∷ [])

abbrev pub search_order : ℕ → ℕ → ℕ → List Check
search_order t stream from = tolerance t ∷ input_over 65536 stream ∷ start from stream ∷ []

abbrev pub transmit_order : ℕ → ℕ → ℕ → ℕ → ℕ → List Check
transmit_order e i q frame marked = strength e ∷ depth i ∷ fill e q ∷ input frame (frame_length e i q) ∷ output marked (marked_length i q) ∷ []

abbrev pub receive_parameters : ℕ → ℕ → ℕ → ℕ → ℕ → ℕ → ℕ → List Check
receive_parameters e i q s t marked frame =
    strength e ∷ depth i ∷ fill e q ∷ allowance e s ∷ tolerance t ∷ input marked (marked_length i q) ∷ output frame (frame_length e i q) ∷ []

abbrev pub receive_order : ℕ → ℕ → ℕ → ℕ → ℕ → ℕ → ℕ → ℕ → Type 0 → List Check
receive_order e i q s t marked frame wrong uncorrectable =
    receive_parameters e i q s t marked frame ++ (marker t wrong ∷ word uncorrectable ∷ [])
