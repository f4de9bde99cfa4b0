-- The worked cases (A) to (K) in one table, and what each kind of case says (document 01, "Proved examples").
use Rattle.std.specs.Prelude.{◌≡◌, Ok, Err, List, [], ◌∷◌, ◌++◌, ℕ, zero, suc, length, drop, replicate}
use Rattle.field.specs.Field.{◌·◌}
use Rattle.field.specs.Line.{to_line, to_conventional}
use Rattle.randomiser.specs.Sequence.{sequence_octet}
use Rattle.convolution.specs.declared.State.{State}
use Rattle.convolution.specs.Outcome.{Convolved, zero_state, ConvolveOutcome, CloseOutcome}
use Rattle.refusals.specs.Sizes.{frame_length, block_length}
use Rattle.refusals.specs.Numbers.{Verdict}
use Rattle.refusals.specs.declared.WordRefusal.TheVariants.{NoCodeword}
use Rattle.encoding.specs.Outcome.{EncodeOutcome}
use Rattle.reed_solomon.specs.Outcome.{Decoded, Delivered, DecodeOutcome}

-- A worked case, by its kind: what is given, then what comes of it.
pub data Example : Type 0 where
  line_is_conventional : (line conventional : ℕ) → Example
  conventional_is_line : (conventional line : ℕ) → Example
  product_is : (a b product : ℕ) → Example
  sequence_begins : (octets : List ℕ) → Example
  convolved_is : (rate : ℕ) (octets written : List ℕ) (count : ℕ) (state : State) (closed : List ℕ) (last : ℕ) → Example
  encoded_is : (e i q : ℕ) (frame block : List ℕ) → Example
  decoded_is : (e i q s : ℕ) (block frame counts : List ℕ) (total : ℕ) → Example
  refused_by_ten : (e i q s : ℕ) (block : List ℕ) (word : ℕ) → Example

-- The n octets of the sequence from octet m on.
abbrev pub sequence_from : ℕ → ℕ → List ℕ
sequence_from m zero = []
sequence_from m (suc n) = sequence_octet m ∷ sequence_from (suc m) n

-- Encode permits this answer and this block, and nothing else.
pub record Encodes (e i q : ℕ) (frame before : List ℕ) (answer : Verdict) (block : List ℕ) : Type 0 where
  pub permitted : EncodeOutcome e i q frame before answer block
  pub only : (other : Verdict) (after : List ℕ) → EncodeOutcome e i q frame before other after → (other ≡ answer) × (after ≡ block)

-- Decode permits this answer, this report and this frame, and nothing else.
pub record Decodes (e i q s : ℕ) (block before : List ℕ) (answer : Decoded) (counts : List ℕ) (total : ℕ) (frame : List ℕ) : Type 0 where
  pub permitted : DecodeOutcome e i q s block before answer counts total frame
  pub only : (other : Decoded) (others : List ℕ) (sum : ℕ) (after : List ℕ) → DecodeOutcome e i q s block before other others sum after
      → (other ≡ answer) × (others ≡ counts) × (sum ≡ total) × (after ≡ frame)

-- From the zero state convolve permits this answer, with this state, and these octets, and nothing else; so does a close of that state.
pub record Convolves (rate : ℕ) (octets before room : List ℕ) (ran : Convolved) (state : State) (written : List ℕ) (answer : Convolved) (closed : List ℕ) : Type 0 where
  pub permitted : ConvolveOutcome rate zero_state octets before ran state written
  pub only : (other : Convolved) (next : State) (after : List ℕ) → ConvolveOutcome rate zero_state octets before other next after → (other ≡ ran) × (next ≡ state) × (after ≡ written)
  pub closes : CloseOutcome rate state room answer closed
  pub closes_only : (other : Convolved) (after : List ℕ) → CloseOutcome rate state room other after → (other ≡ answer) × (after ≡ closed)

-- What a case says by the definitions; a coder's output may hold anything before the call, if it has the length required.
abbrev pub Holds : Example → Type 0
Holds (line_is_conventional line conventional) = to_conventional line ≡ conventional
Holds (conventional_is_line conventional line) = to_line conventional ≡ line
Holds (product_is a b product) = a · b ≡ product
Holds (sequence_begins octets) = sequence_from 0 (length octets) ≡ octets
Holds (convolved_is rate octets written count state closed last) =
    (before room : List ℕ) → length before ≡ length written → length room ≡ length closed
    → Convolves rate octets before room (Ok count) state written (Ok last) closed
Holds (encoded_is e i q frame block) = (before : List ℕ) → length before ≡ block_length i q → Encodes e i q frame before (Ok tt) block
Holds (decoded_is e i q s block frame counts total) =
    (before : List ℕ) → length before ≡ frame_length e i q → Decodes e i q s block before Delivered counts total frame
Holds (refused_by_ten e i q s block word) =
    (before : List ℕ) → length before ≡ frame_length e i q → Decodes e i q s block before (Err (NoCodeword word)) (replicate 8 0) 0 before

-- Every case of a list holds.
abbrev pub AllHold : List Example → Type 0
AllHold [] = Unit {0}
AllHold (example ∷ examples) = Holds example × AllHold examples

-- The block of (J).
abbrev pub zero_block : List ℕ
zero_block = replicate 33 0

-- That block with its first 16 octets changed to FF.
abbrev pub changed_block : List ℕ
changed_block = replicate 16 0xFF ++ drop 16 zero_block

-- The table.
abbrev pub cases : List Example
cases =
    -- (A) line B9 is conventional 2A
    line_is_conventional 0xB9 0x2A
    -- (B) conventional 59 is line E8
    ∷ conventional_is_line 0x59 0xE8
    -- (C) 01 is line 7B
    ∷ conventional_is_line 0x01 0x7B
    -- (D) 87 is line C0
    ∷ conventional_is_line 0x87 0xC0
    -- (E) 80 times 02 is 87
    ∷ product_is 0x80 0x02 0x87
    -- (F) the first five sequence octets
    ∷ sequence_begins (0xFF ∷ 0x48 ∷ 0x0E ∷ 0xC0 ∷ 0x9A ∷ [])
    -- (G) octet 00 at rate 1/2 gives 55 55, and a close nothing
    ∷ convolved_is 1 (0x00 ∷ []) (0x55 ∷ 0x55 ∷ []) 16 (record { register = 0; place = 0; holds = 0; held = 0 }) [] 0
    -- (H) octet 80 at rate 1/2 gives BA 49, and a close nothing
    ∷ convolved_is 1 (0x80 ∷ []) (0xBA ∷ 0x49 ∷ []) 16 (record { register = 0; place = 0; holds = 0; held = 0 }) [] 0
    -- (I) octet 80 at rate 3/4 gives DC, 11 symbols, and a close the last three of them, C0
    ∷ convolved_is 3 (0x80 ∷ []) (0xDC ∷ []) 11 (record { register = 0; place = 2; holds = 3; held = 0xC0 }) (0xC0 ∷ []) 3
    -- (J) E 16, I 1, Q 222: frame 00 gives 33 zero octets
    ∷ encoded_is 16 1 222 (0x00 ∷ []) zero_block
    -- (K) that block with 16 octets changed to FF decodes at s = 16 to frame 00, count 16
    ∷ decoded_is 16 1 222 16 changed_block (0x00 ∷ []) (16 ∷ replicate 7 0) 16
    -- and at s = 15 is refused by 10
    ∷ refused_by_ten 16 1 222 15 changed_block 0
    ∷ []
