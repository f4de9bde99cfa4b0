-- What the decoder does on the way, word by word: what its private functions promise each other.
use Rattle.std.specs.Prelude.{◌≡◌, Bool, true, false, ◌≢◌, List, [], ◌++◌, ℕ, ◌+◌, ◌-◌, ◌*◌, ◌≤◌, ◌<◌, length, take, get_or}
use Rattle.std.specs.Int.Bits.{bit_xor}
use Rattle.refusals.specs.Order.{OneOf}
use Rattle.refusals.specs.Sizes.{strengths, information, block_length}
use Rattle.codewords.specs.Words.{Codeword, Good, differing, with_fill}
use Rattle.encoding.specs.Blocks.{sent_from, word_of, sum}
use Rattle.reed_solomon.specs.Outcome.{Lost}

-- From octet `first` on the block holds a row's octets, i apart; and from octet `start` on it holds the rows interleaved.
abbrev pub RowStands : List ℕ → ℕ → ℕ → List ℕ → Type 0
RowStands row i first block = (j : ℕ) → first + j * i < length block → get_or block (first + j * i) 0 ≡ get_or row j 0

abbrev pub Standing : List (List ℕ) → ℕ → ℕ → List ℕ → Type 0
Standing rows i start block = (j w : ℕ) → w < i → start + (j * i + w) < length block → get_or block (start + (j * i + w)) 0 ≡ get_or (get_or rows w []) j 0

-- A row has the checks that make a codeword of word w's information symbols; and so for each word.
abbrev pub CodedBy : ℕ → ℕ → ℕ → List ℕ → ℕ → List ℕ → Type 0
CodedBy e i q block w row = Codeword e (with_fill q (sent_from i block w 0 (information e - q) ++ take (e + e) row))

abbrev pub WordRows : ℕ → ℕ → ℕ → List ℕ → List (List ℕ) → Type 0
WordRows e i q block rows = (w : ℕ) → w < i → CodedBy e i q block w (get_or rows w [])

-- The symbols of word w from the first-th to the n-th, each with an octet of a row added, behind zeros.
pub record Difference (row : List ℕ) (i : ℕ) (block : List ℕ) (w first n : ℕ) (rest : List ℕ) : Type 0 where
  pub size : length rest ≡ 255
  pub front : (k : ℕ) → k < first → get_or rest k 0 ≡ 0
  pub checks : (k : ℕ) → first ≤ k → k < n → get_or rest k 0 ≡ bit_xor (get_or row (k - first) 0) (get_or block (k * i + w) 0)

-- The first n symbols of word w stand repaired in their places of a frame, and those of the other words are as they were.
pub record Put (i w n : ℕ) (block errors before after : List ℕ) : Type 0 where
  pub size : length after ≡ length before
  pub here : (k : ℕ) → k < n → get_or after (k * i + w) 0 ≡ bit_xor (get_or block (k * i + w) 0) (get_or errors k 0)
  pub others : (k v : ℕ) → v < i → v ≢ w → get_or after (k * i + v) 0 ≡ get_or before (k * i + v) 0

-- Legal numbers, and a block of the length that they require.
pub record Fitting (e i q s : ℕ) (block : List ℕ) : Type 0 where
  pub strength : OneOf strengths e
  pub allowance : s ≤ e
  pub some : 0 < i
  pub deep : i ≤ 8
  pub filled : q < information e
  pub received : length block ≡ block_length i q

-- Word w has its codeword: it is good, its information symbols stand in their places of the frame, and the count is its own.
pub record HasCodeword (e i q s : ℕ) (block : List ℕ) (w : ℕ) (after : List ℕ) (count : ℕ) : Type 0 where
  pub codeword : List ℕ
  pub good : Good e q s (word_of i q block w) codeword
  pub symbols : (k : ℕ) → k < information e - q → get_or after (k * i + w) 0 ≡ get_or codeword (q + k) 0
  pub count_is : count ≡ differing (word_of i q block w) codeword

-- One word: found and repaired into the frame, where the other words' symbols stay, or not found.
pub record WordRepaired (e i q s : ℕ) (block : List ℕ) (w : ℕ) (before : List ℕ) (found : Bool) (count : ℕ) (after : List ℕ) : Type 0 where
  pub size : length after ≡ length before
  pub others : (k v : ℕ) → v < i → v ≢ w → get_or after (k * i + v) 0 ≡ get_or before (k * i + v) 0
  pub when_found : found ≡ true → HasCodeword e i q s block w after count
  pub when_not : found ≡ false → Lost e i q s block w

-- The words before w have their codewords; the counts are theirs, and zero from w on.
pub record Sofar (e i q s : ℕ) (block frame counts : List ℕ) (total w : ℕ) : Type 0 where
  pub each : (v : ℕ) → v < w → HasCodeword e i q s block v frame (get_or counts v 0)
  pub beyond : (v : ℕ) → w ≤ v → get_or counts v 0 ≡ 0
  pub summed : total ≡ sum counts
  pub size : length counts ≡ 8
