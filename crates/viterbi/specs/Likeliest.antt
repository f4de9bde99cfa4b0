-- The input that a decoder owes for received symbols at rate 1/2, over all inputs of its length (document 02, (vi)). The coder is that of the crate
-- `convolution`.
use Rattle.std.specs.Prelude.{◌≡◌, ◌≢◌, List, ℕ, ◌≤◌, length, get_or, take}
use Rattle.codewords.specs.Words.{differing}
use Rattle.convolution.specs.Coder.{bits_of, symbols_from}

-- In how many places the symbols of an input, coded at rate 1/2 from a register on, differ from the received ones.
abbrev pub places : ℕ → List ℕ → List ℕ → ℕ
places register received input = differing (symbols_from 1 register 0 (bits_of input)) (bits_of received)

-- Of two lists of bits the one has 0 at the first bit where they differ, if they do.
abbrev pub First : List ℕ → List ℕ → Type 0
First one other = (k : ℕ) → take k one ≡ take k other → get_or one k 0 ≢ get_or other k 0 → get_or one k 0 ≡ 0

-- No input of that length differs in fewer places; and of those that differ in as few it is the first. An input is any list: of a number that is no
-- octet the eight lowest bits are coded.
pub record Best (register : ℕ) (received input : List ℕ) : Type 0 where
  pub least : (other : List ℕ) → length other ≡ length input → places register received input ≤ places register received other
  pub first : (other : List ℕ) → length other ≡ length input → places register received other ≡ places register received input →
      First (bits_of input) (bits_of other)
