-- Blocks of interleaved words (document 01, "Codewords").
use Rattle.std.specs.Prelude.{List, [], ◌∷◌, ℕ, zero, suc, ◌+◌, ◌-◌, ◌*◌, get_or}
use Rattle.codewords.specs.Words.{with_fill}

-- The symbols of word w that a block of depth i sends, n of them from the k-th on: the k-th is octet k i + w.
unfoldable pub sent_from : ℕ → List ℕ → ℕ → ℕ → ℕ → List ℕ
sent_from i block w k zero = []
sent_from i block w k (suc n) = get_or block (k * i + w) 0 ∷ sent_from i block w (suc k) n

-- Word w as the code knows it: q zeros of fill, then the 255 - q symbols sent.
abbrev pub word_of : ℕ → ℕ → List ℕ → ℕ → List ℕ
word_of i q block w = with_fill q (sent_from i block w 0 (255 - q))

-- All counts together.
unfoldable pub sum : List ℕ → ℕ
sum [] = 0
sum (n ∷ ns) = n + sum ns
