-- Words of conventional octets by the locators of their places: the points where codewords vanish, and marks for symbols that are
-- doubtful (document 01, "Codewords"). No public contract speaks of them.
use Rattle.std.specs.Prelude.{◌≡◌, List, [], ◌∷◌, ℕ, zero, suc, ◌+◌, ◌≤◌, ◌<◌, length}
use Rattle.field.specs.Field.{pow, alpha}
use Rattle.codewords.specs.Words.{Octets, value_at}
use Rattle.codewords.specs.Polynomials.{◌⊞◌, by_root}

-- The element whose powers are the points where codewords vanish, and the locators of places.
unfoldable pub beta : ℕ
beta = pow alpha 11

-- The locator of the symbol at the k-th power.
abbrev pub X : ℕ → ℕ
X k = pow beta k

-- How many symbols are not zero.
unfoldable pub weight : List ℕ → ℕ
weight [] = 0
weight (zero ∷ w) = weight w
weight (suc c ∷ w) = suc (weight w)

-- The words that vanish at N powers of beta from the m-th on.
pub record Code (m N : ℕ) (c : List ℕ) : Type 0 where
  pub octets : Octets c
  pub zeros : (j : ℕ) → j < N → value_at c (X (m + j)) ≡ 0

-- The values of a word there.
unfoldable pub syndromes : ℕ → List ℕ → ℕ → ℕ
syndromes m r i = value_at r (X (m + i))

-- The polynomial of degree N with these roots, highest coefficient first, without the leading one.
pub record Generator (m N : ℕ) (gl : List ℕ) : Type 0 where
  pub size : length gl ≡ N
  pub roots : (j : ℕ) → j < N → value_at gl (X (m + j)) ≡ pow (X (m + j)) N

-- A codeword that differs from a word in at most s places.
pub record Near (m E s : ℕ) (r c : List ℕ) : Type 0 where
  pub size : length r ≡ length c
  pub code : Code m (E + E) c
  pub close : weight (r ⊞ c) ≤ s

-- A word with zeros at the marked places.
unfoldable pub unmarked_part : List ℕ → List ℕ → List ℕ
unmarked_part [] w = w
unmarked_part (x ∷ d) [] = []
unmarked_part (zero ∷ d) (c ∷ w) = c ∷ unmarked_part d w
unmarked_part (suc x ∷ d) (c ∷ w) = 0 ∷ unmarked_part d w

-- A codeword such that twice the unmarked places that differ, and the marked places, are at most 2s.
pub record GoodWord (m E s : ℕ) (d r c : List ℕ) : Type 0 where
  pub size : length r ≡ length c
  pub code : Code m (E + E) c
  pub close : weight (unmarked_part d (r ⊞ c)) + weight (unmarked_part d (r ⊞ c)) + weight d ≤ s + s

-- A polynomial times x + z for the locator z of each marked place; and the product of these alone.
unfoldable pub times_marks : List ℕ → List ℕ → List ℕ
times_marks [] p = p
times_marks (zero ∷ d) p = times_marks d p
times_marks (suc x ∷ d) p = by_root (X (length d)) (times_marks d p)

unfoldable pub erasure : List ℕ → List ℕ
erasure d = times_marks d (1 ∷ [])
