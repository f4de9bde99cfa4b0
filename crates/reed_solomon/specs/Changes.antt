-- Lists of the octets in which a block was changed: four octets for each (document 02, (vii)).
use Rattle.std.specs.Prelude.{◌≡◌, cond, ◌≢◌, List, [], ◌∷◌, ◌++◌, ℕ, suc, ◌+◌, ◌*◌, ◌/◌, ◌%◌, ◌≤◌, ◌<◌, eqb, length, get_or, set}

-- The entry of octet `at` if it changed: its place in 16 bits, highest octet first, then the old octet and the new one.
abbrev pub change : ℕ → ℕ → ℕ → List ℕ
change at old new = cond (eqb old new) [] (at / 256 ∷ at % 256 ∷ old ∷ new ∷ [])

-- The entries of all octets that changed, in block order, where the first octet is number `at`.
unfoldable pub changes_from : ℕ → List ℕ → List ℕ → List ℕ
changes_from at [] after = []
changes_from at (old ∷ block) [] = []
changes_from at (old ∷ block) (new ∷ after) = change at old new ++ changes_from (suc at) block after

-- The block with a list's entries put into their places.
unfoldable pub applied : List ℕ → List ℕ → List ℕ
applied (high ∷ low ∷ old ∷ new ∷ entries) block = applied entries (set block (high * 256 + low) new)
applied (high ∷ low ∷ old ∷ []) block = block
applied (high ∷ low ∷ []) block = block
applied (high ∷ []) block = block
applied [] block = block

-- Each entry tells a place of the block from `from` on, the octet that stands there, and another octet; and the places rise.
unfoldable pub Tells : ℕ → List ℕ → List ℕ → Type 0
Tells from block (high ∷ low ∷ old ∷ new ∷ entries) =
    (from ≤ high * 256 + low) × (high * 256 + low < length block) × (old ≡ get_or block (high * 256 + low) 0) × (old ≢ new) × Tells (suc (high * 256 + low)) block entries
Tells from block (high ∷ low ∷ old ∷ []) = ⊥
Tells from block (high ∷ low ∷ []) = ⊥
Tells from block (high ∷ []) = ⊥
Tells from block [] = Unit {0}
