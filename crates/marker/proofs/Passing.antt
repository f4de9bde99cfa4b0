-- Places none of which fits.
use Rattle.std.proofs.Common.{ℕ, List, arith}
use native.Mathlib.Decide.{dec_lt}
use Rattle.marker.specs.Place.{NoneFits}

module _ (tolerance : ℕ) (stream : List ℕ) where
  -- None fits in two runs of places, the second from where the first ends.
  pub none_joined : (start middle end : ℕ) → NoneFits tolerance stream start middle → NoneFits tolerance stream middle end → NoneFits tolerance stream start end
  none_joined start middle end front rest p from before fits =
      elim (dec_lt p middle) [
        | yes early ↦ front p from early fits
        | no late ↦ rest p (omega arith) before fits
      ]
