-- Lists of octets: known by their bits, and made of bits; what holds of them holds of their parts.
use mathlib.Core.Path.{◌≡◌, refl, sym, ap, ◌∙◌}
use mathlib.Core.List.{List, [], ◌∷◌, ◌++◌, append-nil}
use Prim.Native.Nat.{ℕ, zero, suc, ◌%◌}
use native.Mathlib.Omega.{arith}
use lib.ListN.{length, take, drop}
use Rattle.codewords.specs.Words.{Octets}
use Rattle.convolution.specs.Coder.{low_bits, bits_of, packed, filled, left}
use Rattle.convolution.proofs.Packing.{AreBits, AreOctets, bits-joined, low_bits_lem, packed-octets, cut_length, cut_into}

-- ---- parts

pub nothing : (l : List ℕ) → length l ≡ 0 → l ≡ []
nothing [] e = refl
nothing (x ∷ l) e = absurd (omega arith)

pub octets-taken : (k : ℕ) (l : List ℕ) → Octets l → Octets (take k l)
octets-taken zero l p = tt
octets-taken (suc k) [] p = tt
octets-taken (suc k) (x ∷ l) p = (p.0, octets-taken k l p.1)

pub octets_dropped : (k : ℕ) (l : List ℕ) → Octets l → Octets (drop k l)
octets_dropped zero l p = p
octets_dropped (suc k) [] p = tt
octets_dropped (suc k) (x ∷ l) p = octets_dropped k l p.1

pub octets_more : (a : List ℕ) (x : ℕ) → Octets a → Octets (x ∷ []) → Octets (a ++ (x ∷ []))
octets_more [] x p h = h
octets_more (y ∷ a) x p h = (p.0, octets_more a x p.1 h)

-- ---- bits

pub bits_of_lem : (octets : List ℕ) → AreBits (bits_of octets)
bits_of_lem [] = tt
bits_of_lem (x ∷ octets) = bits-joined (low_bits 8 x) (bits_of octets) (low_bits_lem 8 x) (bits_of_lem octets)

-- The coder's word for octets says the same.
are_octets : (octets : List ℕ) → Octets octets → AreOctets octets
are_octets [] p = tt
are_octets (x ∷ octets) p = (p.0, are_octets octets p.1)

octets_are : (octets : List ℕ) → AreOctets octets → Octets octets
octets_are [] p = tt
octets_are (x ∷ octets) p = (p.0, octets_are octets p.1)

packed_back : (octets : List ℕ) → Octets octets → packed (bits_of octets) ≡ octets
packed_back octets p = ap packed (sym (append-nil (bits_of octets))) ∙ packed-octets octets [] (are_octets octets p) ∙ append-nil octets

pub known_by_bits : (one other : List ℕ) → Octets one → Octets other → bits_of one ≡ bits_of other → one ≡ other
known_by_bits one other p q e = sym (packed_back one p) ∙ ap packed e ∙ packed_back other q

-- Bits that fill whole octets are the bits of those.
module _ (bits : List ℕ) (p : AreBits bits) (whole : length bits % 8 ≡ 0) where
  pub filled-octets : Octets (filled bits)
  filled-octets = octets_are (filled bits) (cut_into bits p).small

  none_left : left bits ≡ []
  none_left = nothing (left bits) (omega (arith, cut_length _ _ _ (cut_into bits p), (cut_into bits p).few))

  pub filled-bits : bits_of (filled bits) ≡ bits
  filled-bits = sym ((cut_into bits p).same ∙ ap (λ (l : List ℕ). bits_of (filled bits) ++ l) none_left ∙ append-nil (bits_of (filled bits)))
