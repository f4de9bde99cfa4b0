-- One step of the shortest register (Berlekamp and Massey, without division), its invariant, and what the invariant says at the end of every pattern of few errors.
use mathlib.Core.Path.{◌≡◌, refl, sym, ap, ap₂, ◌∙◌}
use mathlib.Core.Logic.{◌≢◌}
use mathlib.Core.List.{List, [], ◌∷◌}
use Prim.Native.Nat.{ℕ, suc, ◌+◌, ◌-◌, ◌≤◌, ◌<◌}
use native.Mathlib.Omega.{arith}
use native.Mathlib.Decide.{dec_lt, dec_le}
use lib.ListN.{length}
use Rattle.field.specs.Field.{◌⊕◌, ◌·◌}
use Rattle.field.proofs.Product.{ring}
use Rattle.field.proofs.Powers.{·_nz}
use Rattle.codewords.specs.Words.{Octets}
use Rattle.codewords.specs.Polynomials.{scaled, shift_by, blend, dot}
use Rattle.codewords.proofs.Polynomials.{length-scaled, length-⊞, dot-⊞, dot-scaled, dot_ext, Pattern, syndrome_of}
use Rattle.codewords.proofs.Roots.{locators, Away, Proper, Rooted, Solid, length-locators, locator, zeros_go_on}
use Rattle.codewords.proofs.Division.{⊞-octets, scaled-octets, length_shift, dot-shift_by, top, top_lt, top-⊞, top-scaled, top_shift, Fresh, Distinct, Zeros, root_count}

-- After n syndromes: σ has degree L and annihilates as far as the n go; τ fails first at L - 1, with b.
pub record Invariant (S : ℕ → ℕ) (n L : ℕ) (σ τ : List ℕ) (b : ℕ) : Type 0 where
  pub σ-octets : Octets σ
  pub τ-octets : Octets τ
  pub b_octet : b < 256
  pub b_nz : b ≢ 0
  pub σ_len : length σ ≡ suc L
  pub σ-top : top σ ≢ 0
  pub τ_len : length τ + L ≤ suc n
  pub len : L ≤ n
  pub σ-zero : (i : ℕ) → i + L < n → dot S i σ ≡ 0
  pub τ-zero : (i : ℕ) → suc i < L → dot S i τ ≡ 0
  pub τ_fail : (i : ℕ) → suc i ≡ L → dot S i τ ≡ b

pub start : (S : ℕ → ℕ) → Invariant S 0 0 (1 ∷ []) (1 ∷ []) 1
unfolding top
start S =
    record {
      σ-octets = (omega arith, tt);
      τ-octets = (omega arith, tt);
      b_octet = omega arith;
      b_nz = omega arith;
      σ_len = refl;
      σ-top = omega arith;
      τ_len = omega arith;
      len = omega arith;
      σ-zero = λ i h. absurd (omega arith);
      τ-zero = λ i h. absurd (omega arith);
      τ_fail = λ i h. absurd (omega arith);
    }

pub dot-blend : (S : ℕ → ℕ) (i b d : ℕ) (p q : List ℕ) → dot S i (blend b d p q) ≡ b · dot S i p ⊕ d · dot S i q
unfolding blend
dot-blend S i b d p q = dot-⊞ S i (scaled b p) (scaled d q) ∙ ap₂ (λ (x y : ℕ). x ⊕ y) (dot-scaled S i b p) (dot-scaled S i d q)

pub blend-octets : (b d : ℕ) (p q : List ℕ) → Octets (blend b d p q)
unfolding blend
blend-octets b d p q = ⊞-octets (scaled b p) (scaled d q) (scaled-octets b p) (scaled-octets d q)

pub length-blend : (b d : ℕ) (p q : List ℕ) → length q ≤ length p → length (blend b d p q) ≡ length p
unfolding blend
length-blend b d p q h = length-⊞ (scaled b p) (scaled d q) ∙ omega (arith, length-scaled b p, length-scaled d q)

pub top-blend : (b d : ℕ) (p q : List ℕ) → length q < length p → top (blend b d p q) ≡ b · top p
unfolding blend
top-blend b d p q h = top-⊞ (scaled b p) (scaled d q) (omega (arith, length-scaled b p, length-scaled d q)) ∙ top-scaled b p

blend-zero : (S : ℕ → ℕ) (i b d : ℕ) (p q : List ℕ) → dot S i p ≡ 0 → dot S i q ≡ 0 → dot S i (blend b d p q) ≡ 0
blend-zero S i b d p q e f = dot-blend S i b d p q ∙ ap₂ (λ (x y : ℕ). b · x ⊕ d · y) e f ∙ simp ring

blend_meet : (S : ℕ → ℕ) (i b d : ℕ) (p q : List ℕ) → dot S i p ≡ d → dot S i q ≡ b → dot S i (blend b d p q) ≡ 0
blend_meet S i b d p q e f = dot-blend S i b d p q ∙ ap₂ (λ (x y : ℕ). b · x ⊕ d · y) e f ∙ simp ring

shift_top : (k : ℕ) (p : List ℕ) → 0 < length p → top (shift_by k p) ≡ top p
shift_top k [] h = absurd (omega arith)
shift_top k (c ∷ p) h = top_shift k c p

module _ (S : ℕ → ℕ) (n L : ℕ) (σ τ : List ℕ) (b d : ℕ) (I : Invariant S n L σ τ b) where
  -- the discrepancy is zero
  pub keep : dot S (n - L) σ ≡ 0 → Invariant S (suc n) L σ τ b
  keep e =
      record {
        σ-octets = I.σ-octets;
        τ-octets = I.τ-octets;
        b_octet = I.b_octet;
        b_nz = I.b_nz;
        σ_len = I.σ_len;
        σ-top = I.σ-top;
        τ_len = omega arith;
        len = omega arith;
        σ-zero = λ i h. elim (dec_lt (i + L) n) [ yes s ↦ I.σ-zero i s | no s ↦ ap (λ (m : ℕ). dot S m σ) (omega arith) ∙ e ];
        τ-zero = I.τ-zero;
        τ_fail = I.τ_fail;
      }

  -- it is not, and the length stays
  pub same : dot S (n - L) σ ≡ d → n < L + L → Invariant S (suc n) L (blend b d σ (shift_by (L + L - suc n) τ)) τ b
  same e w =
      record {
        σ-octets = blend-octets b d σ τk;
        τ-octets = I.τ-octets;
        b_octet = I.b_octet;
        b_nz = I.b_nz;
        σ_len = length-blend b d σ τk (omega (arith, fits)) ∙ I.σ_len;
        σ-top = λ q. ·_nz b (top σ) I.b_octet (top_lt σ I.σ-octets) I.b_nz I.σ-top (sym (top-blend b d σ τk fits) ∙ q);
        τ_len = omega arith;
        len = omega arith;
        σ-zero = λ i h. elim (dec_lt (i + L) n) [
          | yes s ↦ blend-zero S i b d σ τk (I.σ-zero i s) (dot-shift_by S i k τ ∙ I.τ-zero (i + k) (omega arith))
          | no s ↦ blend_meet S i b d σ τk (ap (λ (m : ℕ). dot S m σ) (omega arith) ∙ e) (dot-shift_by S i k τ ∙ I.τ_fail (i + k) (omega arith))
        ];
        τ-zero = I.τ-zero;
        τ_fail = I.τ_fail;
      }
    where
      k : ℕ
      k = L + L - suc n

      τk : List ℕ
      τk = shift_by k τ

      fits : length τk < length σ
      fits = omega (arith, length_shift k τ, I.σ_len, I.τ_len)

  -- it is not, and the length grows
  pub grow : dot S (n - L) σ ≡ d → d ≢ 0 → d < 256 → L + L ≤ n → Invariant S (suc n) (suc n - L) (blend b d (shift_by (suc n - (L + L)) σ) τ) σ d
  grow e nz l w =
      record {
        σ-octets = blend-octets b d σk τ;
        τ-octets = I.σ-octets;
        b_octet = l;
        b_nz = nz;
        σ_len = length-blend b d σk τ (omega (arith, fits)) ∙ omega (arith, long);
        σ-top = λ q. ·_nz b (top σ) I.b_octet (top_lt σ I.σ-octets) I.b_nz I.σ-top
            (ap (λ (x : ℕ). b · x) (sym (shift_top k σ (omega (arith, I.σ_len)))) ∙ sym (top-blend b d σk τ fits) ∙ q);
        τ_len = omega (arith, I.σ_len);
        len = omega arith;
        σ-zero = λ i h. elim (dec_lt (suc i) L) [
          | yes s ↦ blend-zero S i b d σk τ (dot-shift_by S i k σ ∙ I.σ-zero (i + k) (omega arith)) (I.τ-zero i s)
          | no s ↦ blend_meet S i b d σk τ (dot-shift_by S i k σ ∙ ap (λ (m : ℕ). dot S m σ) (omega arith) ∙ e) (I.τ_fail i (omega arith))
        ];
        τ-zero = λ i h. I.σ-zero i (omega arith);
        τ_fail = λ i h. ap (λ (m : ℕ). dot S m σ) (omega arith) ∙ e;
      }
    where
      k : ℕ
      k = suc n - (L + L)

      σk : List ℕ
      σk = shift_by k σ

      long : length σk ≡ suc (suc n - L)
      long = length_shift k σ ∙ omega (arith, I.σ_len)

      fits : length τ < length σk
      fits = omega (arith, long, I.τ_len)

pub proper_fresh : (x : ℕ) (es : Pattern) → Away x es → Fresh x (locators es)
proper_fresh x [] a = tt
proper_fresh x (e ∷ es) a = (a.0, proper_fresh x es a.1)

pub proper_distinct : (es : Pattern) → Proper es → Distinct (locators es)
proper_distinct [] g = tt
proper_distinct (e ∷ es) g = (g.1, proper_fresh e.1 es g.2, proper_distinct es g.3)

pub rooted-zeros : (p : List ℕ) (es : Pattern) → Rooted p es → Zeros p (locators es)
rooted-zeros p [] r = tt
rooted-zeros p (e ∷ es) r = (r.0, rooted-zeros p es r.1)

-- ---- what the end of the run says of the patterns that have these syndromes

module _ (es : Pattern) (g : Proper es) (s : Solid es) (S : ℕ → ℕ) (n L : ℕ) (σ τ : List ℕ) (b : ℕ) (I : Invariant S n L σ τ b)
    (agree : (i : ℕ) → i < n → syndrome_of es i ≡ S i) (few : length es + length es ≤ n) where
  over : (p : List ℕ) (i : ℕ) → i + length p ≤ n → dot (syndrome_of es) i p ≡ dot S i p
  over p i h = dot_ext (syndrome_of es) S i p (λ j l. agree (i + j) (omega arith))

  -- the register is not longer than the pattern
  pub not_long : L ≤ length es
  not_long =
      elim (dec_le L (length es)) [
        | yes h ↦ h
        | no h ↦ absurd (I.b_nz
            (sym (I.τ_fail (L - 1) (omega arith)) ∙ sym (over τ (L - 1) (omega (arith, I.τ_len)))
            ∙ zeros_go_on es g s τ I.τ-octets (λ i l. over τ i (omega (arith, I.τ_len)) ∙ I.τ-zero i (omega arith)) (L - 1)))
      ]

  pub all_found : Rooted σ es
  all_found = locator es g s σ I.σ-octets (λ i h. over σ i (omega (arith, I.σ_len, not_long)) ∙ I.σ-zero i (omega (arith, not_long)))

  -- and not shorter
  pub not_short : length es ≤ L
  not_short = omega (arith, root_count (locators es) σ I.σ-octets I.σ-top (proper_distinct es g) (rooted-zeros σ es all_found), length-locators es, I.σ_len)
