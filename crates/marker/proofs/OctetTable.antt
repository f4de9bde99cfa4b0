-- What octets add to eight counts, by their halves and by a table; and that three octets give the counts.
use Rattle.std.proofs.Common.{◌≡◌, ℕ, ◌+◌, ◌*◌, ◌/◌, ◌%◌, ◌^◌, ◌<◌, ◌≤◌, List, get_or, set, sym, ap, ◌∙◌, ap₂, arith, length-set, get_or-set_other, get_or-set_same}
use native.Mathlib.Decide.{ℕ_discrete}
use Rattle.marker.specs.Working.{lanes, wrong_of, half_adds, octet_adds, Filled, common_wrong}
use Rattle.marker.proofs.Packed.{lanes-sum, lanes-same, lanes_most}
use Rattle.marker.proofs.OctetBits.{of_most, of_parts, common_most}

-- ---- what octets and their halves add

half_is : (h a : ℕ) → a < 16 → half_adds (16 * h + a) ≡ lanes 8 (λ b. wrong_of b (8 + 4 * h) 4 a)
unfolding half_adds
half_is h a l =
    let which : (16 * h + a) / 16 ≡ h = omega arith in
    let value : (16 * h + a) % 16 ≡ a = omega arith in
    ap₂ (λ (x y : ℕ). lanes 8 (λ b. wrong_of b (8 + 4 * x) 4 y)) which value

octet_is : (k x : ℕ) → x < 256 → octet_adds (256 * k + x) ≡ lanes 8 (λ b. wrong_of b (8 + 8 * k) 8 x)
unfolding octet_adds
octet_is k x l =
    let which : (256 * k + x) / 256 ≡ k = omega arith in
    let value : (256 * k + x) % 256 ≡ x = omega arith in
    ap₂ (λ (u v : ℕ). lanes 8 (λ b. wrong_of b (8 + 8 * u) 8 v)) which value

pub octet_most : {r : ℕ} (n : ℕ) → r ≡ octet_adds n → r ≤ 8 * 0x0101010101010101
unfolding octet_adds
octet_most n e = rw e (lanes_most 8 _ (λ b l. of_most b (8 + 8 * (n / 256)) 8 (n % 256)))

-- The octet with a high and a low half; rows of sixteen, one for each high half of each octet.
octet_halves : (row low : ℕ) → low < 16 → half_adds (32 * (row / 16) + row % 16) + half_adds (32 * (row / 16) + 16 + low) ≡ octet_adds (16 * row + low)
octet_halves row low h =
    let k = row / 16 in
    let a = row % 16 in
    let x = 16 * a + low in
    let high : x / 2 ^ 4 ≡ a = omega arith in
    let rest : x % 2 ^ 4 ≡ low = omega arith in
    ap₂ ◌+◌ (ap half_adds (omega arith) ∙ half_is (2 * k) a (omega arith)) (ap half_adds (omega arith) ∙ half_is (2 * k + 1) low h)
    ∙ lanes-sum 8 (λ b. wrong_of b (8 + 4 * (2 * k)) 4 a) (λ b. wrong_of b (8 + 4 * (2 * k + 1)) 4 low)
    ∙ lanes-same 8 _ (λ b. wrong_of b (8 + 8 * k) 8 x)
    (λ b l. ap₂ ◌+◌ (ap₂ (λ (m y : ℕ). wrong_of b m 4 y) (omega arith) (sym high)) (ap₂ (λ (m y : ℕ). wrong_of b m 4 y) (omega arith) (sym rest)) ∙ sym (of_parts b (8 + 8 * k) 4 4 x))
    ∙ sym (octet_is k x (omega arith))
    ∙ ap octet_adds (omega arith)

pub row-sum : {halves : List ℕ} (row low : ℕ) → row < 48 → low < 16 → Filled half_adds 96 halves 96
    → get_or halves (32 * (row / 16) + row % 16) 0 + get_or halves (32 * (row / 16) + 16 + low) 0 ≡ octet_adds (16 * row + low)
row-sum row low h l F = ap₂ ◌+◌ (F.each (32 * (row / 16) + row % 16) (omega arith)) (F.each (32 * (row / 16) + 16 + low) (omega arith)) ∙ octet_halves row low l

-- One place more of a table is filled.
pub filled_turn : (f : ℕ → ℕ) (most : ℕ) (list : List ℕ) (count value : ℕ) → count < most → value ≡ f count → Filled f most list count → Filled f most (set list count value) (count + 1)
filled_turn f most list count value room is F =
    record {
      size = length-set list count value ∙ F.size;
      each = λ n h. elim (ℕ_discrete n count) [
        | yes e ↦ ap (λ (m : ℕ). get_or (set list count value) m 0) e ∙ get_or-set_same list count value 0 (omega (arith, F.size)) ∙ is ∙ ap f (sym e)
        | no d ↦ get_or-set_other list count n value 0 d ∙ F.each n (omega arith)
      ];
    }

-- ---- the counts of eight places

-- One octet more is counted.
with_octet : (k : ℕ) (f : ℕ → ℕ) (octet : ℕ) {sum more : ℕ} → octet < 256 → sum ≡ lanes 8 f → more ≡ octet_adds (256 * k + octet) → sum + more ≡ lanes 8 (λ b. f b + wrong_of b (8 + 8 * k) 8 octet)
with_octet k f octet h e m = ap₂ ◌+◌ e (m ∙ octet_is k octet h) ∙ lanes-sum 8 f (λ b. wrong_of b (8 + 8 * k) 8 octet)

module _ (s : List ℕ) (i : ℕ) where
  pub common_are : {v w x : ℕ} → ((n : ℕ) → get_or s n 0 < 256)
      → v ≡ octet_adds (256 * 0 + get_or s (i + 1) 0) → w ≡ octet_adds (256 * 1 + get_or s (i + 2) 0) → x ≡ octet_adds (256 * 2 + get_or s (i + 3) 0)
      → v + w + x ≡ lanes 8 (common_wrong s i)
  unfolding common_wrong
  common_are octets v w x = with_octet 2 _ _ (octets (i + 3)) (with_octet 1 _ _ (octets (i + 2)) (v ∙ octet_is 0 _ (octets (i + 1))) w) x

  pub common_sum : {counts : ℕ} → counts ≡ lanes 8 (common_wrong s i) → counts ≤ 24 * 0x0101010101010101
  common_sum e = rw e (lanes_most 24 _ (λ b h. common_most b s i))
