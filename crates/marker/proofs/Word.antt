-- The bits from a place on as a number, first bit highest: how it grows, splits and is put together from octets, and that the ones of its
-- sum with the marker are the true form's wrong bits.
use Rattle.std.proofs.Common.{◌≡◌, ℕ, zero, suc, ◌+◌, ◌-◌, ◌*◌, ◌/◌, ◌%◌, ◌^◌, ◌<◌, ◌≤◌, List, [], ◌∷◌, get_or, sym, refl, ap, ◌∙◌, subst, add-zero, add-suc, mul_assoc, add_comm, pow-suc, zero-add, arith}
use native.Mathlib.Nat.{div-div-eq-div-mul}
use lib.Bits.{bit_xor, differ, xor_step}
use lib.Count.{ones, ones_step}
use Rattle.octets.specs.Bits.{bit_at}
use Rattle.octets.proofs.Bits.{bit_of_octet}
use Rattle.marker.specs.declared.Form.TheVariants.{True}
use Rattle.marker.specs.Place.{marker, wrong_among, wrong_bits}
use Rattle.marker.specs.Working.{word}

pub word_none : (s : List ℕ) (p : ℕ) → word 0 s p ≡ 0
unfolding word
word_none s p = refl

pub word_more : (n : ℕ) (s : List ℕ) (p : ℕ) → word (suc n) s p ≡ word n s p * 2 + bit_at s (p + n)
unfolding word
word_more n s p = refl

pub bit_small : (s : List ℕ) (p : ℕ) → bit_at s p < 2
bit_small s p = omega arith

pub word_small : (n : ℕ) (s : List ℕ) (p : ℕ) → word n s p < 2 ^ n
unfolding word
word_small zero s p = omega arith
word_small (suc n) s p = rw pow-suc (omega (arith, word_small n s p, bit_small s (p + n)))

pub word_split : (m n : ℕ) (s : List ℕ) (p : ℕ) → word (m + n) s p ≡ word m s p * 2 ^ n + word n s (p + m)
unfolding word
word_split m zero s p = simp add-zero (omega arith)
word_split m (suc n) s p =
    let at : p + (m + n) ≡ p + m + n = omega arith in
    let more : word m s p * 2 ^ suc n ≡ word m s p * 2 ^ n * 2 = rw (pow-suc, mul_assoc) in
    rw (add-suc m n, at) (omega (arith, word_split m n s p, more))

-- ---- octets

-- The first j bits of an octet are what is left of it without the others.
octet_front : (s : List ℕ) (i j : ℕ) → get_or s i 0 < 256 → j ≤ 8 → word j s (i * 8) ≡ get_or s i 0 / 2 ^ (8 - j)
unfolding word
octet_front s i zero h l = omega arith
octet_front s i (suc j) h l =
    let more : 8 - j ≡ suc (7 - j) = omega arith in
    let less : 8 - suc j ≡ 7 - j = omega arith in
    let halved : get_or s i 0 / 2 ^ (8 - j) ≡ get_or s i 0 / 2 ^ (7 - j) / 2 = rw (more, pow-suc, div-div-eq-div-mul) in
    let front : word j s (i * 8) ≡ get_or s i 0 / 2 ^ (8 - j) = octet_front s i j h (omega arith) in
    rw (bit_of_octet s i j (omega arith), front, halved, less) (omega arith)

-- A number moved up by n bits, of which 32 are kept, and n bits put in behind it.
behind : (x n front : ℕ) → n ≤ 8 → front < 2 ^ n → x % 2 ^ 32 * 2 ^ n % 2 ^ 32 + front ≡ (x * 2 ^ n + front) % 2 ^ 32
behind x zero front h l = omega arith
behind x (suc zero) front h l = omega arith
behind x (suc (suc zero)) front h l = omega arith
behind x (suc (suc (suc zero))) front h l = omega arith
behind x (suc (suc (suc (suc zero)))) front h l = omega arith
behind x (suc (suc (suc (suc (suc zero))))) front h l = omega arith
behind x (suc (suc (suc (suc (suc (suc zero)))))) front h l = omega arith
behind x (suc (suc (suc (suc (suc (suc (suc zero))))))) front h l = omega arith
behind x (suc (suc (suc (suc (suc (suc (suc (suc zero)))))))) front h l = omega arith
behind x (suc (suc (suc (suc (suc (suc (suc (suc (suc n))))))))) front h l = absurd (omega arith)

-- There is room for the first n bits of an octet.
pub front_fits : (window octet n : ℕ) → window < 2 ^ 32 → octet < 256 → n ≤ 8 → window * 2 ^ n % 2 ^ 32 + octet / 2 ^ (8 - n) < 2 ^ 32
front_fits window octet n w o h =
    let small : octet / 2 ^ (8 - n) < 2 ^ n = subst (λ (x : ℕ). x < 2 ^ n) (octet_front (octet ∷ []) 0 n o h) (word_small n (octet ∷ []) 0) in
    let whole : window % 2 ^ 32 ≡ window = omega arith in
    let put = ap (λ (x : ℕ). x * 2 ^ n % 2 ^ 32 + octet / 2 ^ (8 - n)) (sym whole) ∙ behind window n (octet / 2 ^ (8 - n)) h small in
    omega (arith, put)

-- The first n bits of octet i enter behind those before it.
pub front_enters : (s : List ℕ) (p k i n : ℕ) {window next : ℕ} → get_or s i 0 < 256 → n ≤ 8 → p + k ≡ i * 8 → window ≡ word k s p % 2 ^ 32
    → next ≡ window * 2 ^ n % 2 ^ 32 + get_or s i 0 / 2 ^ (8 - n) → next ≡ word (k + n) s p % 2 ^ 32
front_enters s p k i n {window} {next} octet h at old e =
    e ∙ ap (λ (x : ℕ). x * 2 ^ n % 2 ^ 32 + get_or s i 0 / 2 ^ (8 - n)) old
    ∙ ap (λ (x : ℕ). word k s p % 2 ^ 32 * 2 ^ n % 2 ^ 32 + x) (sym (octet_front s i n octet h) ∙ ap (word n s) (sym at))
    ∙ behind (word k s p) n (word n s (p + k)) h (word_small n s (p + k)) ∙ ap (λ (x : ℕ). x % 2 ^ 32) (sym (word_split k n s p))

-- Four octets, the first highest.
pub four_octets : (s : List ℕ) → ((i : ℕ) → get_or s i 0 < 256) → word 32 s 0 ≡ ((get_or s 0 0 * 256 + get_or s 1 0) * 256 + get_or s 2 0) * 256 + get_or s 3 0
four_octets s small =
    omega (
      arith,
      word_split 24 8 s 0,
      word_split 16 8 s 0,
      word_split 8 8 s 0,
      octet_front s 0 8 (small 0) (omega arith),
      octet_front s 1 8 (small 1) (omega arith),
      octet_front s 2 8 (small 2) (omega arith),
      octet_front s 3 8 (small 3) (omega arith),
    )

-- ---- the ones

differ_small : (x y : ℕ) → x < 2 → y < 2 → differ x y < 2
differ_small zero y h k = k
differ_small (suc zero) zero h k = omega arith
differ_small (suc zero) (suc zero) h k = omega arith
differ_small (suc zero) (suc (suc y)) h k = omega arith
differ_small (suc (suc x)) y h k = omega arith

ones_doubled : (a b x y : ℕ) → x < 2 → y < 2 → ones (bit_xor (a * 2 + x) (b * 2 + y)) ≡ ones (bit_xor a b) + differ x y
ones_doubled a b x y h k =
    let a' : (a * 2 + x) / 2 ≡ a = omega arith in
    let b' : (b * 2 + y) / 2 ≡ b = omega arith in
    let x' : (a * 2 + x) % 2 ≡ x = omega arith in
    let y' : (b * 2 + y) % 2 ≡ y = omega arith in
    let e : bit_xor (a * 2 + x) (b * 2 + y) ≡ bit_xor a b * 2 + differ x y = cc (xor_step (a * 2 + x) (b * 2 + y)) in
    let half : (bit_xor a b * 2 + differ x y) / 2 ≡ bit_xor a b = omega (arith, differ_small x y h k) in
    let last : (bit_xor a b * 2 + differ x y) % 2 ≡ differ x y = omega (arith, differ_small x y h k) in
    let o : ones (bit_xor a b * 2 + differ x y) ≡ differ x y + ones (bit_xor a b) = cc (ones_step (bit_xor a b * 2 + differ x y)) in
    ap ones e ∙ o ∙ add_comm (differ x y) (ones (bit_xor a b))

pub ones-wrong : (n : ℕ) (s : List ℕ) (p : ℕ) → ones (bit_xor (word n s p) (word n marker 0)) ≡ wrong_among True n s p
unfolding word wrong_among ones
ones-wrong zero s p = refl
ones-wrong (suc n) s p =
    rw (zero-add n) (ones_doubled (word n s p) (word n marker 0) _ _ (bit_small s (p + n)) (bit_small marker n)
    ∙ ap (λ (x : ℕ). x + differ (bit_at s (p + n)) (bit_at marker n)) (ones-wrong n s p))

marker-word : word 32 marker 0 ≡ 0x1ACFFC1D
unfolding word
marker-word = refl

pub word-wrong : (s : List ℕ) (p : ℕ) → ones (bit_xor (word 32 s p) 0x1ACFFC1D) ≡ wrong_bits True s p
word-wrong s p = rw marker-word at (ones-wrong 32 s p)
