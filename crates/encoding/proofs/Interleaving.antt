-- Places in a block and the words that it interleaves: octet k i + w is symbol k of word w, and a word is known by its octets.
use mathlib.Core.Path.{◌≡◌, refl, sym, ap, ap₂, ◌∙◌, subst}
use mathlib.Core.Logic.{◌↔◌, inl, inr}
use mathlib.Core.List.{List, [], ◌∷◌, ◌++◌}
use Prim.Native.Nat.{ℕ, zero, suc, ◌+◌, ◌-◌, ◌*◌, ◌/◌, ◌%◌, ◌≤◌, ◌<◌}
use native.Mathlib.Nat.{add-zero, zero-add, add-suc, suc-add, add_comm, mod-eq_of_lt, mul-le-mul_right, mul-add-mod_self_right, add-mul-div_right, div-eq_of_lt, div-add-mod', mod-lt}
use native.Mathlib.Decide.{dec_lt}
use native.Mathlib.Omega.{arith}
use borrow.Rule.Slice.PartMut.{put_mid, post_of}
use lib.ListN.{length, take, drop, get_or, replicate, length-take, length-replicate, get_or-append}
use lib.Seq.{drop_at, get_or-take, get_or-append-add, ext_get_or}
use Rattle.codewords.specs.Words.{Octets, differing, with_fill}
use Rattle.codewords.proofs.LineWords.{unless_alike, differing-front}
use Rattle.std.proofs.lemmas.List.{get_or-append_right}
use Rattle.std.proofs.lemmas.Slice.{take-put_mid_below}
use Rattle.encoding.specs.Blocks.{sent_from, word_of}
use Rattle.encoding.specs.Rows.{ChecksPut}
use Rattle.encoding.specs.Turns.{NextWord}

-- ---- places

pub symbol_of : (i k w : ℕ) → w < i → (k * i + w) / i ≡ k
symbol_of i k w h =
    ap (λ (n : ℕ). n / i) (add_comm (k * i) w) ∙ add-mul-div_right w k (omega arith) ∙ ap (λ (n : ℕ). n + k) (div-eq_of_lt h) ∙ zero-add k

pub word_of_lem : (i k w : ℕ) → w < i → (k * i + w) % i ≡ w
word_of_lem i k w h = mul-add-mod_self_right k i w ∙ mod-eq_of_lt h

pub place_symbol : (i a b x y : ℕ) → x < i → y < i → a * i + x ≡ b * i + y → a ≡ b
place_symbol i a b x y h l e = sym (symbol_of i a x h) ∙ ap (λ (n : ℕ). n / i) e ∙ symbol_of i b y l

-- a place of the first m symbols of all words
pub place-below : (i k m w : ℕ) → k < m → w < i → k * i + w < m * i
place-below i k m w h l = omega (arith, mul-le-mul_right i (suc-below h))
  where
    suc-below : k < m → k + 1 ≤ m
    suc-below h = omega arith

pub symbol_below : (i k m w : ℕ) → k * i + w < m * i → k < m
symbol_below i k m w h =
    elim (dec_lt k m) [
      | yes l ↦ l
      | no n ↦ absurd (omega (arith, mul-le-mul_right i (at_least n)))
    ]
  where
    at_least : (k < m → ⊥) → m ≤ k
    at_least n = omega arith

-- the next place is that of the next word, or of the first word's next symbol
pub next_place : (i at symbol word symbol' word' : ℕ) → at ≡ symbol * i + word → NextWord i word word' → (word' ≡ 0 → symbol' ≡ symbol + 1) → ((word' ≡ 0 → ⊥) → symbol' ≡ symbol)
    → at + 1 ≡ symbol' * i + word'
next_place i at symbol word symbol' word' place (inl last) first other = omega (arith, ap (λ (k : ℕ). k * i) (first last.1))
next_place i at symbol word symbol' word' place (inr inner) first other =
    omega (arith, ap (λ (k : ℕ). k * i) (other (λ z. omega (arith, inner.1))))

-- ---- rows that are interleaved

unfoldable pub interleaved : List (List ℕ) → ℕ → ℕ → ℕ
interleaved rows i n = get_or (get_or rows (n % i) []) (n / i) 0

pub interleaved-at : (rows : List (List ℕ)) (i n j w : ℕ) → n ≡ j * i + w → w < i → get_or (get_or rows w []) j 0 ≡ interleaved rows i n
unfolding interleaved
interleaved-at rows i n j w e h =
    ap₂ (λ (a b : ℕ). get_or (get_or rows a []) b 0) (sym (word_of_lem i j w h)) (sym (symbol_of i j w h)) ∙ ap (λ (m : ℕ). get_or (get_or rows (m % i) []) (m / i) 0) (sym e)

-- and put from octet `start` of a block on
pub checks_put : (rows : List (List ℕ)) (i start : ℕ) (before items : List ℕ) → start ≤ length before → length items ≡ length before - start
    → ((n : ℕ) → n < length items → get_or items n 0 ≡ interleaved rows i n) → length (put_mid start (length before - start) before items) ≡ length before
    → ChecksPut rows i start before (put_mid start (length before - start) before items)
checks_put rows i start before items within long written size =
    record {
      size = size;
      front = take-put_mid_below start (length before - start) before items start (omega arith) within;
      checks = λ j w h l. get_or-append_right (take start before) (items ++ behind) start (start + (j * i + w)) 0 (length-take start before ∙ omega arith) (omega arith)
          ∙ ap (λ (n : ℕ). get_or (items ++ behind) n 0) (omega arith) ∙ get_or-append items behind 0 (j * i + w) (omega (arith, long))
          ∙ written (j * i + w) (omega (arith, long)) ∙ sym (interleaved-at rows i (j * i + w) j w refl h);
    }
  where
    behind : List ℕ
    behind = post_of start (length before - start) before

-- ---- the symbols of a word

pub sent-length : (i : ℕ) (block : List ℕ) (w k n : ℕ) → length (sent_from i block w k n) ≡ n
unfolding sent_from
sent-length i block w k zero = refl
sent-length i block w k (suc n) = ap suc (sent-length i block w (suc k) n)

pub sent-at : (i : ℕ) (block : List ℕ) (w k n j : ℕ) → j < n → get_or (sent_from i block w k n) j 0 ≡ get_or block ((k + j) * i + w) 0
unfolding sent_from
sent-at i block w k zero j h = absurd (omega arith)
sent-at i block w k (suc n) zero h = ap (λ (m : ℕ). get_or block (m * i + w) 0) (sym (add-zero k))
sent-at i block w k (suc n) (suc j) h = sent-at i block w (suc k) n j (omega arith) ∙ ap (λ (m : ℕ). get_or block (m * i + w) 0) (omega arith)

-- octet k i + w is symbol k of word w
pub sent_symbol : (i : ℕ) (block : List ℕ) (w n k : ℕ) → k < n → get_or (sent_from i block w 0 n) k 0 ≡ get_or block (k * i + w) 0
sent_symbol i block w n k h = sent-at i block w 0 n k h ∙ ap (λ (m : ℕ). get_or block (m * i + w) 0) (zero-add k)

-- and symbol q + k with the fill in front
pub word_at : (i q : ℕ) (block : List ℕ) (w k : ℕ) → k < 255 - q → get_or (word_of i q block w) (q + k) 0 ≡ get_or block (k * i + w) 0
word_at i q block w k h =
    ap (λ (n : ℕ). get_or (word_of i q block w) (n + k) 0) (sym (length-replicate q 0)) ∙ get_or-append-add (replicate q 0) (sent_from i block w 0 (255 - q)) k 0
    ∙ sent_symbol i block w (255 - q) k h

-- the words of two blocks that differ at the same places as two others differ in as many symbols
module _ (i : ℕ) (a b c d : List ℕ) (alike : (m : ℕ) → (get_or a m 0 ≡ get_or b m 0) ↔ (get_or c m 0 ≡ get_or d m 0)) (w : ℕ) where
  sent_alike : (k n : ℕ) → differing (sent_from i a w k n) (sent_from i b w k n) ≡ differing (sent_from i c w k n) (sent_from i d w k n)
  unfolding differing sent_from
  sent_alike k zero = refl
  sent_alike k (suc n) = ap₂ ◌+◌ (unless_alike (get_or a (k * i + w) 0) (get_or b (k * i + w) 0) (get_or c (k * i + w) 0) (get_or d (k * i + w) 0) (alike (k * i + w))) (sent_alike (suc k) n)

  pub words_alike : (q : ℕ) → differing (word_of i q a w) (word_of i q b w) ≡ differing (word_of i q c w) (word_of i q d w)
  words_alike q =
      differing-front (replicate q 0) (sent_from i a w 0 (255 - q)) (sent_from i b w 0 (255 - q)) ∙ sent_alike 0 (255 - q)
      ∙ sym (differing-front (replicate q 0) (sent_from i c w 0 (255 - q)) (sent_from i d w 0 (255 - q)))

-- a word is known by its octets
pub sent_is : (i : ℕ) (block : List ℕ) (w k n : ℕ) (word : List ℕ) → length word ≡ n → ((j : ℕ) → j < n → get_or block ((k + j) * i + w) 0 ≡ get_or word j 0)
    → sent_from i block w k n ≡ word
sent_is i block w k n word size same =
    ext_get_or 0 (sent_from i block w k n) word (long ∙ sym size) (λ j h. sent-at i block w k n j (omega (arith, long)) ∙ same j (omega (arith, long)))
  where
    long : length (sent_from i block w k n) ≡ n
    long = sent-length i block w k n

pub sent-same : (i : ℕ) (block other : List ℕ) (w k n : ℕ) → ((j : ℕ) → j < n → get_or block ((k + j) * i + w) 0 ≡ get_or other ((k + j) * i + w) 0)
    → sent_from i block w k n ≡ sent_from i other w k n
sent-same i block other w k n same =
    sent_is i block w k n (sent_from i other w k n) (sent-length i other w k n) (λ j h. same j h ∙ sym (sent-at i other w k n j h))

pub sent-++ : (i : ℕ) (block : List ℕ) (w k m n : ℕ) → sent_from i block w k (m + n) ≡ sent_from i block w k m ++ sent_from i block w (k + m) n
unfolding sent_from
sent-++ i block w k zero n = ap₂ {C = List ℕ} (λ (a b : ℕ). sent_from i block w a b) (sym (add-zero k)) (zero-add n)
sent-++ i block w k (suc m) n =
    ap (sent_from i block w k) (suc-add m n)
    ∙ ap {B = List ℕ} (λ (word : List ℕ). get_or block (k * i + w) 0 ∷ word) (sent-++ i block w (suc k) m n
    ∙ ap {B = List ℕ} (λ (a : ℕ). sent_from i block w (suc k) m ++ sent_from i block w a n) (suc-add k m ∙ sym (add-suc k m)))

pub sent-octets : (i : ℕ) (block : List ℕ) (w k n : ℕ) → ((m : ℕ) → get_or block m 0 < 256) → Octets (sent_from i block w k n)
unfolding sent_from
sent-octets i block w k zero o = tt
sent-octets i block w k (suc n) o = (o (k * i + w), sent-octets i block w (suc k) n o)

-- the frame comes first: a word's first symbols are those of the frame
pub sent-information : (i : ℕ) (frame block : List ℕ) (w k : ℕ) → w < i → length frame ≡ k * i → take (length frame) block ≡ frame
    → sent_from i block w 0 k ≡ sent_from i frame w 0 k
sent-information i frame block w k h size first =
    sent-same i block frame w 0 k
    (λ j l. sym (get_or-take (length frame) block ((0 + j) * i + w) 0 (below j l)) ∙ ap (λ (list : List ℕ). get_or list ((0 + j) * i + w) 0) first)
  where
    below : (j : ℕ) → j < k → (0 + j) * i + w < length frame
    below j l = omega (arith, place-below i j k w l h)

-- ---- a block is known by its words

-- what follows the fill of a word
pub unfilled : (q : ℕ) (a b : List ℕ) → with_fill q a ≡ with_fill q b → a ≡ b
unfilled q a b e = sym (drop_at (replicate q 0) a q (length-replicate q 0)) ∙ ap (drop q) e ∙ drop_at (replicate q 0) b q (length-replicate q 0)

pub known_by_words : (i n : ℕ) (a b : List ℕ) → 0 < i → length a ≡ n * i → length b ≡ n * i → ((w : ℕ) → w < i → sent_from i a w 0 n ≡ sent_from i b w 0 n) → a ≡ b
known_by_words i n a b some long short same =
    ext_get_or 0 a b (long ∙ sym short)
    (λ p h. let back : p / i * i + p % i ≡ p = div-add-mod' p i in
    subst (λ (x : ℕ). get_or a x 0 ≡ get_or b x 0) back
    (octet (p / i) (p % i) (symbol_below i (p / i) n (p % i) (subst (λ (x : ℕ). x < n * i) (sym back) (omega arith))) (mod-lt p some)))
  where
    octet : (k w : ℕ) → k < n → w < i → get_or a (k * i + w) 0 ≡ get_or b (k * i + w) 0
    octet k w h l = sym (sent_symbol i a w n k h) ∙ ap (λ (word : List ℕ). get_or word k 0) (same w l) ∙ sent_symbol i b w n k h
