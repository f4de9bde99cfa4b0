-- Laws of what a state has yet to send: a bit taken in, an octet's bits, whole octets written out.
use mathlib.Core.Path.{◌≡◌, refl, sym, ap, ap₂, ◌∙◌, subst}
use mathlib.Core.List.{List, [], ◌∷◌, ◌++◌, append_assoc, append-nil}
use Prim.Native.Nat.{ℕ, zero, suc, ◌+◌, ◌-◌, ◌*◌, ◌/◌, ◌%◌, ◌^◌, ◌≤◌, ◌<◌}
use native.Mathlib.Omega.{arith}
use native.Mathlib.Numerals.{add-one}
use borrow.Author.Tests.{eq-eqb, ne_eqb}
use lib.ListN.{length, get_or, take, drop, set, length-append, length-set}
use Rattle.std.specs.Int.{byte_at, bytes_high_first}
use lib.Pow.{pow-add}
use native.Mathlib.Nat.{pow-suc}
use Rattle.std.proofs.lemmas.Bool.{cases_lt}
use mathlib.Core.Logic.{inl, inr}
use lib.Seq.{take-suc-set, drop-cons, length-take-le}
use Rattle.convolution.specs.Coder.{low_bits, bits_of, inverted, symbols_from}
use Rattle.convolution.specs.Working.{stream, Alike, Filled, Ready, Kept}
use Rattle.convolution.specs.declared.Flow.{Flow}
use Rattle.convolution.proofs.Bits.{low_mod, low_split, low_length, bits-append, bits-length}

-- The test of the rate decides on the inversion.
pub at_half : (rate symbol : ℕ) → rate ≡ 1 → inverted rate symbol ≡ 1 - symbol
at_half rate symbol e = simp (eq-eqb rate 1 e)

pub at_punctured : (rate symbol : ℕ) → (rate ≡ 1 → ⊥) → inverted rate symbol ≡ symbol
at_punctured rate symbol n = simp (ne_eqb rate 1 n)

-- One octet more is written: its eight symbols are held no longer.
pub octet_written : (symbols : List ℕ) (at held left more v : ℕ) →
    at < length symbols →
    left ≡ 8 + more →
    v ≡ held / 2 ^ more % 256 →
    bits_of (take (at + 1) (set symbols at v)) ++ low_bits more held ≡ bits_of (take at symbols) ++ low_bits left held
octet_written symbols at held left more v h el ev =
    let octet : bits_of (v ∷ []) ≡ low_bits 8 (held / 2 ^ more) =
    append-nil (low_bits 8 v) ∙ ap (low_bits 8) ev ∙ low_mod 8 8 (held / 2 ^ more) (omega arith) in
    let front : bits_of (take (at + 1) (set symbols at v)) ≡ bits_of (take at symbols) ++ low_bits 8 (held / 2 ^ more) =
    ap (λ (n : ℕ). bits_of (take n (set symbols at v))) (add-one at)
    ∙ ap bits_of (take-suc-set symbols at v h)
    ∙ bits-append (take at symbols) (v ∷ [])
    ∙ ap (λ (l : List ℕ). bits_of (take at symbols) ++ l) octet in
    let back : low_bits left held ≡ low_bits 8 (held / 2 ^ more) ++ low_bits more held =
    ap (λ (n : ℕ). low_bits n held) el ∙ low_split 8 more held in
    ap (λ (l : List ℕ). l ++ low_bits more held) front
    ∙ append_assoc (bits_of (take at symbols)) (low_bits 8 (held / 2 ^ more)) (low_bits more held)
    ∙ ap (λ (l : List ℕ). bits_of (take at symbols) ++ l) (sym back)

-- So none, one or two of them.
module _ (before : List ℕ) (at held holds : ℕ) where
  pub ready_one : (v : ℕ) → 8 ≤ holds → holds < 16 → at < length before → v ≡ held / 2 ^ (holds - 8) % 256 → Ready before at held holds (set before at v)
  ready_one v low high fits e =
      let n : at + holds / 8 ≡ at + 1 = omega arith in
      let m : holds % 8 ≡ holds - 8 = omega arith in
      record {
        long = length-set before at v;
        same = ap₂ (λ (x y : ℕ). bits_of (take x (set before at v)) ++ low_bits y held) n m ∙ octet_written before at held holds (holds - 8) v fits (omega arith) e;
      }

  pub ready_two : (v w : ℕ) → 16 ≤ holds → holds < 24 → at + 1 < length before → v ≡ held / 2 ^ (holds - 8) % 256 → w ≡ held / 2 ^ (holds - 16) % 256 → Ready before at held holds (set (set before at v) (at + 1) w)
  ready_two v w low high fits e f =
      let n : at + holds / 8 ≡ at + 1 + 1 = omega arith in
      let m : holds % 8 ≡ holds - 16 = omega arith in
      let long = length-set before at v in
      record {
        long = length-set (set before at v) (at + 1) w ∙ long;
        same =
            ap₂ (λ (x y : ℕ). bits_of (take x (set (set before at v) (at + 1) w)) ++ low_bits y held) n m
            ∙ octet_written (set before at v) (at + 1) held (holds - 8) (holds - 16) w (omega arith) (omega arith) f
            ∙ octet_written before at held holds (holds - 8) v (omega arith) (omega arith) e;
      }

-- The last n of the eight octets of a number, the highest first, have its 8 n lowest bits.
byte_worth : (k : ℕ) → 256 ^ k ≡ 2 ^ (8 * k)
byte_worth zero = refl
byte_worth (suc k) =
    let up : 8 * k + 8 ≡ 8 * suc k = omega arith in
    pow-suc 256 k ∙ ap (λ (n : ℕ). n * 256) (byte_worth k) ∙ sym (pow-add 2 (8 * k) 8) ∙ ap (λ (n : ℕ). 2 ^ n) up

byte_is : (k x : ℕ) → byte_at k x ≡ x / 2 ^ (8 * k) % 256
byte_is zero x = omega arith
byte_is (suc k) x = ap (λ (n : ℕ). x / n % 256) (byte_worth (suc k))

high_first : (k x : ℕ) → bits_of (bytes_high_first k x) ≡ low_bits (8 * k) x
high_first zero x = refl
high_first (suc k) x =
    let up : 8 + 8 * k ≡ 8 * suc k = omega arith in
    ap₂ ◌++◌ (ap (low_bits 8) (byte_is k x) ∙ low_mod 8 8 (x / 2 ^ (8 * k)) (omega arith)) (high_first k x) ∙ sym (low_split 8 (8 * k) x) ∙ ap (λ (n : ℕ). low_bits n x) up

last_of : (k n x : ℕ) → n ≤ k → drop (k - n) (bytes_high_first k x) ≡ bytes_high_first n x
last_of zero n x h = let e : n ≡ 0 = omega arith in rw e refl
last_of (suc k) n x h = elim (cases_lt k n) [
  | inl top ↦
      let e : n ≡ suc k = omega arith in
      let z : suc k - n ≡ 0 = omega arith in
      rw (z, e) refl
  | inr lower ↦
      let e : suc k - n ≡ suc (k - n) = omega arith in
      rw e (last_of k n x (omega arith))
]

pub last_octets : (n x : ℕ) → n ≤ 8 → bits_of (drop (8 - n) (bytes_high_first 8 x)) ≡ low_bits (8 * n) x
last_octets n x h = ap bits_of (last_of 8 n x h) ∙ high_first n x

-- The state that took an octet in stands for one octet less to come.
pub octet_gone : (rate i : ℕ) (octets : List ℕ) (s full : Flow) →
    i < length octets →
    Filled rate s (get_or octets i 0) full →
    Alike rate full (bits_of (drop (i + 1) octets)) s (bits_of (drop i octets))
octet_gone rate i octets s full h took =
    let next : drop i octets ≡ get_or octets i 0 ∷ drop (i + 1) octets =
    drop-cons octets i 0 h ∙ ap (λ (n : ℕ). get_or octets i 0 ∷ drop n octets) (sym (add-one i)) in
    subst (λ (l : List ℕ). Alike rate full (bits_of (drop (i + 1) octets)) s (bits_of l)) (sym next) (took.same (bits_of (drop (i + 1) octets)))

-- Octets that are written and symbols that stay held are the symbols that were held.
pub octets_out : (rate written : ℕ) (before after bits whole : List ℕ) (full kept : Flow) →
    Ready before written full.held full.holds after →
    Kept full kept →
    bits_of (take written before) ++ stream rate full bits ≡ whole →
    bits_of (take (written + full.holds / 8) after) ++ stream rate kept bits ≡ whole
octets_out rate written before after bits whole full kept ready keeps e =
    let out = bits_of (take (written + full.holds / 8) after) in
    let rest = symbols_from rate full.register full.place bits in
    let same : stream rate kept bits ≡ low_bits (full.holds % 8) full.held ++ rest =
    ap₂ ◌++◌ keeps.symbols (ap₂ (λ (r p : ℕ). symbols_from rate r p bits) keeps.register keeps.place) in
    ap (λ (l : List ℕ). out ++ l) same
    ∙ sym (append_assoc out (low_bits (full.holds % 8) full.held) rest)
    ∙ ap (λ (l : List ℕ). l ++ rest) ready.same
    ∙ append_assoc (bits_of (take written before)) (low_bits full.holds full.held) rest
    ∙ e

-- Octets, held symbols and what is to come, by their numbers.
pub lengths : (front whole rest : List ℕ) (n held : ℕ) → bits_of front ++ (low_bits n held ++ rest) ≡ whole → length whole ≡ 8 * length front + (n + length rest)
lengths front whole rest n held e =
    ap length (sym e)
    ∙ length-append (bits_of front) (low_bits n held ++ rest)
    ∙ ap₂ ◌+◌ (bits-length front) (length-append (low_bits n held) rest ∙ ap (λ (m : ℕ). m + length rest) (low_length n held))

-- There is room for the whole octets that one octet more completes.
pub room : (rate i written : ℕ) (octets symbols whole : List ℕ) (s full : Flow) →
    i < length octets →
    Filled rate s (get_or octets i 0) full →
    written ≤ length symbols →
    length whole / 8 ≤ length symbols →
    bits_of (take written symbols) ++ stream rate s (bits_of (drop i octets)) ≡ whole →
    written + full.holds / 8 ≤ length symbols
room rate i written octets symbols whole s full h filled w enough e =
    let front = take written symbols in
    let n : length front ≡ written = length-take-le written symbols w in
    let gone = ap (λ (l : List ℕ). bits_of front ++ l) (octet_gone rate i octets s full h filled).symbols ∙ e in
    let l = lengths front whole _ full.holds full.held gone in
    omega arith

-- With nothing to come, the octets are the whole ones and the held symbols the rest.
pub record Ended (front whole : List ℕ) (n held : ℕ) : Type 0 where
  pub octets : length front ≡ length whole / 8
  pub left : n ≡ length whole % 8
  pub same : bits_of front ++ low_bits n held ≡ whole

pub ended : (front whole : List ℕ) (n held : ℕ) → n < 8 → bits_of front ++ (low_bits n held ++ []) ≡ whole → Ended front whole n held
ended front whole n held h e =
    let l = lengths front whole [] n held e in
    record {
      octets = omega arith;
      left = omega arith;
      same = ap (λ (k : List ℕ). bits_of front ++ k) (sym (append-nil (low_bits n held))) ∙ e;
    }
