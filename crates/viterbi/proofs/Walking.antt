-- Forward from octet to octet: the data so far are the beginning of the path, and lead to the register.
use mathlib.Core.Path.{◌≡◌, sym, ap, ap₂, ◌∙◌}
use mathlib.Core.List.{List, [], ◌∷◌, ◌++◌, append_assoc, append-nil}
use Prim.Native.Nat.{ℕ, ◌+◌, ◌*◌, ◌/◌, ◌%◌, ◌<◌}
use native.Mathlib.Nat.{mod-lt}
use native.Mathlib.Omega.{arith}
use native.Mathlib.Numerals.{add-one}
use lib.ListN.{length, get_or, set, take, drop, drop_of_length-le}
use lib.Seq.{take-suc-set, take_all}
use Rattle.codewords.specs.Words.{Octets}
use Rattle.convolution.specs.Coder.{low_bits, bits_of, register_after}
use Rattle.convolution.proofs.Bits.{low_mod, bits-append, bits-length}
use Rattle.convolution.proofs.AtOnce.{register-at}
use Rattle.convolution.proofs.Symbols.{register-append}
use Rattle.viterbi.specs.Working.{turned, of_register, path, Ahead, Walked}
use Rattle.viterbi.proofs.Octets.{octets_more}

-- The register behind an octet is its last six bits.
last_six : (r v : ℕ) → r < 64 → v < 256 → register_after r (low_bits 8 v) ≡ v % 64
last_six r v h l =
    let w = r * 256 + v in
    let above : w / 256 % 64 ≡ r = omega arith in
    let low : w % 256 ≡ v = omega arith in
    let six : w % 64 ≡ v % 64 = omega arith in
    ap₂ register_after (sym above) (ap (low_bits 8) (sym low) ∙ low_mod 8 8 w (omega arith)) ∙ register-at 8 w ∙ six

pub record Halfway (received : List ℕ) (start : ℕ) (list : List ℕ) (i at : ℕ) : Type 0 where
  pub octets : Octets (take i list)
  pub register : at < 64
  pub walked : path received start ≡ bits_of (take i list) ++ path (drop (2 * (8 * i)) received) at
  pub reached : at ≡ register_after start (bits_of (take i list))

pub halfway_more : (received : List ℕ) (start : ℕ) (list : List ℕ) (i at v : ℕ) → i < length list → Halfway received start list i at → Ahead received (8 * i) 8 at v →
    Halfway received start (set list i v) (i + 1) (v % 64)
halfway_more received start list i at v h d g =
    record {
      octets = rw taken (octets_more (take i list) v d.octets (g.small, tt));
      register = mod-lt v (omega arith);
      walked =
          d.walked
          ∙ ap (λ (l : List ℕ). bits_of (take i list) ++ l) (g.walked ∙ ap (λ (m : ℕ). low_bits 8 v ++ path (drop (2 * (8 * i + 8)) received) m) six)
          ∙ sym (append_assoc (bits_of (take i list)) (low_bits 8 v) (path (drop (2 * (8 * i + 8)) received) (v % 64)))
          ∙ ap₂ ◌++◌ (sym bits) (ap (λ (k : ℕ). path (drop k received) (v % 64)) on);
      reached =
          sym six
          ∙ ap (λ (k : ℕ). register_after k (low_bits 8 v)) d.reached
          ∙ sym (register-append start (bits_of (take i list)) (low_bits 8 v))
          ∙ ap (register_after start) (sym bits);
    }
  where
    six : register_after at (low_bits 8 v) ≡ v % 64
    six = last_six at v d.register g.small

    on : 2 * (8 * i + 8) ≡ 2 * (8 * (i + 1))
    on = omega arith

    taken : take (i + 1) (set list i v) ≡ take i list ++ (v ∷ [])
    taken = rw add-one (take-suc-set list i v h)

    bits : bits_of (take (i + 1) (set list i v)) ≡ bits_of (take i list) ++ low_bits 8 v
    bits = rw taken (bits-append (take i list) (v ∷ []) ∙ ap (λ (l : List ℕ). bits_of (take i list) ++ l) (append-nil (low_bits 8 v)))

-- A row read at the register's place.
pub ahead-at : (received row : List ℕ) (t register place : ℕ) → place ≡ turned register → Ahead received t 8 register (of_register row register) → Ahead received t 8 register (get_or row place 0)
ahead-at received row t register place e a = rw e a

pub whole_way : (s : List ℕ) (start : ℕ) (before after : List ℕ) (i at : ℕ) → i ≡ length after → length after ≡ length before → 2 * length after ≡ length s →
    Halfway (bits_of s) start after i at → Walked (bits_of s) start before after at
whole_way s start before after i at h l m d =
    let all : take i after ≡ after = take_all i after (omega arith) in
    let none : drop (2 * (8 * i)) (bits_of s) ≡ [] = drop_of_length-le (bits_of s) {i = 2 * (8 * i)} (omega (arith, bits-length s)) in
    let walked : path (bits_of s) start ≡ bits_of after ++ [] = rw (all, none) at d.walked in
    record {
      long = l;
      octets = rw all at d.octets;
      bits = sym (walked ∙ append-nil (bits_of after));
      reached = rw all at d.reached;
    }
