-- What document 01 says of the sequence and of the randomiser, of any outcome that the contracts permit.
use mathlib.Core.Path.{◌≡◌, refl, sym, ap, ap₂, ◌∙◌}
use mathlib.Core.Bool.{Bool, cond}
use mathlib.Core.Logic.{◌≢◌, ◌↔◌}
use mathlib.Core.List.{List, [], ◌∷◌}
use Prim.Native.Nat.{ℕ, zero, suc, ◌+◌, ◌%◌, ◌<◌}
use native.Mathlib.Numerals.{add-one}
use native.Mathlib.Nat.{zero-add}
use borrow.Author.Tests.{eq-eqb}
use lib.Dec.{eqb}
use lib.Bits.{bit_xor}
use lib.ListN.{length, get_or}
use Rattle.refusals.specs.Numbers.{Verdict, verdict_number}
use Rattle.field.proofs.Below.{equal_below}
use Rattle.field.proofs.Sum.{⊕_is}
use Rattle.field.proofs.Changes.{changed_from, changed-length, changed-at, changed-twice, changed_alike}
use Rattle.randomiser.specs.Sequence.{bit_after, bit_of, bit_from, number_from, eight_on, sequence_octet, added_from, randomised}
use Rattle.randomiser.specs.Outcome.{NextOutcome, RandomiseOutcome}
use Rattle.randomiser.proofs.Registers.{goes_on, sequence_goes_on, sequence_starts}

-- The rule, as the document prints it: bit n+8 is the sum modulo 2 of bits n, n+3, n+5 and n+7.
pub rule : (register n : ℕ)
    → bit_from register (n + 8) ≡ (bit_from register (n + 0) + bit_from register (n + 3) + bit_from register (n + 5) + bit_from register (n + 7)) % 2
unfolding bit_from bit_after
rule register n =
    goes_on (bit_of register 0) (bit_of register 1) (bit_of register 2) (bit_of register 3) (bit_of register 4) (bit_of register 5) (bit_of register 6) (bit_of register 7) n 8

-- A register after n calls.
unfoldable pub after : ℕ → ℕ → ℕ
after zero register = register
after (suc n) register = eight_on (after n register)

-- From FF, call n gives octet n of the sequence; from zero, zeros.
pub register_gives_sequence : (n octet left : ℕ) → NextOutcome (after n 0xFF) octet left → octet ≡ sequence_octet n
unfolding after
register_gives_sequence n octet left o = o.given ∙ held n
  where
    held : (n : ℕ) → after n 0xFF ≡ sequence_octet n
    held zero = sequence_starts
    held (suc n) = ap eight_on (held n) ∙ sym (sequence_goes_on n) ∙ ap sequence_octet (add-one n)

pub zero_gives_zeros : (n octet left : ℕ) → NextOutcome (after n 0) octet left → (octet ≡ 0) × (left ≡ 0)
unfolding after eight_on number_from bit_from bit_after
zero_gives_zeros n octet left o = (o.given ∙ held n, o.left ∙ ap eight_on (held n) ∙ stays)
  where
    stays : eight_on 0 ≡ 0
    stays = refl

    held : (n : ℕ) → after n 0 ≡ 0
    held zero = refl
    held (suc n) = ap eight_on (held n) ∙ stays

-- A register that holds a one is never left as it was, by a test over all contents.
abbrev held_still : ℕ → ℕ
held_still register = cond (eqb (eight_on register) register) register 0

pub register_moves_on : (before octet left : ℕ) → before < 256 → before ≢ 0 → NextOutcome before octet left → left ≢ before
unfolding eight_on number_from bit_from bit_after
register_moves_on before octet left small nonzero o still =
    nonzero
    (sym (ap (λ (t : Bool). cond t before 0) (eq-eqb (eight_on before) before (sym o.left ∙ still)))
    ∙ equal_below held_still (λ _. 0) 256 tt before small)

-- The sequence is added to a block as any numbers are.
pub added-changed : (n : ℕ) (block : List ℕ) → added_from n block ≡ changed_from sequence_octet n block
unfolding added_from changed_from
added-changed n [] = refl
added-changed n (octet ∷ block) = ap₂ {C = List ℕ} (λ (x : ℕ) (rest : List ℕ). x ∷ rest) (sym (⊕_is octet (sequence_octet n))) (added-changed (suc n) block)

-- Randomised twice, a block is as it was.
pub added_twice : (n : ℕ) (block : List ℕ) → added_from n (added_from n block) ≡ block
added_twice n block = added-changed n (added_from n block) ∙ ap (changed_from sequence_octet n) (added-changed n block) ∙ changed-twice sequence_octet n block

pub twice_gives_back : (block once twice : List ℕ) (v w : Verdict) → RandomiseOutcome block v once → RandomiseOutcome once w twice
    → verdict_number v ≡ 0 → verdict_number w ≡ 0 → twice ≡ block
twice_gives_back block once twice v w o p a b = p.accepted b ∙ ap randomised (o.accepted a) ∙ added_twice 0 block

pub added-length : (n : ℕ) (block : List ℕ) → length (added_from n block) ≡ length block
added-length n block = ap length (added-changed n block) ∙ changed-length sequence_octet n block

-- Two blocks differ where they differed.
pub added_alike : (n : ℕ) (a b : List ℕ) → length a ≡ length b → (m : ℕ) → (get_or a m 0 ≡ get_or b m 0) ↔ (get_or (added_from n a) m 0 ≡ get_or (added_from n b) m 0)
added_alike n a b h m = rw (added-changed n a, added-changed n b) (changed_alike sequence_octet n a b h m)

-- The sequence starts anew at each block: whatever went before, octet n of the block has octet n of the sequence added, counted from the block's own beginning, and the block is
-- as long as it was. So of two blocks randomised one after the other the second is randomised as if it were the first.
pub starts_anew : (block after : List ℕ) (v : Verdict) → RandomiseOutcome block v after → verdict_number v ≡ 0
    → (length after ≡ length block) × ((n : ℕ) → n < length block → get_or after n 0 ≡ bit_xor (get_or block n 0) (sequence_octet n))
starts_anew block after v o a = (
  ap length (o.accepted a) ∙ added-length 0 block,
  λ n h. ap (λ (l : List ℕ). get_or l n 0) (o.accepted a ∙ added-changed 0 block) ∙ changed-at sequence_octet 0 block n h ∙ ⊕_is (get_or block n 0) (sequence_octet (0 + n))
      ∙ ap (λ (k : ℕ). bit_xor (get_or block n 0) (sequence_octet k)) (zero-add n),
)
