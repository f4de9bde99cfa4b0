-- The block in a marked block: randomised twice it is as it was, and the marker in front of it is the true one, with no wrong bits.
use Rattle.refusals.specs.Numbers.{Verdict}
use mathlib.Core.Path.{◌≡◌, refl, sym, ◌∙◌, subst}
use mathlib.Core.Bool.{Bool, true, false}
use mathlib.Core.Logic.{inr}
use mathlib.Core.List.{List, ◌++◌}
use Prim.Native.Nat.{ℕ, zero, suc, ◌+◌, ◌/◌, ◌≤◌, ◌<◌}
use native.Mathlib.Omega.{arith}
use lib.ListN.{length, take}
use lib.Seq.{get_or-take}
use Rattle.refusals.specs.Order.{FirstOf}
use Rattle.refusals.specs.Calls.{randomise_order}
use Rattle.refusals.specs.Numbers.{verdict_number}
use Rattle.refusals.proofs.Orders.{first_unique}
use Rattle.octets.specs.Bits.{bit_at}
use Rattle.marker.specs.declared.Form.{Form}
use Rattle.marker.specs.declared.Form.TheVariants.{True, Complement}
use Rattle.marker.specs.Place.{marker, wrong_among, wrong_bits, form_at, fewest_wrong}
use Rattle.marker.proofs.Forms.{nearer-true}
use Rattle.codewords.specs.Words.{Octets}
use Rattle.codewords.proofs.WordValues.{changed-octets}
use Rattle.randomiser.specs.Sequence.{sequence_octet, randomised}
use Rattle.randomiser.specs.Outcome.{RandomiseOutcome}
use Rattle.randomiser.proofs.Registers.{octet_small}
use Rattle.randomiser.proofs.Theorems.{added-changed, added_twice, added-length}
use Rattle.chain.specs.Outcome.{randomised_if, inverted_if, opened_if, block_in}
use Rattle.chain.proofs.Inversion.{inverted_if-length}

-- ---- randomised if asked

within : (block : List ℕ) → length block ≤ 2040 → FirstOf (randomise_order (length block)) 0
within block h = inr ((λ over. omega arith), refl)

-- A block within the limit is not refused.
pub randomise_accepts : (block : List ℕ) (v : Verdict) (after : List ℕ) → length block ≤ 2040 → RandomiseOutcome block v after → after ≡ randomised block
randomise_accepts block v after h O = O.accepted (first_unique (randomise_order (length block)) (verdict_number v) 0 O.number (within block h))

pub flag-set : (flag : Bool) (block : List ℕ) → flag ≡ true → randomised block ≡ randomised_if flag block
flag-set true block e = refl
flag-set false block e = let z : ◌≡◌ {A = ℕ} 0 1 = cc in absurd (omega arith)

pub flag_unset : (flag : Bool) (block : List ℕ) → flag ≡ false → block ≡ randomised_if flag block
flag_unset false block e = refl
flag_unset true block e = let z : ◌≡◌ {A = ℕ} 0 1 = cc in absurd (omega arith)

pub randomised-length : (flag : Bool) (block : List ℕ) → length (randomised_if flag block) ≡ length block
randomised-length true block = added-length 0 block
randomised-length false block = refl

pub randomised-octets : (flag : Bool) (block : List ℕ) → Octets block → Octets (randomised_if flag block)
randomised-octets true block o = subst Octets (sym (added-changed 0 block)) (changed-octets sequence_octet octet_small 0 block o)
randomised-octets false block o = o

pub opened-length : (turned flag : Bool) (block : List ℕ) → length (opened_if turned flag block) ≡ length block
opened-length turned flag block = randomised-length flag (inverted_if turned block) ∙ inverted_if-length turned block

-- Done twice with one flag, it gives the block back.
pub randomised-twice : (flag : Bool) (block : List ℕ) → randomised_if flag (randomised_if flag block) ≡ block
randomised-twice true block = added_twice 0 block
randomised-twice false block = refl

-- ---- the marker in front

-- The wrong bits at the front are those of the first four octets, in either form.
pub wrong_in_front : (form : Form) (list : List ℕ) → wrong_bits form (take 4 list) 0 ≡ wrong_bits form list 0
unfolding wrong_among
wrong_in_front form list = among 32 (omega arith)
  where
    bit : (n : ℕ) → n < 32 → bit_at (take 4 list) (0 + n) ≡ bit_at list (0 + n)
    bit n h = rw (get_or-take 4 list ((0 + n) / 8) 0 (omega arith))

    among : (n : ℕ) → n ≤ 32 → wrong_among form n (take 4 list) 0 ≡ wrong_among form n list 0
    among zero h = refl
    among (suc n) h = rw (among n (omega arith), bit n (omega arith))

marker_itself : wrong_bits True marker 0 ≡ 0
unfolding wrong_among
marker_itself = refl

marker_right : (block : List ℕ) → wrong_bits True (marker ++ block) 0 ≡ 0
marker_right block = sym (wrong_in_front True (marker ++ block)) ∙ marker_itself

-- The form in front, and its wrong bits, are those of the first four octets.
pub form_in_front : (list : List ℕ) → (form_at (take 4 list) 0 ≡ form_at list 0) × (fewest_wrong (take 4 list) 0 ≡ fewest_wrong list 0)
form_in_front list = rw (wrong_in_front True list, wrong_in_front Complement list) (refl, refl)

pub marker-true : (block : List ℕ) → (form_at (marker ++ block) 0 ≡ True) × (fewest_wrong (marker ++ block) 0 ≡ 0)
marker-true block =
    let near = nearer-true (wrong_bits True (marker ++ block) 0) (wrong_bits Complement (marker ++ block) 0) (omega (arith, marker_right block)) in
    (near.0, near.1 ∙ marker_right block)

pub opened-sent : (flag : Bool) (block : List ℕ) → block_in flag (marker ++ randomised_if flag block) ≡ block
opened-sent flag block = rw (marker-true (randomised_if flag block)).0 (randomised-twice flag block)
