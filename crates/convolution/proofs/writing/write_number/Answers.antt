-- `write_number` meets its contract: what is copied in are the last octets of the number.
use mathlib.Core.Path.{◌≡◌, ap, ◌∙◌}
use mathlib.Core.List.{List, ◌++◌}
use Prim.Native.Nat.{ℕ, ◌+◌, ◌-◌, ◌≤◌}
use native.Mathlib.Omega.{arith}
use borrow.Author.Rules.{rules}
use lib.ListN.{length, take, drop, length-drop}
use Rattle.std.specs.Int.{bytes_high_first}
use Rattle.std.proofs.lemmas.Slice.{take-put_mid, between_to_end}
use Rattle.convolution.specs.Coder.{bits_of}
use Rattle.convolution.proofs.Bits.{bits-append}
use Rattle.convolution.proofs.Stream.{last_octets}
use Rattle.convolution.proofs.writing.write_number.Goals as goal

pub returns : goal.returns
returns c =
    let new = c.copy_from_slice.new.self in
    let at = c.args.at in
    let before = c.args.symbols.now in
    let n = c.args.n in
    let bytes = bytes_high_first 8 c.args.number in
    let eight : length c.to_be_bytes.result ≤ 8 = rw c.to_be_bytes.ensures (omega arith) in
    let last : new ≡ drop (8 - n) bytes =
    c.copy_from_slice.ensures.after ∙ between_to_end c.to_be_bytes.result (8 - n) 8 eight ∙ ap (drop (8 - n)) c.to_be_bytes.ensures in
    let long : length new ≡ n = ap length last ∙ length-drop (8 - n) bytes ∙ omega arith in
    record {
      long = search rules;
      same =
          ap bits_of (take-put_mid at (at + n - at) before new (at + n) (omega arith) (omega arith))
          ∙ bits-append (take at before) new
          ∙ ap (λ (l : List ℕ). bits_of (take at before) ++ l) (ap bits_of last ∙ last_octets n c.args.number (omega arith));
    }
