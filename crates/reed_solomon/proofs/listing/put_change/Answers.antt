-- `put_change` leaves the list where the octet is as it was, and otherwise writes its entry.
use mathlib.Core.Path.{◌≡◌, refl, ◌∙◌}
use Prim.Native.Nat.{◌/◌, ◌%◌}
use native.Mathlib.Omega.{arith}
use Rattle.reed_solomon.proofs.ChangeLists.{change_put}
use Rattle.reed_solomon.proofs.listing.put_change.Goals as goal

pub returns : goal.returns
returns c =
    let high : c.args.at / 256 % 256 ≡ c.args.at / 256 = omega arith in
    change_put c.args.at c.args.old c.args.new c.args.entries c.args.list.now c.if-old-new.false (omega arith) c.copy_from_slice.new.self (c.copy_from_slice.ensures.after ∙ rw (c.to_be_bytes.ensures, high) refl)
