-- `put_changes`: before octet `at` the changes of the octets before it are listed.
use native.Mathlib.Omega.{arith}
use Rattle.reed_solomon.proofs.ChangeLists.{listed_start}
use Rattle.reed_solomon.proofs.listing.put_changes.Goals as goal

pub loop-at-init : goal.loop-at-init
loop-at-init c = (omega arith, listed_start _ _ _)
