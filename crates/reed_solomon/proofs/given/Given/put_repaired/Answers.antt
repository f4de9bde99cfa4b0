-- `put_repaired`: before symbol k the first k symbols stand in their places.
use mathlib.Core.Path.{ap}
use Prim.Native.Nat.{ℕ}
use native.Mathlib.Omega.{arith}
use lib.Bits.{bit_xor}
use lib.ListN.{get_or}
use lib.Seq.{get_or-take}
use Rattle.reed_solomon.proofs.WordRepairs.{short}
use Rattle.reed_solomon.proofs.Gathering.{put_turn}
use Rattle.reed_solomon.proofs.given.Given.put_repaired.Goals as goal

pub loop-k-preserved : goal.loop-k-preserved
loop-k-preserved c =
    put_turn c.args.self.now.depth c.args.w c.args.self.now.block.now c.args.errors.now c.args.frame.now c.requires.0 c.loop-k.k c.octet_of-at.result _ c.loop-k.frame
    c.loop-k.invariant c.octet_of-at.ensures.0 (omega (arith, c.loop-k.auto.frame, c.requires.2, c.octet_of-at.ensures.1, short c.args.self.now)) (ap (λ (error : ℕ). bit_xor (get_or c.args.self.now.block.now c.octet_of-at.result 0) error) (get_or-take c.args.n c.args.errors.now c.loop-k.k 0 (omega arith)))
