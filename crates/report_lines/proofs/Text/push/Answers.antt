-- `push`: the octets after the text are pasted over.
use mathlib.Core.Path.{refl}
use native.Mathlib.Omega.{arith}
use lib.ListN.{length}
use Rattle.std.proofs.lemmas.Slice.{put_mid-paste}
use Rattle.report_lines.proofs.Growth.{grown}
use Rattle.report_lines.proofs.Text.push.Goals as goal

pub returns : goal.returns
returns c =
    grown c.args.self.now c.args.more.now _ c.requires
    (put_mid-paste c.args.self.now.len _ c.args.self.now.octets _ c.args.more.now (length c.args.more.now) c.copy_from_slice.ensures.after (omega arith) refl)
