-- `put_behind` copies the row, and leaves what stands before it.
use Rattle.words.proofs.Copies.{behind_copied}
use Rattle.words.proofs.register.put_behind.Goals as goal

pub returns : goal.returns
returns c = behind_copied _ _ _ c.told-kept c.told-row c.copy_from_slice.ensures.after
