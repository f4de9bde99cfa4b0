-- `behind_zeros` copies the row; the zeros before it are there from the start.
use Rattle.words.proofs.Copies.{copy_behind}
use Rattle.words.proofs.register.behind_zeros.Goals as goal

pub returns : goal.returns
returns c = copy_behind _ _ c.copy_from_slice.ensures.after c.told-taps
