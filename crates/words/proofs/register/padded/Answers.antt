-- `padded` copies the terms; the zeros behind them are there from the start.
use Rattle.words.proofs.Copies.{padded_copy}
use Rattle.words.proofs.register.padded.Goals as goal

pub returns : goal.returns
returns c = padded_copy _ _ c.copy_from_slice.ensures.after c.requires
