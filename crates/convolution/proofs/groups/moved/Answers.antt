-- `moved` meets its contract, which says the same.
use mathlib.Core.Path.{refl}
use Rattle.convolution.specs.GroupWorking.{moved_up}
use Rattle.convolution.proofs.groups.moved.Goals as goal

pub returns : goal.returns
unfolding moved_up
returns c = refl
