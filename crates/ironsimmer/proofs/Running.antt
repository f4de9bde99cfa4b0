-- The coder's state, from one call to the next in what C lends.
use mathlib.Core.Path.{◌≡◌, refl}
use Rattle.convolution.specs.declared.State.{State}
use Rattle.ironsimmer.specs.Exported.{coder_of, coder_octets}

-- The octets that a call leaves are to the next call the state that the coder handed back.
pub coder_carried : (state : State) → coder_of (coder_octets state) ≡ state
coder_carried state = refl
