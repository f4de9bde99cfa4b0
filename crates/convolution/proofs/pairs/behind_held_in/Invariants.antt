-- `behind_held_in` meets its contract. The loop's invariant: the call has gone so far.
use Rattle.convolution.proofs.Turning.{Going}
use Rattle.convolution.proofs.pairs.behind_held_in.Given as goal

abbrev pub invariant-loop-octet : goal.invariant-loop-octet
invariant-loop-octet l =
    Going 1 l.octets l.initial.symbols l.initial.flow l.symbols (record { flow = l.flow; read = l.octet-index; written = l.written })
