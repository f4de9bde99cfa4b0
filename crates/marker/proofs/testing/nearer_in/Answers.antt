-- `nearer_in` names the form of its four octets: put together they are the 32 bits from place 0 on.
use Rattle.std.proofs.Common.{◌≡◌, arith}
use Rattle.marker.specs.Working.{word}
use Rattle.marker.proofs.Forms.{named_at}
use Rattle.marker.proofs.Word.{four_octets, word-wrong}
use Rattle.marker.proofs.testing.nearer_in.Goals as goal

pub returns : goal.returns
returns c =
    let octets = c.args.octets.now in
    let window : c.from_be_bytes.result ≡ word 32 octets 0 = omega (arith, c.from_be_bytes.ensures, four_octets octets (λ i. (c.type_inv.octets i).fits)) in
    named_at octets 0 (rw window (word-wrong octets 0)) c.nearer_form.ensures
