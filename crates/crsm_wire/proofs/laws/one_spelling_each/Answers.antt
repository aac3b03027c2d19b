use Rattle.std.proofs.Common.{◌∙◌, ap}
use Rattle.crsm_base.specs.MessageReading.{datagram_of}
use Rattle.crsm_base.proofs.Parsers.{one_spelling}
use Rattle.crsm_base.proofs.ControlLaws.{control_parses}
use Rattle.crsm_base.proofs.DatagramLaws.{datagram_of-bytes}
use Rattle.crsm_wire.proofs.Same.{same_datagram}
use Rattle.crsm_wire.proofs.laws.one_spelling_each.Goals as goal

pub returns-clause-control : goal.returns-clause-control
returns-clause-control c = λ a b s t x y sa tb e. one_spelling control_parses a b s t x y sa tb e

pub returns-clause-datagram : goal.returns-clause-datagram
returns-clause-datagram c = λ a b s sa sb. same_datagram s a b (ap datagram_of sa.is ∙ datagram_of-bytes a sa.fits) sb.fits sb.is
