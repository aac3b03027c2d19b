use Rattle.std.proofs.Common.{◌∙◌, ap}
use Rattle.crsm_base.specs.MessageReading.{datagram_of, control_of}
use Rattle.crsm_base.proofs.ControlLaws.{control_of-bytes, control_of-spelt}
use Rattle.crsm_base.proofs.DatagramLaws.{datagram_of-bytes, datagram_of-spelt}
use Rattle.crsm_wire.proofs.laws.what_is_read_is_spelt.Goals as goal

pub returns-clause-datagrams : goal.returns-clause-datagrams
returns-clause-datagrams c = λ bytes x ok. (datagram_of-spelt bytes x ok, λ s. ap datagram_of s.is ∙ datagram_of-bytes x s.fits)

pub returns-clause-controls : goal.returns-clause-controls
returns-clause-controls c = λ bytes x ok. (control_of-spelt bytes x ok, λ s. ap control_of s.is ∙ control_of-bytes x s.fits)
