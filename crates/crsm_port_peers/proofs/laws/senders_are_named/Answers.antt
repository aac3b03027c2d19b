use Rattle.std.proofs.Common.{◌≡◌, ℕ, Some, ap, ◌∙◌}
use Rattle.crsm_base.specs.declared.datagram.Datagram.{Datagram}
use Rattle.crsm_base.specs.declared.datagram.Datagram.TheVariants as datagram
use Rattle.crsm_base.specs.Messages.{datagram_bytes}
use Rattle.crsm_port_peers.specs.Laws.{sender_of}
use Rattle.crsm_wire.specs.Marks.{named_sender}
use Rattle.crsm_port_peers.proofs.laws.senders_are_named.Goals as goal

of_spelling : (d : Datagram) (k : ℕ) → sender_of d ≡ Some k → named_sender (datagram_bytes d) ≡ Some k
unfolding datagram_bytes
of_spelling (datagram.Frame from to epoch seq payload) k is = is
of_spelling (datagram.Ack from to epoch next) k is = is
of_spelling (datagram.Part from to boot number index count bytes) k is = is
of_spelling (datagram.Request command) k is = absurd (cc)
of_spelling (datagram.Reply client number outcome) k is = absurd (cc)
of_spelling (datagram.Operate members) k is = absurd (cc)

pub returns : goal.returns
returns c = λ bytes d k are read is.
    let spelt = (c.what_is_read_is_spelt.ensures.datagrams bytes d are).0 read in
    ap named_sender spelt.is ∙ of_spelling d k is
