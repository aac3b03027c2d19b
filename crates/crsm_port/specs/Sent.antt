-- The list of sent datagrams, for contracts.
use Rattle.std.specs.Prelude.{List}
use Rattle.crsm_port.specs.Meaning.{Packet}
use Rattle.crsm_port.specs.Packets.{packets}
use Rattle.crsm_port.specs.declared.sent_packets.SentPackets.{SentPackets}

abbrev pub packets_of : SentPackets → List Packet
packets_of p = packets p.labels.items p.bytes.items
