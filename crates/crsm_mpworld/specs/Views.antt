-- Views of packets.
use Rattle.std.specs.Prelude.{Some}
use Rattle.crsm_mpworld.specs.declared.sent.PacketView.{PacketView}
use Rattle.crsm_mpworld.specs.Sent.{PacketInMemory}

-- the packet of which this is a view
abbrev pub viewed : PacketView → PacketInMemory
viewed v = record { to = v.to; is_used = v.is_used; message = Some (record { from = v.from; input = v.input.now }) }
