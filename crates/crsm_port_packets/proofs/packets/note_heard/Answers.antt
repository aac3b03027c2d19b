use Rattle.std.proofs.Common.{ap}
use Rattle.crsm_port_packets.specs.declared.peer.Peer.{Peer}
use Rattle.crsm_port_packets.proofs.Greetings.{set_address}
use Rattle.crsm_port_packets.proofs.packets.note_heard.Goals as goal

pub returns-clause-addresses : goal.returns-clause-addresses
returns-clause-addresses c =
    set_address c.args.peers.now.items c.in-Some.place c.in-Some-get_mut.peer.now c.note_heard.new.self c.in-Some-get_mut.ensures.value (ap (λ (p : Peer). p.address) c.note_heard.ensures)
