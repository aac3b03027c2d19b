use Rattle.std.proofs.Common.{◌∙◌, Ok, ap, length, subst, sym, take}
use Rattle.std.specs.Prelude.{IfSome}
use Rattle.crsm_port.specs.Passing.{IsOf, NoMore, Only}
use Rattle.crsm_port.specs.Meaning.{Meaning}
use Rattle.crsm_port_packets.specs.Held.{unpacked}
use Rattle.crsm_port_packets.specs.Asking.{Asks, taker_of}
use Rattle.crsm_port_packets.specs.Peers.{addresses_of}
use Rattle.crsm_port_packets.specs.Receiving.{NoneLeft}
use Rattle.crsm_port_packets.specs.declared.packets.PacketsPort.{PacketsPort}
use Rattle.crsm_port_packets.specs.declared.received.Received.{Received}
use Rattle.crsm_port_packets.proofs.Askings.{fails_so, packet_asks}
use Rattle.crsm_port_packets.proofs.Openings.{may_be_of, opened, unpacked_from}
use Rattle.crsm_port_packets.proofs.Passings.{unpacks_less}
use Rattle.crsm_port_packets.proofs.packets.PacketsPort.take_packet.Goals as goal

pub returns-in_err-recv_below-clause-rest : goal.returns-in_err-recv_below-clause-rest
returns-in_err-recv_below-clause-rest g c =
    unpacks_less (g.P.Port.gives c.args.self.now.port) (g.P.Port.gives c.recv_below.new.self.port) c.args.self.now.received c.recv_below.new.self.received c.recv_below.ensures.rest c.recv_below.ensures.received

pub returns-in-Nothing-clause-rest : goal.returns-in-Nothing-clause-rest
returns-in-Nothing-clause-rest g c =
    unpacks_less (g.P.Port.gives c.args.self.now.port) (g.P.Port.gives c.recv_below.new.self.port) c.args.self.now.received c.recv_below.new.self.received c.recv_below.ensures.rest c.recv_below.ensures.received

pub returns-in-Datagram-clause-given : goal.returns-in-Datagram-clause-given
returns-in-Datagram-clause-given g c =
    let P = g.P.Port.gives c.args.self.now.port in
    let mid = c.recv_below.new.self in
    let from = c.in-Datagram.from in
    let packet = take c.in-Datagram.len mid.room.items in
    let came : P from packet = rw c.in-Datagram.is at c.in_ok-recv_below.ensures.given in
    subst (λ (r : Received). IfSome c.open.result (IsOf (unpacked P r) c.open.new.buf)) c.recv_below.ensures.received
    (may_be_of (unpacked P mid.received) (unpacked (Only from packet) mid.received) c.open.new.buf c.open.result (unpacked_from P from packet mid.received came) c.open.ensures.given)

pub returns-in-Datagram-clause-rest : goal.returns-in-Datagram-clause-rest
returns-in-Datagram-clause-rest g c =
    let P = g.P.Port.gives c.args.self.now.port in
    let mid = c.recv_below.new.self in
    let new = c.open.new.self in
    let Q = g.P.Port.gives new.port in
    let from = c.in-Datagram.from in
    let packet = take c.in-Datagram.len mid.room.items in
    let came : P from packet = rw c.in-Datagram.is at c.in_ok-recv_below.ensures.given in
    let more : NoMore P (g.P.Port.gives c.open.new.self.port) = rw c.open.ensures.port c.recv_below.ensures.rest in
    subst (λ (r : Received). NoMore (unpacked P r) (unpacked Q new.received)) c.recv_below.ensures.received (opened P Q mid.received new.received more from packet came c.open.ensures.opens)

pub returns-in-Datagram-clause-asks : goal.returns-in-Datagram-clause-asks
returns-in-Datagram-clause-asks g c =
    let M = g.P.Port.meaning in
    let old = c.args.self.now in
    let mid = c.recv_below.new.self in
    let new = c.open.new.self in
    let size = length c.args.buf.now in
    let came = rw c.in-Datagram.is at c.in_ok-recv_below.ensures.receives in
    let none = subst (λ (r : Received). NoneLeft r.unpacking) (sym c.recv_below.ensures.received) c.requires in
    let asks = packet_asks (addresses_of mid.peers.items) mid.now size c.open.new.buf (record { below = M old.port; held = mid.received }) (record { below = M mid.port; held = new.received }) old.room.items mid.room.items c.in-Datagram.from c.in-Datagram.len
    c.open.result none came c.open.ensures.packed c.open.ensures.opened c.open.ensures.some c.open.ensures.goes in
    let below = subst (λ (m : Meaning). Asks (addresses_of mid.peers.items) mid.now size c.open.new.buf (record { below = M old.port; held = mid.received }) (record { below = m; held = new.received }) (Ok c.open.result)) (sym (ap M c.open.ensures.port)) asks in
    let held = subst (λ (r : Received). Asks (addresses_of mid.peers.items) mid.now size c.open.new.buf (record { below = M old.port; held = r }) (taker_of (M new.port) new) (Ok c.open.result)) c.recv_below.ensures.received below in
    subst (λ (x : PacketsPort g.row.P.Denot g.row.C.Denot). Asks (addresses_of x.peers.items) x.now size c.open.new.buf (taker_of (M old.port) old) (taker_of (M new.port) new) (Ok c.open.result)) c.recv_below.ensures.same held

pub returns-in-Nothing-clause-asks : goal.returns-in-Nothing-clause-asks
returns-in-Nothing-clause-asks g c = (c.requires, (c.args.self.now.room.items, c.recv_below.new.self.room.items, rw c.in-Nothing.is at c.in_ok-recv_below.ensures.receives))

pub returns-in_err-recv_below-clause-asks : goal.returns-in_err-recv_below-clause-asks
returns-in_err-recv_below-clause-asks g c =
    let M = g.P.Port.meaning in
    let old = c.args.self.now in
    let mid = c.recv_below.new.self in
    fails_so (addresses_of old.peers.items) old.now (length c.args.buf.now) c.args.buf.now (taker_of (M old.port) old) (taker_of (M mid.port) mid) c.in_err-recv_below.field-0.0 c.from_residual.result c.from_residual.ensures.1
    (c.requires, (old.room.items, mid.room.items, c.in_err-recv_below.ensures.receives))

pub returns-in-Datagram-clause-addresses : goal.returns-in-Datagram-clause-addresses
returns-in-Datagram-clause-addresses g c = c.open.ensures.addresses ∙ ap (λ (x : PacketsPort g.row.P.Denot g.row.C.Denot). addresses_of x.peers.items) c.recv_below.ensures.same
