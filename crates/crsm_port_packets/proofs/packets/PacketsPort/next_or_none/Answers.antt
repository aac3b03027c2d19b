use Rattle.std.proofs.Common.{◌≡◌, ℕ, arith, length, refl, subst, sym}
use Rattle.crsm_port_packets.specs.Asking.{Asks, taker_of}
use Rattle.crsm_port_packets.specs.Held.{unpacked}
use Rattle.crsm_port_packets.specs.Peers.{addresses_of}
use Rattle.crsm_port_packets.specs.Receiving.{NoneLeft}
use Rattle.crsm_port_packets.specs.declared.received.Received.{Received}
use Rattle.crsm_port_packets.proofs.Askings.{bundle_asks}
use Rattle.crsm_port_packets.proofs.Openings.{is_next, ok_may_be_of, waits_less}
use Rattle.crsm_port_packets.proofs.Passings.{no_more_than}
use Rattle.crsm_port_packets.proofs.packets.PacketsPort.next_or_none.Goals as goal

pub returns-in-Some-clause-given : goal.returns-in-Some-clause-given
returns-in-Some-clause-given g c = is_next (g.P.Port.gives c.args.self.now.port) c.args.self.now.received c.next.new.buf c.in-Some.got c.in-Some.ensures.waited

pub returns-in-Some-clause-rest : goal.returns-in-Some-clause-rest
returns-in-Some-clause-rest g c =
    let P = g.P.Port.gives c.args.self.now.port in
    waits_less P P c.args.self.now.received c.next.new.self (λ a d is. is) c.next.ensures.rest c.next.ensures.same

pub returns-in-None-clause-given : goal.returns-in-None-clause-given
returns-in-None-clause-given g c =
    let P = g.P.Port.gives c.args.self.now.port in
    let old = c.args.self.now.received in
    ok_may_be_of (unpacked P old) (unpacked P c.next.new.self) c.take_packet.new.buf c.take_packet.result (waits_less P P old c.next.new.self (λ a d is. is) c.next.ensures.rest c.next.ensures.same) c.take_packet.ensures.given

pub returns-in-None-clause-rest : goal.returns-in-None-clause-rest
returns-in-None-clause-rest g c =
    let P = g.P.Port.gives c.args.self.now.port in
    let old = c.args.self.now.received in
    let new = c.take_packet.new.self in
    no_more_than (unpacked P old) (unpacked P c.next.new.self) (unpacked (g.P.Port.gives new.port) new.received)
    (waits_less P P old c.next.new.self (λ a d is. is) c.next.ensures.rest c.next.ensures.same) c.take_packet.ensures.rest

pub returns-in-Some-clause-asks : goal.returns-in-Some-clause-asks
returns-in-Some-clause-asks g c =
    let p = c.args.self.now in
    let m = g.P.Port.meaning p.port in
    bundle_asks (addresses_of p.peers.items) p.now (length c.args.buf.now) c.next.new.buf (record { below = m; held = p.received }) (record { below = m; held = c.next.new.self }) c.in-Some.got refl c.in-Some.ensures.some c.in-Some.ensures.next

pub take_packet-requires : goal.take_packet-requires
take_packet-requires g c =
    let (none, same) = c.in-None.ensures.none refl in
    subst (λ (r : Received). NoneLeft r.unpacking) (sym same) none

pub returns-in-None-clause-asks : goal.returns-in-None-clause-asks
returns-in-None-clause-asks g c =
    let p = c.args.self.now in
    let n = c.take_packet.new.self in
    let M = g.P.Port.meaning in
    let (none, same) = c.in-None.ensures.none refl in
    let size : length c.next.new.buf ≡ length c.args.buf.now = omega arith in
    let asks = subst (λ (k : ℕ). Asks (addresses_of p.peers.items) p.now k c.take_packet.new.buf (record { below = M p.port; held = c.next.new.self }) (taker_of (M n.port) n) c.take_packet.result) size c.take_packet.ensures.asks in
    subst (λ (r : Received). Asks (addresses_of p.peers.items) p.now (length c.args.buf.now) c.take_packet.new.buf (record { below = M p.port; held = r }) (taker_of (M n.port) n) c.take_packet.result) same asks
