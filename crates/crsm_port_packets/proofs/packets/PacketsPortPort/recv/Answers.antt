use Rattle.std.proofs.Common.{◌∙◌, ℕ, List, ap, length, subst}
use Rattle.crsm_port.specs.Sent.{packets_of}
use Rattle.crsm_port_packets.specs.Asking.{AsksUntil, Taker, taker_of}
use Rattle.crsm_port_packets.specs.Peers.{addresses_of}
use Rattle.crsm_port_packets.specs.declared.packets.PacketsPort.{PacketsPort}
use Rattle.crsm_port_packets.specs.declared.received.Received.{Received}
use Rattle.crsm_port_packets.proofs.Greetings.{same_addresses}
use Rattle.crsm_port_packets.proofs.Passings.{handed_up}
use Rattle.crsm_port_packets.proofs.packets.PacketsPortPort.recv.Goals as goal

pub returns-clause-hands_up : goal.returns-clause-hands_up
returns-clause-hands_up g c =
    let old = c.args.self.now in
    let mid = c.let_go.new.self in
    let new = c.next-got.new.self in
    rw c.count.ensures.same (
    handed_up (g.P.Port.gives old.port) (g.P.Port.gives mid.port) (g.P.Port.gives new.port) (g.P.Port.may_send old.port) (g.P.Port.may_send mid.port) (g.P.Port.may_send new.port) old.received mid.received new.received
    (packets_of old.waiting) (packets_of mid.waiting) (packets_of new.waiting) c.next-got.new.buf c.next-got.result c.let_go.ensures.gives c.let_go.ensures.received
    c.next-got.ensures.given c.next-got.ensures.rest c.let_go.ensures.sends c.next-got.ensures.sends (ap packets_of c.next-got.ensures.waiting)
    )

pub returns-clause-goes : goal.returns-clause-goes
returns-clause-goes g c =
    let M = g.P.Port.meaning in
    let old = c.args.self.now in
    let mid = c.let_go.new.self in
    let new = c.next-got.new.self in
    let size = length c.args.buf.now in
    let start : Taker = record { below = M mid.port; held = old.received } in
    let held = subst (λ (r : Received). AsksUntil (addresses_of mid.peers.items) mid.now size c.next-got.new.buf (record { below = M mid.port; held = r }) (taker_of (M new.port) new) c.next-got.result) c.let_go.ensures.received c.next-got.ensures.asks in
    let timed = subst (λ (at : ℕ). AsksUntil (addresses_of mid.peers.items) at size c.next-got.new.buf start (taker_of (M new.port) new) c.next-got.result) (ap (λ (x : PacketsPort g.row.P.Denot g.row.C.Denot). x.now) c.let_go.ensures.same) held in
    let asks = subst (λ (places : List ℕ). AsksUntil places old.now size c.next-got.new.buf start (taker_of (M new.port) new) c.next-got.result) (same_addresses old.peers.items mid.peers.items c.let_go.ensures.peers) timed in
    rw c.count.ensures.same (M mid.port, c.let_go.ensures.goes, asks)

pub returns-clause-addresses : goal.returns-clause-addresses
returns-clause-addresses g c =
    rw c.count.ensures.same (c.next-got.ensures.addresses ∙ same_addresses c.args.self.now.peers.items c.let_go.new.self.peers.items c.let_go.ensures.peers)
