use Rattle.std.proofs.Common.{◌≡◌, ◌∙◌, List, ℕ, take, ap, inl, inr, refl, subst}
use Rattle.std.specs.Prelude.{IfSome}
use Rattle.crsm_port.specs.Passing.{IsOf, Only}
use Rattle.crsm_port_packets.specs.Held.{unpacked}
use Rattle.crsm_port_packets.specs.Peers.{addresses_of}
use Rattle.crsm_port_packets.specs.Receiving.{IsOpenedOf}
use Rattle.crsm_port_packets.proofs.Greetings.{peer_of}
use Rattle.crsm_port_packets.proofs.Openings.{may_be_whole}
use Rattle.crsm_port_packets.proofs.packets.PacketsPort.open.Goals as goal

pub returns-clause-given : goal.returns-clause-given
returns-clause-given g c =
    let old = c.args.self.now.received in
    let packet : c.front-packet.result.now ≡ take c.args.len c.args.self.now.room.items = c.front-packet.ensures ∙ ap (take c.args.len) c.as_slice.ensures.value in
    subst (λ (p : List ℕ). IfSome c.take.result (IsOf (unpacked (Only c.args.from p) old) c.take.new.buf)) packet
    (may_be_whole c.args.from c.front-packet.result.now old c.take.new.buf c.take.result c.take.ensures.whole)

pub returns-clause-opened : goal.returns-clause-opened
returns-clause-opened g c = λ none.
    let old = c.args.self.now in
    let packet : c.front-packet.result.now ≡ take c.args.len old.room.items = c.front-packet.ensures ∙ ap (take c.args.len) c.as_slice.ensures.value in
    subst (λ (p : List ℕ). IsOpenedOf (addresses_of old.peers.items) c.args.from old.now p old.received c.take.new.self) packet (inl (c.note_heard.ensures.peer c.if-not-note_heard.false, c.take.ensures.opened none))

pub returns-then-not-note_heard-clause-opened : goal.returns-then-not-note_heard-clause-opened
returns-then-not-note_heard-clause-opened g c = λ _. inr ((λ has. c.note_heard.ensures.stranger c.if-not-note_heard.true (peer_of c.args.self.now.peers.items c.args.from has)), refl)
