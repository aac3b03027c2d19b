use Rattle.std.proofs.Common.{List, ℕ, take, refl, sym, subst}
use Rattle.crsm_port_peers.specs.Senders.{SpeaksForItself}
use Rattle.crsm_port_peers.proofs.Handing.{never, nothing, whole}
use Rattle.crsm_port_peers.proofs.peer.PeerPortPort.recv.Goals as goal

pub returns-in-Datagram-clause-first : goal.returns-in-Datagram-clause-first
returns-in-Datagram-clause-first g c =
    nothing c.args.self.now.peers.items c.args.buf.now c.recv.new.buf c.in-Datagram.from c.in-Datagram.len (g.P.Port.meaning c.args.self.now.inner) (g.P.Port.meaning c.recv.new.self)
    (rw c.in-Datagram.is at c.in_ok-got.ensures.receives)
    (λ own. never (c.if-not-speaks_for_itself.ensures.1
    (subst (λ (peers : List ℕ). SpeaksForItself peers c.in-Datagram.from (take c.in-Datagram.len c.recv.new.buf)) (sym c.deref.ensures.value) own)))

pub returns-in_default-clause-first : goal.returns-in_default-clause-first
returns-in_default-clause-first g c =
    whole c.args.self.now.peers.items c.args.buf.now c.recv.new.buf c.in-Datagram.from c.in-Datagram.len (g.P.Port.meaning c.args.self.now.inner) (g.P.Port.meaning c.recv.new.self)
    (rw c.in-Datagram.is at c.in_ok-got.ensures.receives)
    (subst (λ (peers : List ℕ). SpeaksForItself peers c.in-Datagram.from (take c.in-Datagram.len c.recv.new.buf)) c.deref.ensures.value
    (c.if-not-speaks_for_itself.ensures.0 refl))
