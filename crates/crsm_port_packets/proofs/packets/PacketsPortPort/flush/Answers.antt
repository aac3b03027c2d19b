use Rattle.std.proofs.Common.{◌≡◌, ◌∙◌, ℕ, List, ap, refl, subst, sym}
use Rattle.crsm_port.specs.Meaning.{Meaning, SendsAll}
use Rattle.crsm_port.specs.Sent.{packets_of}
use Rattle.crsm_port_packets.specs.Carrying.{carried}
use Rattle.crsm_port_packets.specs.Given.{AllGreet}
use Rattle.crsm_port_packets.specs.Peers.{addresses_of}
use Rattle.crsm_port_packets.specs.Sent.{sent_with}
use Rattle.crsm_port_packets.specs.declared.peer.Peer.{Peer}
use Rattle.crsm_port_packets.proofs.Greetings.{same_addresses}
use Rattle.crsm_port_packets.proofs.Passings.{carries_less, no_more_than, sends_less, unpacks_less}
use Rattle.crsm_port_packets.proofs.packets.PacketsPortPort.flush.Goals as goal

pub returns-clause-rests : goal.returns-clause-rests
returns-clause-rests g c =
    let old = c.args.self.now in
    let mid = c.let_go.new.self in
    let P = g.P.Port.may_send mid.port in
    let Q = g.P.Port.may_send c.greet_each.new.port in
    let R = g.P.Port.may_send c.flush.new.self in
    let waiting = packets_of mid.waiting in
    record {
      no_more_given = unpacks_less (g.P.Port.gives old.port) (g.P.Port.gives c.flush.new.self) old.received mid.received
          (λ a d h. c.let_go.ensures.gives a d (c.greet_each.ensures.gives a d (c.flush.ensures.rests.no_more_given a d h))) c.let_go.ensures.received;
      no_more_sent = no_more_than (sent_with (g.P.Port.may_send old.port) (packets_of old.waiting)) (sent_with P waiting) (sent_with R waiting) c.let_go.ensures.sends
          (sends_less P R waiting waiting refl (no_more_than (carried P) (carried Q) (carried R) c.greet_each.ensures.sends (carries_less Q R c.flush.ensures.rests.no_more_sent)));
    }

pub returns-clause-goes : goal.returns-clause-goes
returns-clause-goes g c =
    let old = c.args.self.now in
    let mid = c.let_go.new.self in
    let (greetings, greet, sent) = c.greet_each.ensures.goes in
    let same : addresses_of c.as_mut_slice.result.now ≡ addresses_of old.peers.items =
    ap (λ (ps : List Peer). addresses_of ps) c.as_mut_slice.ensures.value ∙ same_addresses old.peers.items mid.peers.items c.let_go.ensures.peers in
    record {
      between = g.P.Port.meaning mid.port;
      goes = c.let_go.ensures.goes;
      greetings = greetings;
      greet = subst (λ (places : List ℕ). AllGreet places greetings) same greet;
      given = subst (λ (m : Meaning). SendsAll greetings (g.P.Port.meaning mid.port) m) (sym c.flush.ensures.same) sent;
    }
