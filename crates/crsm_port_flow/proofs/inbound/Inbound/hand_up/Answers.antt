use Rattle.crsm_port_flow.proofs.Keepings.{asked_next, first_next, some_not_none}
use Rattle.crsm_port_flow.proofs.Reading.{none_same}
use Rattle.crsm_port_flow.proofs.inbound.Inbound.hand_up.Goals as goal

pub returns-in-Nothing-clause-goes : goal.returns-in-Nothing-clause-goes
returns-in-Nothing-clause-goes c =
    let mid = c.next_asked.new.self in
    let waiting = c.next_asked.ensures.waiting in
    first_next c.args.self.now mid c.hand_up_of_peer.new.self c.args.buf.now c.hand_up_of_peer.new.buf c.next_asked.ensures.peers.0 waiting c.next_asked.ensures.operate c.hand_up_of_peer.result c.hand_up_of_peer.ensures.clients
    c.hand_up_of_peer.ensures.first

pub returns-in-Nothing-clause-same : goal.returns-in-Nothing-clause-same
returns-in-Nothing-clause-same c = λ none.
    let (was, is, early) = c.hand_up_of_peer.ensures.none none in
    none_same c.args.self.now c.next_asked.new.self c.hand_up_of_peer.new.self c.next_asked.ensures.peers.0 c.next_asked.ensures.waiting c.next_asked.ensures.operate c.hand_up_of_peer.ensures.clients was is early

pub returns-in_default : goal.returns-in_default
returns-in_default c =
    let mid = c.next_asked.new.self in
    let waiting = c.next_asked.ensures.waiting in
    record {
      goes = asked_next c.args.self.now mid c.hand_up_asked.new.self c.args.buf.now c.hand_up_asked.new.buf c.next_asked.ensures.peers.0 waiting c.next_asked.ensures.operate c.hand_up_asked.result (c.next_asked.ensures.turn c.in_default.not-Nothing)
          c.hand_up_asked.ensures.peers c.hand_up_asked.ensures.goes;
      none = λ none. absurd (some_not_none c.hand_up_asked.result c.hand_up_asked.ensures.some none);
      nothing = λ none. absurd (some_not_none c.hand_up_asked.result c.hand_up_asked.ensures.some none);
      same = λ none. absurd (some_not_none c.hand_up_asked.result c.hand_up_asked.ensures.some none);
    }
