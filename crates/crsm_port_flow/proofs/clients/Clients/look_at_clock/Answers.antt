use Rattle.crsm_port_flow.proofs.Turns.{drops_more}
use Rattle.crsm_port_flow.proofs.clients.Clients.look_at_clock.Goals as goal

pub loop-datagram-preserved : goal.loop-datagram-preserved
loop-datagram-preserved c =
    let first = c.in-Some.ensures.first in
    record {
      dropped =
          drops_more c.args.now c.args.self.now.requests.waiting.items c.loop-datagram.self.requests.waiting.items c.take_expired.new.self.waiting.items first.0 c.loop-datagram.invariant.dropped first.1 first.3;
      operate = c.loop-datagram.invariant.operate;
    }
