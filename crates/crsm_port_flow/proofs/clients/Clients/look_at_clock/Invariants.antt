use Rattle.std.proofs.Common.{◌≡◌, length}
use Rattle.crsm_port_flow.specs.Turns.{DropsOver}
use Rattle.crsm_port_flow.proofs.clients.Clients.look_at_clock.Given as goal

abbrev pub invariant-loop-datagram : goal.invariant-loop-datagram
invariant-loop-datagram l = record {
  dropped : DropsOver l.now l.initial.self.requests.waiting.items l.self.requests.waiting.items;
  operate : l.self.operate ≡ l.initial.self.operate;
}

abbrev pub decreases-loop-datagram : goal.decreases-loop-datagram
decreases-loop-datagram l = length l.self.requests.waiting.items
