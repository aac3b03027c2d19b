use Rattle.std.proofs.Common.{◌≡◌, ◌++◌, ℕ, List}
use Rattle.crsm_port.specs.Passing.{NoMore}
use Rattle.crsm_port_flow.specs.Early.{AreFrames, Expects, KeepsSome, frames_in}
use Rattle.crsm_port_flow.specs.Followed.{NoneLost}
use Rattle.crsm_port_flow.specs.Kept.{of_peers}
use Rattle.crsm_port_flow.specs.Taken.{StaysReady}
use Rattle.crsm_port_flow.specs.declared.datagram.Datagram.{Datagram}
use Rattle.crsm_port_flow.proofs.peers.FromPeers.follow.Given as goal

abbrev pub invariant-loop-datagram : goal.invariant-loop-datagram
invariant-loop-datagram l = record {
  follow : (epoch number : ℕ) → Expects l.sender epoch number l.initial.self.early.links.items
      → (behind : List Datagram) × (last : ℕ) × (l.self.ready.items ≡ l.initial.self.ready.items ++ behind) × AreFrames l.sender number behind last l.initial.self.early.frames.items × Expects l.sender epoch last l.self.early.links.items;
  less : KeepsSome l.initial.self.early.frames.items l.self.early.frames.items;
  none_lost : NoneLost l.initial.self l.self;
  stays : StaysReady l.initial.self.ready.items l.self.ready.items;
  only : NoMore (of_peers l.initial.self) (of_peers l.self);
  again : l.self.again ≡ l.initial.self.again;
}

abbrev pub decreases-loop-datagram : goal.decreases-loop-datagram
decreases-loop-datagram l = frames_in l.self.early.frames.items
