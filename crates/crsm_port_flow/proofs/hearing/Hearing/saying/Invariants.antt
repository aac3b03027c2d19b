use Rattle.std.proofs.Common.{◌≡◌, ◌<◌, ◌≤◌, ℕ, Some}
use Rattle.std.specs.Int.{bit_at}
use Rattle.std.specs.Prelude.{◌↔◌, slice_get}
use Rattle.crsm_port_flow.specs.Hears.{IsHeard}
use Rattle.crsm_port_flow.specs.declared.hearing.Peer.{Peer}
use Rattle.crsm_port_flow.proofs.hearing.Hearing.saying.Given as goal

abbrev pub invariant-loop-replica : goal.invariant-loop-replica
invariant-loop-replica l = record {
  heard : (k : ℕ) (p : Peer) → k < 16 → k < l.replica → slice_get l.self.peers.items k ≡ Some p → (bit_at l.mask k ≡ 1) ↔ IsHeard l.now p;
  fits : l.mask < 65_536;
  above : (k : ℕ) → l.replica ≤ k → bit_at l.mask k ≡ 0;
}
