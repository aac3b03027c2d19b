-- A port that was just made.
use Rattle.std.specs.Prelude.{◌≡◌, ℕ, List}
use Rattle.crsm_port_peers.specs.declared.peer.PeerPort.{PeerPort}

-- over this port, where replica `k` has the address at `k`
pub record IsNew {P : Type 0} (inner : P) (peers : List ℕ) (p : PeerPort P) : Type 0 where
  pub over : p.inner ≡ inner
  pub knows : p.peers.items ≡ peers
