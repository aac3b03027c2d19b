-- The traffic of the port, by that of the port below.
use Rattle.crsm_port.specs.Passing.{Datagrams}
use Rattle.crsm_port_peers.specs.Senders.{own_of}
use Rattle.crsm_port_peers.specs.declared.peer.PeerPort.{PeerPort}

-- the datagrams that a receive may hand up
abbrev pub given_over : {P : Type 0} → (P → Datagrams) → PeerPort P → Datagrams
given_over gives p = own_of p.peers.items (gives p.inner)

-- those that were sent or may still be
abbrev pub sent_over : {P : Type 0} → (P → Datagrams) → PeerPort P → Datagrams
sent_over may_send p = may_send p.inner
