-- What is kept and stays as it was.
use Rattle.std.specs.Prelude.{◌≡◌}
use Rattle.crsm_port_flow.specs.Taken.{StaysReady}
use Rattle.crsm_port_flow.specs.declared.clients.Clients.{Clients}
use Rattle.crsm_port_flow.specs.declared.inbound.Inbound.{Inbound}
use Rattle.crsm_port_flow.specs.declared.peers.FromPeers.{FromPeers}

-- what is kept of peers
abbrev pub SamePeers : FromPeers → FromPeers → Type 0
SamePeers old new = (new.ready.items ≡ old.ready.items) × (new.early.frames.items ≡ old.early.frames.items) × (new.early.links.items ≡ old.early.links.items)

-- what others ask for, and which commands have no reply
abbrev pub SameClients : Clients → Clients → Type 0
SameClients old new = (new.requests ≡ old.requests) × (new.operate ≡ old.operate)

-- what waits to go up
abbrev pub SameKept : Inbound → Inbound → Type 0
SameKept old new = SamePeers old.peers new.peers × (new.clients.requests.waiting.items ≡ old.clients.requests.waiting.items) × (new.clients.operate ≡ old.clients.operate)

-- what waits to go up, where a datagram is sent: what the replica acknowledges makes frames ready that follow
abbrev pub StaysWhenSent : Inbound → Inbound → Type 0
StaysWhenSent old new =
    StaysReady old.peers.ready.items new.peers.ready.items × (new.clients.requests.waiting.items ≡ old.clients.requests.waiting.items) × (new.clients.operate ≡ old.clients.operate)
