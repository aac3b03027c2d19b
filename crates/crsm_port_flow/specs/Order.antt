-- What goes up next.
use Rattle.std.specs.Prelude.{◌≡◌, ◌⊎◌, ◌≤◌, ℕ, List, [], ◌∷◌, length, Option, Some, None, true, false}
use Rattle.crsm_port.specs.declared.port.Recv.{Recv}
use Rattle.crsm_port_flow.specs.Kept.{GoesUp, packet_of}
use Rattle.crsm_port_flow.specs.Turns.{IsOldestYoung, TakesFirst}
use Rattle.crsm_port_flow.specs.Went.{IsRecent}
use Rattle.crsm_port_flow.specs.Windows.{IsBehind}
use Rattle.crsm_port_flow.specs.declared.clients.Clients.{Clients}
use Rattle.crsm_port_flow.specs.declared.clients.Operate.{Operate}
use Rattle.crsm_port_flow.specs.declared.datagram.Datagram.{Datagram}
use Rattle.crsm_port_flow.specs.declared.inbound.Inbound.{Inbound}
use Rattle.crsm_port_flow.specs.declared.peers.FromPeers.{FromPeers}
use Rattle.crsm_port_flow.specs.declared.requests.Requests.{Requests}
use Rattle.crsm_port_flow.specs.declared.window.Window.{Window}

-- the first datagram of a peer that is ready goes up
abbrev pub FirstGoes : FromPeers → FromPeers → List ℕ → List ℕ → Recv → Type 0
FirstGoes old new before after got = (d : Datagram) × (old.ready.items ≡ d ∷ new.ready.items) × (new.early ≡ old.early) × GoesUp (packet_of d) before after got

-- the oldest request goes up
abbrev pub OldestGoes : Clients → Clients → List ℕ → List ℕ → Recv → Type 0
OldestGoes old new before after got = (d : Datagram) × TakesFirst d old.requests.waiting.items new.requests.waiting.items × (new.operate ≡ old.operate) × GoesUp (packet_of d) before after got

-- the latest request for a membership change goes up; it goes twice at most
abbrev pub LatestGoes : Clients → Clients → List ℕ → List ℕ → Recv → Type 0
LatestGoes old new before after got =
    (o : Operate) × (old.operate ≡ Some o) × (new.requests.waiting.items ≡ old.requests.waiting.items) × GoesUp (packet_of o.datagram) before after got
    × ((new.operate ≡ None) ⊎ ((o.has_gone ≡ false) × (new.operate ≡ Some (record o { has_gone = true }))))

-- those who are no peers have their turn: three datagrams of peers went up since theirs, or none is ready
abbrev pub IsTheirTurn : Inbound → Type 0
IsTheirTurn i = (3 ≤ i.since_client) ⊎ (i.peers.ready.items ≡ [])

-- the next datagram goes up
abbrev pub NextGoes : Inbound → Inbound → List ℕ → List ℕ → Recv → Type 0
NextGoes old new before after got =
    (FirstGoes old.peers new.peers before after got × (new.clients.requests.waiting.items ≡ old.clients.requests.waiting.items) × (new.clients.operate ≡ old.clients.operate))
    ⊎ (IsTheirTurn old × (new.peers ≡ old.peers) × (OldestGoes old.clients new.clients before after got ⊎ LatestGoes old.clients new.clients before after got))

-- the node has no room: 64 commands of it have no reply, and the first of them came less than a second ago
abbrev pub HasNoRoom : ℕ → Requests → Type 0
HasNoRoom now r = (64 ≤ length r.unanswered.entries) × IsOldestYoung now r.opened.items r.unanswered.entries

-- no request goes up: none waits, or the node has no room
abbrev pub NoneGoes : ℕ → Clients → Type 0
NoneGoes now c = (c.requests.waiting.items ≡ []) ⊎ HasNoRoom now c.requests

-- a request for a membership change is not due: it went up less than a second after it came
abbrev pub IsNotDue : ℕ → Option Operate → Type 0
IsNotDue now operate = (o : Operate) → operate ≡ Some o → (o.has_gone ≡ true) × IsRecent o.at now 1_000_000

-- nothing goes up: no datagram of a peer is ready, no request for a membership change is due, and no request waits, or the node has no room, or a peer is behind
abbrev pub NothingGoes : ℕ → Inbound → Window → Type 0
NothingGoes now i w = (i.peers.ready.items ≡ []) × IsNotDue now i.clients.operate × (NoneGoes now i.clients ⊎ IsBehind now w)
