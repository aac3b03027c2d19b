-- What becomes of a datagram that came up.
use Rattle.std.specs.Prelude.{◌≡◌, ◌⊎◌, ◌++◌, ◌≤◌, ℕ, List, [], ◌∷◌, Some, false, Contains}
use Rattle.crsm_port_flow.specs.Again.{IsAgain, NotesWent}
use Rattle.crsm_port_flow.specs.Early.{IsEarlyIn, IsPastIn, Waits, WaitsAs}
use Rattle.crsm_port_flow.specs.Heads.{HasHead, IsOperate, IsRequest}
use Rattle.crsm_port_flow.specs.Followed.{IsFollowed, NoneLost}
use Rattle.crsm_port_flow.specs.Kept.{Is}
use Rattle.crsm_port_flow.specs.Turns.{IsCommandIn, IsUnderWay}
use Rattle.crsm_port_flow.specs.declared.clients.Clients.{Clients}
use Rattle.crsm_port_flow.specs.declared.clients.Operate.{Operate}
use Rattle.crsm_port_flow.specs.declared.commands.Command.{Command}
use Rattle.crsm_port_flow.specs.declared.datagram.Datagram.{Datagram}
use Rattle.crsm_port_flow.specs.declared.hearing.Peer.{Peer}
use Rattle.crsm_port_flow.specs.declared.inbound.Inbound.{Inbound}
use Rattle.crsm_port_flow.specs.declared.peers.FromPeers.{FromPeers}
use Rattle.crsm_port_flow.specs.declared.requests.Waiting.{Waiting}

-- ---- of a peer

-- all that was ready is, in the same order and before what was not
abbrev pub StaysReady : List Datagram → List Datagram → Type 0
StaysReady old new = (behind : List Datagram) × (new ≡ old ++ behind)

-- it is ready, behind all that was
abbrev pub IsMadeReady : ℕ → List ℕ → List Datagram → List Datagram → Type 0
IsMadeReady from bytes old new = (d : Datagram) × (behind : List Datagram) × Is from bytes d × (new ≡ old ++ d ∷ behind)

-- it is a frame before which another is missing, and waits
abbrev pub IsHeld : ℕ → List ℕ → FromPeers → FromPeers → Type 0
IsHeld from bytes old new =
    (sender to epoch number : ℕ) × (d : Datagram) × HasHead 1 sender to epoch number bytes × IsEarlyIn sender epoch number old.early.links.items × Is from bytes d × WaitsAs sender number d new.early.frames.items

-- it is a frame that waits already
abbrev pub IsHeldAlready : List ℕ → FromPeers → Type 0
IsHeldAlready bytes old = (sender to epoch number : ℕ) × HasHead 1 sender to epoch number bytes × Waits sender number old.early.frames.items

-- it is a frame that the replica has acknowledged, and another such frame of its sender went up less than 40 milliseconds ago
abbrev pub StaysBack : List ℕ → ℕ → FromPeers → Type 0
StaysBack bytes now old = (sender to epoch number : ℕ) × HasHead 1 sender to epoch number bytes × IsAgain sender epoch number now old.again

-- a frame that is past is ready, or stays back
abbrev pub GoesAgain : ℕ → List ℕ → ℕ → FromPeers → FromPeers → Type 0
GoesAgain from bytes now old new = IsMadeReady from bytes old.ready.items new.ready.items ⊎ (StaysBack bytes now old × (new ≡ old))

-- what needs no order, and the next frame in order, is ready; a frame before which another is missing waits; one that comes again may stay back
abbrev pub IsTaken : ℕ → List ℕ → ℕ → FromPeers → FromPeers → Type 0
IsTaken from bytes now old new =
    IsMadeReady from bytes old.ready.items new.ready.items ⊎ (IsHeld from bytes old new ⊎ ((IsHeldAlready bytes old ⊎ StaysBack bytes now old) × (new ≡ old)))

-- a frame that was acknowledged is noted where it is ready, and nothing else changes of what is known of such frames
abbrev pub NotesAgain : ℕ → List ℕ → ℕ → FromPeers → FromPeers → Type 0
NotesAgain from bytes now old new =
    (new.again ≡ old.again)
    ⊎ ((sender to epoch number : ℕ) × HasHead 1 sender to epoch number bytes × NotesWent sender epoch number now old.again new.again × IsMadeReady from bytes old.ready.items new.ready.items)

-- where a later frame of its link is expected, it does stay back
abbrev pub NoneAgain : List ℕ → ℕ → FromPeers → FromPeers → Type 0
NoneAgain bytes now old new = (sender to epoch number : ℕ) → HasHead 1 sender to epoch number bytes → IsPastIn sender epoch number old.early.links.items → IsAgain sender epoch number now old.again → new ≡ old

-- it is taken, the frames that waited for it are ready behind it, and nothing that was kept of peers is lost
abbrev pub JoinsPeers : ℕ → List ℕ → ℕ → FromPeers → FromPeers → Type 0
JoinsPeers from bytes now old new =
    IsTaken from bytes now old new × IsFollowed from bytes old new × StaysReady old.ready.items new.ready.items × NoneLost old new × NoneAgain bytes now old new × NotesAgain from bytes now old new

-- ---- of one who is no peer

-- it is the last of the requests that wait
abbrev pub IsMadeWait : ℕ → List ℕ → ℕ → Clients → Clients → Type 0
IsMadeWait from bytes now old new = (r : Waiting) × IsRequest bytes × IsCommandIn r.command bytes × Is from bytes r.datagram × (r.since ≡ now) × (new.requests.waiting.items ≡ old.requests.waiting.items ++ r ∷ [])

-- it is a repeat of a request that waits or has no reply
abbrev pub IsRepeat : List ℕ → ℕ → Clients → Type 0
IsRepeat bytes now old = (command : Command) × IsRequest bytes × IsCommandIn command bytes × IsUnderWay command now old.requests.waiting.items old.requests.unanswered.entries

-- it is the latest request for a membership change, and was not handed up
abbrev pub IsLatest : ℕ → List ℕ → ℕ → Clients → Type 0
IsLatest from bytes now new = (o : Operate) × IsOperate bytes × Is from bytes o.datagram × (o.at ≡ now) × (o.has_gone ≡ false) × (new.operate ≡ Some o)

-- it waits, is a repeat, or is the latest request for a membership change; nothing else changes of what waits
abbrev pub IsAsked : ℕ → List ℕ → ℕ → Clients → Clients → Type 0
IsAsked from bytes now old new =
    (IsMadeWait from bytes now old new × (new.operate ≡ old.operate))
    ⊎ ((IsRepeat bytes now old × (new ≡ old)) ⊎ (IsLatest from bytes now new × (new.requests ≡ old.requests)))

-- ---- of anybody

-- one of the peers has this address
abbrev pub IsPeer : ℕ → List Peer → Type 0
IsPeer from peers = (p : Peer) × Contains peers p × (p.address ≡ from)

abbrev pub IsStranger : ℕ → List Peer → Type 0
IsStranger from peers = IsPeer from peers → ⊥

-- it says whom a peer hears
abbrev pub IsSaid : List ℕ → Type 0
IsSaid bytes = (high low : ℕ) × (rest : List ℕ) × (bytes ≡ 18 ∷ high ∷ low ∷ rest)

-- it comes from a peer that has said three times that it does not hear this node
abbrev pub IsOfDeaf : ℕ → List Peer → Type 0
IsOfDeaf from peers = (p : Peer) × Contains peers p × (p.address ≡ from) × (3 ≤ p.deaf)

-- a datagram of a peer is taken, and that of another if it asks for something; what a peer says of hearing is not handed up, nor is what comes from one that does not hear this node
abbrev pub Comes : ℕ → List ℕ → ℕ → List Peer → Inbound → Inbound → Type 0
Comes from bytes now peers old new =
    (IsPeer from peers × JoinsPeers from bytes now old.peers new.peers × (new.clients ≡ old.clients))
    ⊎ ((IsStranger from peers × IsAsked from bytes now old.clients new.clients × (new.peers ≡ old.peers))
    ⊎ ((new ≡ old) × (IsSaid bytes ⊎ IsOfDeaf from peers)))
