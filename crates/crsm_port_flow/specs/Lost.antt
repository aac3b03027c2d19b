-- What a port may drop of what comes up.
use Rattle.std.specs.Prelude.{◌≡◌, ◌⊎◌, ◌<◌, ◌≤◌, ℕ, List, length}
use Rattle.crsm_port_flow.specs.Early.{HasOther, IsEarlyIn}
use Rattle.crsm_port_flow.specs.Heads.{AsksNothing, HasHead}
use Rattle.crsm_port_flow.specs.Losses.{CountsLoss}
use Rattle.crsm_port_flow.specs.Rooms.{IsFull, IsShortOf}
use Rattle.crsm_port_flow.specs.Same.{SameClients, SamePeers}
use Rattle.crsm_port_flow.specs.Taken.{Comes, IsPeer, IsStranger}
use Rattle.crsm_port_flow.specs.declared.clients.Clients.{Clients}
use Rattle.crsm_port_flow.specs.declared.datagram.Loss.TheVariants as loss
use Rattle.crsm_port_flow.specs.declared.datagram.Losses.{Losses}
use Rattle.crsm_port_flow.specs.declared.hearing.Peer.{Peer}
use Rattle.crsm_port_flow.specs.declared.inbound.Inbound.{Inbound}
use Rattle.crsm_port_flow.specs.declared.peers.FromPeers.{FromPeers}

-- ---- of a peer

-- it is a frame before which another is missing, and another frame has its place, or it is longer than any frame of a replica
abbrev pub CannotWait : List ℕ → FromPeers → Type 0
CannotWait bytes p =
    (sender to epoch number : ℕ) × HasHead 1 sender to epoch number bytes × IsEarlyIn sender epoch number p.early.links.items × (HasOther sender number p.early.frames.items ⊎ (1_232 < length bytes))

-- it is no frame before which another is missing: it is no frame, or one that is expected, or of no link that is known
abbrev pub WaitsForNone : List ℕ → FromPeers → Type 0
WaitsForNone bytes p = (sender to epoch number : ℕ) → HasHead 1 sender to epoch number bytes → IsEarlyIn sender epoch number p.early.links.items → ⊥

-- ---- of one who is no peer

-- 1,280 requests wait, or what others ask for would have more than 4,194,304 bytes with this
abbrev pub HasNoRoomOfClients : List ℕ → Clients → Type 0
HasNoRoomOfClients bytes c = (1_280 ≤ length c.requests.waiting.items) ⊎ IsFull 1_282 4_194_304 (length bytes) c.room

-- ---- all

-- a datagram of a peer is dropped where it is a frame that cannot wait, and one of another where it asks for nothing, or where there is no room
abbrev pub MayDrop : ℕ → List ℕ → List Peer → Inbound → Type 0
MayDrop from bytes peers i = (IsPeer from peers × CannotWait bytes i.peers) ⊎ (IsStranger from peers × (AsksNothing bytes ⊎ HasNoRoomOfClients bytes i.clients))

-- there may be no memory for it: of a peer's, where none at hand is long enough
abbrev pub MayLackMemory : ℕ → List ℕ → List Peer → Inbound → Type 0
MayLackMemory from bytes peers i = IsPeer from peers → IsShortOf (length bytes) i.peers.buffers

-- it may be dropped and is counted as such, or there may be no memory for it and it is counted as that
abbrev pub IsLost : ℕ → List ℕ → List Peer → Inbound → (lost lost_now : Losses) → Type 0
IsLost from bytes peers i lost lost_now =
    (MayDrop from bytes peers i × CountsLoss loss.Dropped lost lost_now) ⊎ (MayLackMemory from bytes peers i × CountsLoss loss.NoMemory lost lost_now)

-- it comes, or it is lost, and it alone
abbrev pub TakesIn : ℕ → List ℕ → ℕ → List Peer → (i j : Inbound) → (lost lost_now : Losses) → Type 0
TakesIn from bytes now peers i j lost lost_now = (Comes from bytes now peers i j × (lost_now ≡ lost)) ⊎ (SamePeers i.peers j.peers × SameClients i.clients j.clients × IsLost from bytes peers i lost lost_now)

-- what comes from a peer and waits for no other frame comes, whatever is kept, or there is no memory for it
abbrev pub ComesUnlessEarly : ℕ → List ℕ → ℕ → List Peer → (i j : Inbound) → (lost lost_now : Losses) → Type 0
ComesUnlessEarly from bytes now peers i j lost lost_now =
    IsPeer from peers → WaitsForNone bytes i.peers → Comes from bytes now peers i j ⊎ (IsShortOf (length bytes) i.peers.buffers × CountsLoss loss.NoMemory lost lost_now)
