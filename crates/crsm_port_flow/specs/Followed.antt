-- Frames that waited for another one and become ready behind it.
use Rattle.std.specs.Prelude.{◌≡◌, ◌⊎◌, ◌++◌, ◌<◌, ◌≤◌, ℕ, List, ◌∷◌, Contains, Some, slice_get}
use Rattle.crsm_port_flow.specs.Again.{Acknowledges}
use Rattle.crsm_port_flow.specs.Early.{AreFrames, Expects, Waits, after, least_kept}
use Rattle.crsm_port_flow.specs.Heads.{HasHead}
use Rattle.crsm_port_flow.specs.Kept.{Is}
use Rattle.crsm_port_flow.specs.declared.datagram.Datagram.{Datagram}
use Rattle.crsm_port_flow.specs.declared.early.Frame.{Frame}
use Rattle.crsm_port_flow.specs.declared.early.Link.{Link}
use Rattle.crsm_port_flow.specs.declared.peers.FromPeers.{FromPeers}

-- of this sender the frames from this number on up to another were taken from those that wait, and that one does not wait
abbrev pub IsUpTo : (sender epoch number : ℕ) → List Datagram → FromPeers → FromPeers → Type 0
IsUpTo sender epoch number behind old new = (last : ℕ) × AreFrames sender number behind last old.early.frames.items × Expects sender epoch last new.early.links.items × (Waits sender last new.early.frames.items → ⊥)

-- the frames of a sender that wait are ready, from the one that is expected on, as far as none is missing
abbrev pub Follow : ℕ → FromPeers → FromPeers → Type 0
Follow sender old new = (epoch number : ℕ) → Expects sender epoch number old.early.links.items → (behind : List Datagram) × (new.ready.items ≡ old.ready.items ++ behind) × IsUpTo sender epoch number behind old new

-- the expected frame of a sender is ready, and behind it the frames that waited for it, as far as none is missing
abbrev pub IsFollowedFrom : (sender epoch number from : ℕ) → List ℕ → FromPeers → FromPeers → Type 0
IsFollowedFrom sender epoch number from bytes old new =
    Expects sender epoch number old.early.links.items
    → (d : Datagram) × (behind : List Datagram) × Is from bytes d × (new.ready.items ≡ old.ready.items ++ d ∷ behind) × IsUpTo sender epoch (after number) behind old new

-- where the bytes are the frame that is expected of their sender, it is ready, and behind it those that waited for it
abbrev pub IsFollowed : ℕ → List ℕ → FromPeers → FromPeers → Type 0
IsFollowed from bytes old new = (sender to epoch number : ℕ) → HasHead 1 sender to epoch number bytes → IsFollowedFrom sender epoch number from bytes old new

-- a frame of this sender is past, where this number is expected next of it in an epoch
abbrev pub IsPast : (sender epoch next : ℕ) → List Link → Frame → Type 0
IsPast sender epoch next links f = (link : Link) × (slice_get links sender ≡ Some link) × (f.from ≡ sender) × (f.number < least_kept epoch next link)

-- each frame that waited waits still, or is ready, or is past
abbrev pub LosesPast : (sender epoch next : ℕ) → FromPeers → FromPeers → Type 0
LosesPast sender epoch next old new =
    (f : Frame) → Contains old.early.frames.items (Some f) → (Contains new.early.frames.items (Some f) ⊎ Contains new.ready.items f.datagram) ⊎ IsPast sender epoch next old.early.links.items f

-- this number or a later one is expected next of a sender in this epoch, if the sender has a link, and that frame does not wait
abbrev pub IsExpectedOf : (sender epoch next : ℕ) → FromPeers → FromPeers → Type 0
IsExpectedOf sender epoch next old new =
    (link : Link) → slice_get old.early.links.items sender ≡ Some link → (last : ℕ) × (next ≤ last) × Expects sender epoch last new.early.links.items × (Waits sender last new.early.frames.items → ⊥)

-- it is noted that the replica acknowledges the frames of a sender before this number
abbrev pub IsNotedOf : (sender epoch next : ℕ) → FromPeers → FromPeers → Type 0
IsNotedOf sender epoch next old new = Acknowledges sender epoch next old.again.said.items new.again.said.items × (new.again.went_at ≡ old.again.went_at)

-- what is sent is an acknowledgement, of which frames are past, and is noted as such; or nothing changes of what is kept of peers
abbrev pub GoesBy : List ℕ → FromPeers → FromPeers → Type 0
GoesBy bytes old new =
    ((from to epoch number : ℕ) × HasHead 2 from to epoch number bytes × LosesPast to epoch number old new × IsExpectedOf to epoch number old new × IsNotedOf to epoch number old new)
    ⊎ (((from to epoch number : ℕ) → HasHead 2 from to epoch number bytes → ⊥) × (new ≡ old))

-- each frame that waited waits still, or is ready
abbrev pub NoneLost : FromPeers → FromPeers → Type 0
NoneLost old new = (f : Frame) → Contains old.early.frames.items (Some f) → Contains new.early.frames.items (Some f) ⊎ Contains new.ready.items f.datagram
