-- Frames that wait for an earlier one of their link.
use Rattle.std.specs.List.{sum_by}
use Rattle.std.specs.Prelude.{◌≡◌, ◌⊎◌, ◌+◌, ◌-◌, ◌*◌, ◌%◌, ◌^◌, ◌<◌, ◌≤◌, ◌==◌, if◌then◌else◌, ℕ, List, [], ◌∷◌, Contains, Option, Some, None, min, slice_get, slice_index_or, slice_set}
use Rattle.crsm_port_flow.specs.declared.datagram.Datagram.{Datagram}
use Rattle.crsm_port_flow.specs.declared.early.Frame.{Frame}
use Rattle.crsm_port_flow.specs.declared.early.Link.{Link}

-- a frame of this epoch and number comes after the one that the link expects
abbrev pub IsAfterExpected : ℕ → ℕ → Link → Type 0
IsAfterExpected epoch number link = (link.epoch ≡ epoch) × (link.next < number)

-- an earlier frame of its link has not come
abbrev pub IsEarlyIn : ℕ → ℕ → ℕ → List Link → Type 0
IsEarlyIn from epoch number links = (link : Link) × (slice_get links from ≡ Some link) × IsAfterExpected epoch number link

-- a frame of this epoch and number comes before the one that the link expects
abbrev pub IsBeforeExpected : ℕ → ℕ → Link → Type 0
IsBeforeExpected epoch number link = (link.epoch ≡ epoch) × (number < link.next)

-- a later frame of its link is expected
abbrev pub IsPastIn : ℕ → ℕ → ℕ → List Link → Type 0
IsPastIn from epoch number links = (link : Link) × (slice_get links from ≡ Some link) × IsBeforeExpected epoch number link

-- the place of a frame, by its sender and number: each of 15 senders has 1,024
abbrev pub place_of : ℕ → ℕ → ℕ
place_of from number = from % 15 * 1_024 + number % 1_024

-- what is kept at the place of this sender and number
abbrev pub kept_at : ℕ → ℕ → List (Option Frame) → Option Frame
kept_at from number frames = slice_index_or frames (place_of from number) None

-- the place has the frame of this sender and number
abbrev pub IsFrameOf : ℕ → ℕ → Option Frame → Type 0
IsFrameOf from number place = (f : Frame) × (place ≡ Some f) × (f.from ≡ from) × (f.number ≡ number)

-- the number of frames in a place, none or one
abbrev pub frames_at : Option Frame → ℕ
frames_at None = 0
frames_at (Some f) = 1

-- the number of frames that wait
abbrev pub frames_in : List (Option Frame) → ℕ
frames_in frames = sum_by frames_at frames

-- a frame of this sender and number waits
abbrev pub Waits : ℕ → ℕ → List (Option Frame) → Type 0
Waits from number frames = IsFrameOf from number (kept_at from number frames)

-- another frame has the place of this sender and number
abbrev pub HasOther : ℕ → ℕ → List (Option Frame) → Type 0
HasOther from number frames = (kept_at from number frames ≡ None → ⊥) × (Waits from number frames → ⊥)

-- this datagram waits as the frame of this sender and number
abbrev pub WaitsAs : ℕ → ℕ → Datagram → List (Option Frame) → Type 0
WaitsAs from number datagram frames = (f : Frame) × (kept_at from number frames ≡ Some f) × (f.from ≡ from) × (f.number ≡ number) × (f.datagram ≡ datagram)

-- all frames that waited wait still
abbrev pub StayKept : List (Option Frame) → List (Option Frame) → Type 0
StayKept old new = (f : Frame) → Contains old (Some f) → Contains new (Some f)

-- no frame waits but those that did, each at its place
abbrev pub KeepsSome : List (Option Frame) → List (Option Frame) → Type 0
KeepsSome old new = (k : ℕ) (f : Frame) → slice_index_or new k None ≡ Some f → slice_index_or old k None ≡ Some f

-- no frame waits but those that did, and this datagram
abbrev pub OneMoreWaits : Datagram → List (Option Frame) → List (Option Frame) → Type 0
OneMoreWaits datagram old new = (f : Frame) → Contains new (Some f) → Contains old (Some f) ⊎ (f.datagram ≡ datagram)

-- ---- the frames before one that is expected

-- the place has a frame of this sender below a number
abbrev pub IsFrameBelow : ℕ → ℕ → Option Frame → Type 0
IsFrameBelow from least place = (f : Frame) × (place ≡ Some f) × (f.from ≡ from) × (f.number < least)

-- no frame is lost but those of this sender below a number
abbrev pub LosesBelow : ℕ → ℕ → List (Option Frame) → List (Option Frame) → Type 0
LosesBelow from least old new = (f : Frame) → Contains old (Some f) → Contains new (Some f) ⊎ ((f.from ≡ from) × (f.number < least))

-- no frame of this sender below a number waits
abbrev pub NoneBelow : ℕ → ℕ → List (Option Frame) → Type 0
NoneBelow from least frames = (number : ℕ) → number < least → Waits from number frames → ⊥

-- the least number of a frame that waits on, where this one is expected in an epoch: of another epoch none waits on
abbrev pub least_kept : ℕ → ℕ → Link → ℕ
least_kept epoch next link = if link.epoch == epoch then next else 2 ^ 64 - 1

-- it is no news that this number is expected of a sender
abbrev pub IsNoNews : ℕ → ℕ → ℕ → List Link → Type 0
IsNoNews from epoch next links = (link : Link) → slice_get links from ≡ Some link → (link.epoch ≡ epoch) × (next ≤ link.next)

-- it is learnt that this number is expected of a sender in an epoch: frames of the sender before it no longer wait
abbrev pub Learns : (from epoch next : ℕ) → (links links_now : List Link) → (frames frames_now : List (Option Frame)) → Type 0
Learns from epoch next links links_now frames frames_now =
    (IsNoNews from epoch next links × (links_now ≡ links) × (frames_now ≡ frames))
    ⊎ ((link : Link) × (slice_get links from ≡ Some link) × (links_now ≡ slice_set links from (record link { epoch = epoch; next = next }))
    × LosesBelow from (least_kept epoch next link) frames frames_now × NoneBelow from (least_kept epoch next link) frames_now)

-- ---- the frames that follow one

-- the number after this one; the last number has none after it
abbrev pub after : ℕ → ℕ
after number = min (number + 1) (2 ^ 64 - 1)

-- the frame of this epoch and number is the one that is expected next of a sender
abbrev pub Expects : ℕ → ℕ → ℕ → List Link → Type 0
Expects from epoch number links = (link : Link) × (slice_get links from ≡ Some link) × (link.epoch ≡ epoch) × (link.next ≡ number)

-- the frame that is expected next of a sender does not wait
abbrev pub NoneNext : ℕ → List Link → List (Option Frame) → Type 0
NoneNext from links frames = (link : Link) → slice_get links from ≡ Some link → Waits from link.next frames → ⊥

-- the frame that is expected next of a sender waits as this datagram, and no longer waits
abbrev pub TakesNext : ℕ → Datagram → (links links_now : List Link) → (frames frames_now : List (Option Frame)) → Type 0
TakesNext from d links links_now frames frames_now =
    (link : Link) × (slice_get links from ≡ Some link) × WaitsAs from link.next d frames × (links_now ≡ slice_set links from (record link { next = after link.next })) × (frames_now ≡ slice_set frames (place_of from link.next) None)

-- these datagrams wait as the frames of a sender from one number on, with none missing, up to another
abbrev pub AreFrames : ℕ → ℕ → List Datagram → ℕ → List (Option Frame) → Type 0
AreFrames from number [] last frames = number ≡ last
AreFrames from number (d ∷ ds) last frames = WaitsAs from number d frames × AreFrames from (after number) ds last frames
