-- What an active replica has counted of the datagrams sent.
use Rattle.std.specs.Prelude.{◌≡◌, ◌≢◌, ◌⊎◌, ℕ, ◌<◌, ◌≤◌, IsTrue, List, length, Some, slice_get}
use Rattle.crsm_spec.specs.Types.{Stamp, Entry, InEpoch, Datagram}
use Rattle.crsm_spec.specs.Lists.{Among}
use Rattle.crsm_spec.specs.Log.{Log, known, active, has_entered}
use Rattle.crsm_spec.specs.Replica.{Replica, other_members, frames_to, next_from, acked_by}
use Rattle.crsm_spec.specs.Frames.{time_of}
use Rattle.crsm_spec.specs.World.{Site, World, log_at}
use Rattle.crsm_fact_log.specs.Logs.{Logged}
use Rattle.crsm_law_steps.specs.Happenings.{IsReached}
use Rattle.crsm_law_epoch.specs.LogWorlds.{HasFewBoots}
use Rattle.crsm_law_epoch.specs.Worlds.{sent_in}

-- the entry was logged in the known epoch
abbrev pub IsOf : Log → Entry → Type 0
IsOf log f = Logged log f × (f.epoch ≡ known log)

-- if the payload is a PREPAREOK of replica m, its vote is counted
abbrev pub HasVote : Replica → ℕ → InEpoch → Type 0
HasVote r m (InEpoch.PrepareOk s t) = Among r.votes (s, m)
HasVote r m _ = Unit {0}

-- the PREPAREOK of this stamp was pushed to each other member, with a time above the stamp's
abbrev pub IsPaidTo : Replica → Stamp → Type 0
IsPaidTo r s = (j : ℕ) → Among (other_members r) j → (t : ℕ) × Among (frames_to r j) (InEpoch.PrepareOk s t) × (s.time < t)

-- What replica k, which is r and active, has counted of all datagrams sent.
pub record Counted (k : ℕ) (r : Replica) (all : List Datagram) : Type 0 where
  -- each frame below the next number was received: its time and its vote are counted
  pub taken : (m i : ℕ) → i < next_from r m →
      (p : InEpoch) × Among all (Datagram.Frame m k (known r.log) i p) × Among r.received (m, time_of p) × HasVote r m p
  -- of each logged entry it has its own vote and that of its origin
  pub voted : (f : Entry) → IsOf r.log f → Among r.votes (f.stamp, k) × Among r.votes (f.stamp, f.stamp.origin)
  -- for each entry of another replica its time is received from there, and its PREPAREOK is pending or pushed
  pub heard : (f : Entry) → IsOf r.log f → f.stamp.origin ≢ k → Among r.received (f.stamp.origin, f.stamp.time)
  pub paid : (f : Entry) → IsOf r.log f → f.stamp.origin ≢ k → Among r.owed f.stamp ⊎ IsPaidTo r f.stamp
  -- each time issued was sent to each other member in a frame
  pub even : (j : ℕ) → Among (other_members r) j → length (frames_to r j) ≡ length r.issued
  pub later : (t : ℕ) → Among r.issued t → 1 ≤ t
  -- acknowledged frames were pushed, and an acknowledgement says so
  pub pushed : (j : ℕ) → acked_by r j ≤ length (frames_to r j)
  pub acks : (j a : ℕ) → Among r.acked (j, a) → Among all (Datagram.Ack j k (known r.log) a)
  -- frames that it has acknowledged in the epoch were received
  pub told : (m a : ℕ) → Among all (Datagram.Ack k m (known r.log) a) → a ≤ next_from r m

-- In every world reached each active replica has counted what it received.
abbrev pub CountsHold : Type 0
CountsHold =
    (n : ℕ) (w : World) → IsReached n w → HasFewBoots w → (k : ℕ) (r : Replica) → slice_get w.sites k ≡ Some (Site.Up r) →
    IsTrue (active r.log) → Counted k r (sent_in w)

-- A replica that acknowledges a frame of an epoch has entered it.
abbrev pub AcksAreEntered : Type 0
AcksAreEntered =
    (n : ℕ) (w : World) → IsReached n w → HasFewBoots w → (j m e a : ℕ) → Among (sent_in w) (Datagram.Ack j m e a) →
    IsTrue (has_entered e (log_at w j))
