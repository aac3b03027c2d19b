-- A replica in the definitions: its log, and lists of all that it received and sent in this epoch or boot.
use Rattle.std.specs.Prelude.{ℕ, Bool, ◌==◌, not, nat_le, bytes_eq, if◌then◌else◌, List, [], length, drop, map, filter, count_by, Option, None, Some, unwrap_or}
use Rattle.std.specs.List.{list_all, list_any, enumerate_from}
use Rattle.crsm_base.specs.Limits.{most_frames}
use Rattle.crsm_spec.specs.Types.{Stamp, Ballot, Entry, Decision, InEpoch}
use Rattle.crsm_spec.specs.Lists.{has, greatest, first_of}
use Rattle.crsm_spec.specs.Log.{Log, members, spec}
use Rattle.crsm_spec.specs.Quorum.{spec_decided}
use Rattle.crsm_spec.specs.Paxos.{Answer}
use Rattle.crsm_spec.specs.Parts.{Piece}

-- A page of a suspended log: its sender, the sender's executed length and the stamp of its last executed entry of the
-- epoch, whether the page is the last, and logged entries above that stamp.
pub record LogPage : Type 0 where
  pub from : ℕ
  pub executed : ℕ
  pub last : Option Stamp
  pub whole : Bool
  pub entries : List Entry

-- The phase of a coordinator. From `Preparing` on it keeps the decision that it collected, `own`.
pub data Coordinator : Type 0 where
  Idle : Coordinator
  Collecting : (members : List ℕ) (pages : List LogPage) → Coordinator
  Preparing : (b : Ballot) (own : Decision) (answers : List (Answer Decision)) → Coordinator
  Proposing : (b : Ballot) (own value : Decision) (acceptors : List ℕ) → Coordinator
  Preempted : (own : Decision) (seen : Ballot) → Coordinator

-- A client that waits for an entry submitted here.
pub record Waiting : Type 0 where
  pub address : ℕ
  pub entry : Entry

-- One replica. Only `log` is on its disk; all else is lost at a restart.
pub record Replica : Type 0 where
  pub me : ℕ  -- its number
  pub n : ℕ  -- how many replicas the cluster began with
  pub log : Log  -- the records kept, the newest first
  pub issued : List ℕ  -- the times issued in this epoch, the newest first
  pub received : List (ℕ × ℕ)  -- each time received in this epoch, behind its sender
  pub votes : List (Stamp × ℕ)  -- each stamp with a replica that logged it, in this epoch
  pub owed : List Stamp  -- the stamps whose PREPAREOK is owed, ascending
  pub pushed : List (ℕ × InEpoch)  -- each frame pushed in this epoch, behind its receiver, in order
  pub acked : List (ℕ × ℕ)  -- each Ack taken in this epoch, behind its sender
  pub taken : List ℕ  -- the sender of each frame taken in this epoch
  pub parts : List Piece  -- each part taken in this boot, in order
  pub coordinator : Coordinator
  pub made : ℕ  -- how many control messages this boot has made
  pub waiting : List Waiting  -- in order of submission

-- a replica with this log, at the beginning of a boot
unfoldable pub fresh : ℕ → ℕ → Log → Replica
fresh me n log =
    record {
      me = me;
      n = n;
      log = log;
      issued = [];
      received = [];
      votes = [];
      owed = [];
      pushed = [];
      acked = [];
      taken = [];
      parts = [];
      coordinator = Coordinator.Idle;
      made = 0;
      waiting = [];
    }

-- ---- members and replica sets

-- the members of its known epoch
unfoldable pub members_of : Replica → List ℕ
members_of r = members r.n r.log

-- the Spec of its known epoch
unfoldable pub spec_of : Replica → List ℕ
spec_of r = spec r.n r.log

-- the Spec of the epoch after the known one, if these are its members
unfoldable pub next_spec : Replica → List ℕ → List ℕ
next_spec r ms = if list_all (has (spec_of r)) ms then spec_of r else ms

-- how a decision names that Spec: None if it is the first n replicas
unfoldable pub named_spec : Replica → List ℕ → Option (List ℕ)
named_spec r ms = if bytes_eq (next_spec r ms) (spec_decided r.n None) then None else Some (next_spec r ms)

-- the other members, ascending
unfoldable pub other_members : Replica → List ℕ
other_members r = filter (λ k. not (k == r.me)) (members_of r)

-- the other replicas of the known epoch's Spec, ascending
unfoldable pub others : Replica → List ℕ
others r = filter (λ k. not (k == r.me)) (spec_of r)

-- ---- times

-- the latest time issued in this epoch, 0 before the first
unfoldable pub last_issued : Replica → ℕ
last_issued r = unwrap_or (first_of r.issued) 0

-- the latest time received from k, 0 before the first
unfoldable pub latest_from : List (ℕ × ℕ) → ℕ → ℕ
latest_from received k = greatest (map (λ h. h.1) (filter (λ h. h.0 == k) received))

-- ---- links

-- the frames pushed to k, in order
unfoldable pub frames_to : Replica → ℕ → List InEpoch
frames_to r k = map (λ f. f.1) (filter (λ f. f.0 == k) r.pushed)

-- the sequence number below which k has received all frames
unfoldable pub acked_by : Replica → ℕ → ℕ
acked_by r k = greatest (map (λ a. a.1) (filter (λ a. a.0 == k) r.acked))

-- the frames to k that are not acknowledged, with their sequence numbers
unfoldable pub unacked : Replica → ℕ → List (ℕ × InEpoch)
unacked r k = drop (acked_by r k) (enumerate_from 0 (frames_to r k))

-- the sequence number of the next frame from k
unfoldable pub next_from : Replica → ℕ → ℕ
next_from r k = count_by (λ j. j == k) r.taken

-- whether some link has the maximum number of unacknowledged frames
unfoldable pub is_congested : Replica → Bool
is_congested r = list_any (λ k. nat_le most_frames (length (unacked r k))) (other_members r)
