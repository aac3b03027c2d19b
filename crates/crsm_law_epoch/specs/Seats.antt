-- The facts of an epoch over all replicas and all datagrams sent, and a replica's state as far as they need it.
use Rattle.std.specs.Prelude.{◌≡◌, ℕ, ◌<◌, ◌≤◌, Bool, false, ◌==◌, IsTrue, List, [], ◌∷◌, map, filter, count_by, Option, Some, None, slice_get}
use Rattle.crsm_spec.specs.Types.{Stamp, Entry, Rec, InEpoch, Datagram}
use Rattle.crsm_spec.specs.Lists.{Among, has}
use Rattle.crsm_spec.specs.Log.{Log, known, active, members, has_entered}
use Rattle.crsm_spec.specs.Frames.{time_of}
use Rattle.crsm_spec.specs.Replica.{Replica}
use Rattle.crsm_spec.specs.World.{Site}
use Rattle.crsm_fact_log.specs.Logs.{AllFit, Logged}
use Rattle.crsm_law_collection.specs.Collecting.{CommitOf}

-- A replica's seat: its log, and its state of the known epoch while it runs.
pub record Seat : Type 0 where
  pub log : Log
  pub running : Bool  -- up, and active in the known epoch
  pub issued : List ℕ
  pub received : List (ℕ × ℕ)
  pub votes : List (Stamp × ℕ)
  pub owed : List Stamp
  pub pushed : List (ℕ × InEpoch)
  pub taken : List ℕ

unfoldable pub seat_up : Replica → Seat
seat_up r =
    record {
      log = r.log;
      running = active r.log;
      issued = r.issued;
      received = r.received;
      votes = r.votes;
      owed = r.owed;
      pushed = r.pushed;
      taken = r.taken;
    }

unfoldable pub seat_down : Log → Seat
seat_down log =
    record { log = log; running = false; issued = []; received = []; votes = []; owed = []; pushed = []; taken = [] }

unfoldable pub seat_of : Option Site → Seat
seat_of None = seat_down []
seat_of (Some (Site.Up r)) = seat_up r
seat_of (Some (Site.Down log)) = seat_down log

-- the frames pushed to j
unfoldable pub pushed_to : ℕ → List (ℕ × InEpoch) → List InEpoch
pushed_to j fs = map (λ f. f.1) (filter (λ f. f.0 == j) fs)

-- the number of frames received from m
unfoldable pub taken_of : ℕ → List ℕ → ℕ
taken_of m ks = count_by (λ j. j == m) ks

-- the first is the greatest
abbrev pub IsTop : List ℕ → Type 0
IsTop [] = Unit {0}
IsTop (t ∷ ts) = (u : ℕ) → Among ts u → u ≤ t

-- j is another member of the epoch that the log knows
abbrev pub IsOther : ℕ → ℕ → Log → ℕ → Type 0
IsOther n k log j = IsTrue (has (members n log) j) × (j ≡ k → ⊥)

-- A running replica's own entries, times and frames, where `all` was sent.
pub record Sender (n k : ℕ) (s : Seat) (all : List Datagram) : Type 0 where
  pub own : (f : Entry) → Logged s.log f → f.stamp.origin ≡ k → f.epoch ≡ known s.log → Among s.issued f.stamp.time
  pub top : IsTop s.issued
  pub told : (f : Entry) → Logged s.log f → f.stamp.origin ≡ k → f.epoch ≡ known s.log → (j : ℕ) → IsOther n k s.log j →
      (i : ℕ) × (slice_get (pushed_to j s.pushed) i ≡ Some (InEpoch.Prepare f))
  pub rising : (j i i' : ℕ) (p q : InEpoch) → slice_get (pushed_to j s.pushed) i ≡ Some p →
      slice_get (pushed_to j s.pushed) i' ≡ Some q → time_of p ≤ time_of q → i ≤ i'
  pub times : (j i : ℕ) (p : InEpoch) → slice_get (pushed_to j s.pushed) i ≡ Some p → Among s.issued (time_of p)
  pub peers : (j i : ℕ) (p : InEpoch) → slice_get (pushed_to j s.pushed) i ≡ Some p → IsOther n k s.log j
  pub only : (j i : ℕ) (p : InEpoch) → Among all (Datagram.Frame k j (known s.log) i p) → slice_get (pushed_to j s.pushed) i ≡ Some p
  pub sent : (j i : ℕ) (p : InEpoch) → slice_get (pushed_to j s.pushed) i ≡ Some p → Among all (Datagram.Frame k j (known s.log) i p)

-- replica j has logged an entry with this epoch and stamp
abbrev pub HasStamp : (ℕ → Log) → ℕ → ℕ → Stamp → Type 0
HasStamp logs e j s = (f : Entry) × Logged (logs j) f × (f.epoch ≡ e) × (f.stamp ≡ s)

-- What a running replica has received and counted.
pub record Receiver (k : ℕ) (s : Seat) (logs : ℕ → Log) (all : List Datagram) : Type 0 where
  pub has_it : (m i : ℕ) (f : Entry) → i < taken_of m s.taken → Among all (Datagram.Frame m k (known s.log) i (InEpoch.Prepare f)) → Logged s.log f
  pub came : (m i : ℕ) → i < taken_of m s.taken → (p : InEpoch) × Among all (Datagram.Frame m k (known s.log) i p)
  pub times : (m t : ℕ) → Among s.received (m, t) →
      (i : ℕ) × (p : InEpoch) × (i < taken_of m s.taken) × Among all (Datagram.Frame m k (known s.log) i p) × (time_of p ≡ t)
  pub others : (m t : ℕ) → Among s.received (m, t) → m ≡ k → ⊥
  pub votes : (t : Stamp) (j : ℕ) → Among s.votes (t, j) → HasStamp logs (known s.log) j t
  pub owed : (t : Stamp) → Among s.owed t → (f : Entry) × Logged s.log f × (f.epoch ≡ known s.log) × (f.stamp ≡ t)

-- an own entry of m was sent in a frame no later than any frame with its time or a later one
abbrev pub IsFirst : ℕ → Log → List Datagram → Type 0
IsFirst m log all =
    (f : Entry) (j i : ℕ) (p : InEpoch) → Logged log f → f.stamp.origin ≡ m → Among all (Datagram.Frame m j f.epoch i p) → f.stamp.time ≤ time_of p →
    (i' : ℕ) × (i' ≤ i) × Among all (Datagram.Frame m j f.epoch i' (InEpoch.Prepare f))

-- m has issued a time of at least this one, if it runs in epoch e
abbrev pub HasPassed : ℕ → ℕ → Seat → Type 0
HasPassed e time s = IsTrue s.running → known s.log ≡ e → (t : ℕ) × Among s.issued t × (time ≤ t)

abbrev pub logs_of : (ℕ → Seat) → ℕ → Log
logs_of v k = (v k).log

-- The facts of all epochs, for these seats and all datagrams sent.
pub record Facts (n : ℕ) (v : ℕ → Seat) (all : List Datagram) : Type 0 where
  pub fit : (k : ℕ) → AllFit k n (v k).log
  -- an entry that is logged anywhere is logged at its origin
  pub own : (k : ℕ) (f : Entry) → Logged (v k).log f → Logged (v f.stamp.origin).log f
  -- an epoch and stamp have one own entry
  pub one : (k : ℕ) (f g : Entry) → Logged (v k).log f → Logged (v k).log g → f.stamp.origin ≡ k → f.epoch ≡ g.epoch → f.stamp ≡ g.stamp → f ≡ g
  -- the contents of frames are true of their senders
  pub says : (m j e i : ℕ) (f : Entry) → Among all (Datagram.Frame m j e i (InEpoch.Prepare f)) → Logged (v m).log f × (f.epoch ≡ e) × (f.stamp.origin ≡ m)
  pub says_ok : (m j e i : ℕ) (s : Stamp) (t : ℕ) → Among all (Datagram.Frame m j e i (InEpoch.PrepareOk s t)) → HasStamp (logs_of v) e m s
  -- a sequence number of a link has one payload, and all lower ones were sent
  pub same : (m j e i : ℕ) (p q : InEpoch) → Among all (Datagram.Frame m j e i p) → Among all (Datagram.Frame m j e i q) → p ≡ q
  pub low : (m j e i : ℕ) (p : InEpoch) (i' : ℕ) → Among all (Datagram.Frame m j e i p) → i' < i → (q : InEpoch) × Among all (Datagram.Frame m j e i' q)
  pub first : (m : ℕ) → IsFirst m (v m).log all
  -- a replica that stamps or sends in an epoch has entered it
  pub entered : (m j e i : ℕ) (p : InEpoch) → Among all (Datagram.Frame m j e i p) → IsTrue (has_entered e (v m).log)
  pub stamped : (m : ℕ) (f : Entry) → Logged (v m).log f → f.stamp.origin ≡ m → IsTrue (has_entered f.epoch (v m).log)
  pub sender : (k : ℕ) → IsTrue (v k).running → Sender n k (v k) all
  pub receiver : (k : ℕ) → IsTrue (v k).running → Receiver k (v k) (logs_of v) all

-- Every replica that runs in epoch e has passed the time of each entry committed in it.
abbrev pub AllPassed : ℕ → (ℕ → Seat) → Type 0
AllPassed e v = (p : ℕ) (x : Entry) → CommitOf e (logs_of v) p x → (m : ℕ) → HasPassed e x.stamp.time (v m)
