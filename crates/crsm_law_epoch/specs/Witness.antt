-- Properties of the moment at which an entry was committed, which stay true.
use Rattle.std.specs.Prelude.{◌≡◌, ℕ, ◌≤◌, Bool, IsTrue, List, ◌∷◌, Some, length, count_by}
use Rattle.crsm_spec.specs.Types.{Entry, Rec, InEpoch, Datagram}
use Rattle.crsm_spec.specs.Lists.{Among, has, first_of}
use Rattle.crsm_spec.specs.Log.{Log, known, members, spec, unexecuted}
use Rattle.crsm_spec.specs.Paxos.{majority}
use Rattle.crsm_spec.specs.Frames.{time_of}
use Rattle.crsm_fact_log.specs.Logs.{Extends, Logged}
use Rattle.crsm_law_epoch.specs.Seats.{Seat, logs_of}

-- Replica `by` had this log when it committed x, the first of its unexecuted entries.
abbrev pub Committed : (ℕ → Log) → ℕ → Log → Entry → Type 0
Committed logs by log x = Extends (Rec.Commit x.stamp ∷ log) (logs by) × (first_of (unexecuted log) ≡ Some x)

-- The witness of that commit, for these seats and all datagrams sent.
pub record Witnessed (n : ℕ) (v : ℕ → Seat) (all : List Datagram) (by : ℕ) (log : Log) (x : Entry) : Type 0 where
  -- a majority of the epoch's Spec has logged the entry
  pub voters : ℕ → Bool
  pub many : majority (length (spec n log)) ≤ count_by voters (spec n log)
  pub logged : (j : ℕ) → IsTrue (voters j) → Logged (v j).log x
  -- each other member has sent a time of at least the entry's
  pub received : (m : ℕ) → IsTrue (has (members n log) m) → (m ≡ by → ⊥) →
      (i : ℕ) × (p : InEpoch) × Among all (Datagram.Frame m by (known log) i p) × (x.stamp.time ≤ time_of p)
  -- every entry that a member has stamped in the epoch up to that time had been logged at the commit
  pub older : (m : ℕ) (y : Entry) → IsTrue (has (members n log) m) → Logged (v m).log y → y.epoch ≡ known log → y.stamp.origin ≡ m →
      y.stamp.time ≤ x.stamp.time → Logged log y
  -- the replica itself has passed the time, if it still runs
  pub passed : IsTrue (v by).running → known (v by).log ≡ known log → (t : ℕ) × Among (v by).issued t × (x.stamp.time ≤ t)

-- Each recorded commit has its witness.
abbrev pub AreWitnessed : ℕ → (ℕ → Seat) → List Datagram → Type 0
AreWitnessed n v all = (by : ℕ) (log : Log) (x : Entry) → Committed (logs_of v) by log x → Witnessed n v all by log x
