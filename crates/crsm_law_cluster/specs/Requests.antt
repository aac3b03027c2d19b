-- Requests that nodes receive, and the entries that they submit.
use Rattle.std.specs.Prelude.{◌≡◌, ℕ, ◌<◌, List, Some}
use Rattle.crsm_base.specs.MessageReading.{datagram_of}
use Rattle.crsm_spec.specs.Types.{Command, Entry, Rec, Datagram}
use Rattle.crsm_spec.specs.Lists.{Among}
use Rattle.crsm_spec.specs.Node.{Turn, turn}
use Rattle.crsm_law_cluster.specs.Clusters.{Event, Process, Cluster, host_at}
use Rattle.crsm_law_cluster.specs.Going.{IsAt}

-- At the i-th event replica k receives a request of this command from this address.
pub record IsTaken (n : ℕ) (h : List Event) (i k address : ℕ) (c : Command) : Type 0 where
  pub cluster : Cluster
  pub bytes : List ℕ
  pub reading : ℕ
  pub at : IsAt n h i cluster (Event.Takes k (Turn.In address bytes) reading)
  pub asks : datagram_of bytes ≡ Some (Datagram.Request c)

-- At the i-th event the entry is submitted: its origin receives a request of its command from this address, and the
-- turn logs the entry. A later event says whether that is kept.
pub record IsSubmitted (n : ℕ) (h : List Event) (i address : ℕ) (e : Entry) : Type 0 where
  pub taken : IsTaken n h i e.stamp.origin address e.command
  pub process : Process
  pub runs : (host_at taken.cluster e.stamp.origin).process ≡ Some process
  pub logs : Among (turn process.replica (Turn.In address taken.bytes, taken.reading)).batch (Rec.Prepare e)

-- before the i-th event
abbrev pub WasTaken : ℕ → List Event → ℕ → ℕ → ℕ → Command → Type 0
WasTaken n h i k address c = (j : ℕ) × (j < i) × IsTaken n h j k address c

abbrev pub WasSubmitted : ℕ → List Event → ℕ → ℕ → Entry → Type 0
WasSubmitted n h i address e = (j : ℕ) × (j < i) × IsSubmitted n h j address e
