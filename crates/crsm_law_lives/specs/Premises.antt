-- The premises about the processes of a cluster's nodes, their disks and the network.
use Rattle.std.specs.Prelude.{◌≡◌, ◌⊎◌, ℕ, ◌<◌, true, List, [], ◌∷◌, ◌++◌, Some}
use Rattle.std.specs.List.{AllByRecursion}
use Rattle.crsm_base.specs.MessageReading.{datagram_of}
use Rattle.crsm_spec.specs.Types.{Datagram}
use Rattle.crsm_spec.specs.Log.{Log}
use Rattle.crsm_spec.specs.Node.{Turn}
use Rattle.crsm_spec_process.specs.Lives.{Life, kept_turns}
use Rattle.crsm_spec_process.specs.Turns.{CanBeTaken}
use Rattle.crsm_law_cluster.specs.Clusters.{Event, Outgoing, Cluster, next_out}
use Rattle.crsm_law_cluster.specs.Going.{IsAt}
use Rattle.crsm_law_lives.specs.Events.{AreEventsOf, left_by, lives_of}

-- ---- processes

pub record IsProcess (l : Life) : Type 0 where
  pub number : l.me < 15
  pub turns : AllByRecursion CanBeTaken (kept_turns l.groups ++ l.lost)

-- ---- the disk

-- The processes of one node: each finds the log that the one before it left, the first finds this log, and each begins
-- after the one before it has ended.
abbrev pub FindWhatIsLeft : ℕ → Log → List Life → Type 0
FindWhatIsLeft n log [] = Unit {0}
FindWhatIsLeft n log (l ∷ ls) = (l.found ≡ log) × ((ls ≡ []) ⊎ (l.ended ≡ true)) × FindWhatIsLeft n (left_by n l) ls

-- The next boot finds what was synced, and nothing else; the first process of a node finds no log.
abbrev pub DisksKeep : ℕ → List Life → Type 0
DisksKeep n ls = (k : ℕ) → FindWhatIsLeft n [] (lives_of k ls)

-- ---- the network

-- The node of a replica sent this datagram to k at an event before the i-th.
pub record WasSentBy (n : ℕ) (h : List Event) (i from k : ℕ) (d : Datagram) : Type 0 where
  pub place : ℕ
  pub before : place < i
  pub cluster : Cluster
  pub at : IsAt n h place cluster (Event.Sends from)
  pub is : next_out cluster from ≡ Some (Outgoing.ToReplica k d)

-- A datagram that names another replica as its sender and k as its receiver had been sent to k by that replica.
abbrev pub SpeaksTrue : ℕ → List Event → ℕ → ℕ → Datagram → Type 0
SpeaksTrue n h i k (Datagram.Frame from to epoch seq payload) = to ≡ k → (from ≡ k → ⊥) → WasSentBy n h i from k (Datagram.Frame from to epoch seq payload)
SpeaksTrue n h i k (Datagram.Ack from to epoch next) = to ≡ k → (from ≡ k → ⊥) → WasSentBy n h i from k (Datagram.Ack from to epoch next)
SpeaksTrue n h i k (Datagram.Part from to boot number index count bytes) =
    to ≡ k → (from ≡ k → ⊥) → WasSentBy n h i from k (Datagram.Part from to boot number index count bytes)
SpeaksTrue n h i k (Datagram.Request command) = Unit {0}
SpeaksTrue n h i k (Datagram.Reply client number told) = Unit {0}
SpeaksTrue n h i k (Datagram.Operate members) = Unit {0}

-- Nobody sends in a replica's name. From which address a datagram comes, how often, how late and in which order is
-- free.
abbrev pub NobodyForges : ℕ → List Event → Type 0
NobodyForges n h =
    (i k address reading : ℕ) (bytes : List ℕ) (c : Cluster) (d : Datagram) →
    IsAt n h i c (Event.Takes k (Turn.In address bytes) reading) → datagram_of bytes ≡ Some d → SpeaksTrue n h i k d

-- ---- all of it

-- These processes of nodes made this history, of a cluster that began with n replicas.
pub record Ran (n : ℕ) (ls : List Life) (h : List Event) : Type 0 where
  pub are : AreEventsOf ls h
  pub processes : AllByRecursion IsProcess ls
  pub disk : DisksKeep n ls
  pub network : NobodyForges n h
