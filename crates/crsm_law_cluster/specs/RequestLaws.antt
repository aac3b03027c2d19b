-- The laws of requests to running nodes, each about every lawful history of a cluster that began with at most 15
-- replicas.
use Rattle.std.specs.Prelude.{◌≡◌, ℕ, ◌<◌, ◌≤◌, List, Some, slice_get}
use Rattle.crsm_spec.specs.Types.{Stamp, Command, Entry, Answer, Line}
use Rattle.crsm_spec.specs.Log.{executed}
use Rattle.crsm_spec.specs.Draft.{Reply}
use Rattle.crsm_spec.specs.Safe.{AreOnOneEntry}
use Rattle.crsm_law_cluster.specs.Clusters.{Event, Cluster, log_in}
use Rattle.crsm_law_cluster.specs.Histories.{clusters}
use Rattle.crsm_law_cluster.specs.OneList.{one_list}
use Rattle.crsm_law_cluster.specs.Going.{IsReplied}
use Rattle.crsm_law_cluster.specs.ClusterLaws.{IsHistory}
use Rattle.crsm_law_cluster.specs.Requests.{IsSubmitted, WasTaken, WasSubmitted}

-- ---- submitted

-- up to the i-th event no log file has the entry as executed
abbrev pub IsNotExecutedBy : ℕ → List Event → ℕ → Entry → Type 0
IsNotExecutedBy n h i e =
    (j k place : ℕ) (c : Cluster) → j ≤ i → slice_get (clusters n h) j ≡ Some c → slice_get (executed (log_in c k)) place ≡ Some e → ⊥

-- Each entry of the one list was submitted at its origin, by a request of its command, before any log file had it as
-- executed.
abbrev pub EntriesWereSubmitted : Type 0
EntriesWereSubmitted =
    (n : ℕ) (h : List Event) → IsHistory n h → (place : ℕ) (e : Entry) → slice_get (one_list n h) place ≡ Some e →
    (i : ℕ) × (address : ℕ) × IsSubmitted n h i address e × IsNotExecutedBy n h i e

-- ---- real time

-- An entry submitted after an answer was sent has a later place in the list than the answered entry.
abbrev pub RealTimeIsKept : Type 0
RealTimeIsKept =
    (n : ℕ) (h : List Event) → IsHistory n h →
    (i j k m client number place address q : ℕ) (a : Answer) (reply : Reply) (e : Entry) → i < j →
    IsReplied n h i k reply → reply.line ≡ Line.ReplyOk m client number place a →
    IsSubmitted n h j address e → slice_get (one_list n h) q ≡ Some e → place < q

-- ---- receivers of replies

-- Each reply is sent to the address from which its command was requested at its replica; an answer, and the reply that
-- an entry was dropped, to the address whose request submitted the entry.
pub record ReachWhoAsked (n : ℕ) (h : List Event) : Type 0 where
  pub asked : (i k : ℕ) (reply : Reply) → IsReplied n h i k reply →
      (c : Command) × WasTaken n h i k reply.address c × (c.client ≡ reply.client) × (c.number ≡ reply.number)
  pub answered : (i k m client number place : ℕ) (a : Answer) (reply : Reply) (e : Entry) → IsReplied n h i k reply →
      reply.line ≡ Line.ReplyOk m client number place a → slice_get (one_list n h) place ≡ Some e →
      WasSubmitted n h i reply.address e
  pub dropped : (i k m client number epoch : ℕ) (s : Stamp) (reply : Reply) → IsReplied n h i k reply →
      reply.line ≡ Line.ReplyDropped m client number epoch s →
      (e : Entry) × (e.epoch ≡ epoch) × (e.stamp ≡ s) × WasSubmitted n h i reply.address e

abbrev pub RepliesReachWhoAsked : Type 0
RepliesReachWhoAsked = (n : ℕ) (h : List Event) → IsHistory n h → ReachWhoAsked n h

-- No entry is replied to twice, by any processes.
abbrev pub RepliesGoOutOnce : Type 0
RepliesGoOutOnce =
    (n : ℕ) (h : List Event) → IsHistory n h → (i j k l : ℕ) (a b : Reply) →
    IsReplied n h i k a → IsReplied n h j l b → AreOnOneEntry a.line b.line → i ≡ j
