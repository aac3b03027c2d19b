-- The laws of running nodes, each of every lawful history of a cluster that began with at most 15 replicas.
use Rattle.std.specs.Prelude.{◌≡◌, ℕ, ◌≤◌, List, Some, slice_get}
use Rattle.std.specs.List.{AllByRecursion}
use Rattle.crsm_base.specs.Spelling.{Rises}
use Rattle.crsm_spec.specs.Types.{Stamp, Entry, Answer, Line, Outcome, Refusal}
use Rattle.crsm_spec.specs.Lists.{Among, IsPrefixOf}
use Rattle.crsm_spec.specs.Log.{executed}
use Rattle.crsm_spec.specs.Draft.{Reply}
use Rattle.crsm_spec.specs.Safe.{AnswersAt}
use Rattle.crsm_law_runs.specs.Last.{IsDurableIn, DecisionsAgreeIn}
use Rattle.crsm_law_cluster.specs.Clusters.{Event, Cluster, log_in}
use Rattle.crsm_law_cluster.specs.Histories.{clusters, last_cluster}
use Rattle.crsm_law_cluster.specs.Lawful.{IsLawful}
use Rattle.crsm_law_cluster.specs.HistoryLaws.{HasShortLogs}
use Rattle.crsm_law_cluster.specs.OneList.{lists, one_list, world_of}
use Rattle.crsm_law_cluster.specs.Going.{IsReplied}

-- The premises: no datagram of a replica was forged, and log files have at most 2^50 records.
pub record IsHistory (n : ℕ) (h : List Event) : Type 0 where
  pub most : n ≤ 15
  pub lawful : IsLawful n h
  pub short : HasShortLogs (last_cluster n h)

-- ---- agreement

-- All executed lists, at any moments, are prefixes of one list, which rises by epoch and stamp.
pub record IsOneList (n : ℕ) (h : List Event) : Type 0 where
  pub prefixes : AllByRecursion (λ es. IsPrefixOf es (one_list n h)) (lists n h)
  pub ascending : Rises (one_list n h)

abbrev pub ListsAreOne : Type 0
ListsAreOne = (n : ℕ) (h : List Event) → IsHistory n h → IsOneList n h

-- Executed entries of a log file keep their places, whichever processes are killed and restarted.
abbrev pub LogFilesGrow : Type 0
LogFilesGrow =
    (n : ℕ) (h : List Event) → IsHistory n h → (i j : ℕ) (c d : Cluster) → i ≤ j →
    slice_get (clusters n h) i ≡ Some c → slice_get (clusters n h) j ≡ Some d → (k : ℕ) →
    IsPrefixOf (executed (log_in c k)) (executed (log_in d k))

-- Decisions of one epoch in log files are equal, and the beginning of each epoch agrees with the one list.
abbrev pub DecisionsAgree : Type 0
DecisionsAgree = (n : ℕ) (h : List Event) → IsHistory n h → DecisionsAgreeIn (world_of (last_cluster n h)) (one_list n h)

-- In each cluster of a history, an entry that one of its log files has as executed is durable.
abbrev pub LogFilesAreDurable : Type 0
LogFilesAreDurable =
    (n : ℕ) (h : List Event) → IsHistory n h → (c : Cluster) → Among (clusters n h) c →
    (k place : ℕ) (e : Entry) → slice_get (executed (log_in c k)) place ≡ Some e →
    IsDurableIn (world_of (last_cluster n h)) (one_list n h) (world_of c) e place

-- ---- answers

-- The reply is the store's answer at this place of the one list, to an entry of its client and number, from replica k.
pub record IsRightAnswer (n : ℕ) (h : List Event) (k place : ℕ) (a : Answer) (reply : Reply) : Type 0 where
  pub entry : Entry
  pub at : AnswersAt (one_list n h) place entry a
  pub origin : entry.stamp.origin ≡ k
  pub client : entry.command.client ≡ reply.client
  pub number : entry.command.number ≡ reply.number
  pub says : reply.says ≡ Outcome.Answered a

-- The reply says that the command was dropped, and the entry with this epoch and stamp is in no list.
pub record IsRightDrop (n : ℕ) (h : List Event) (k epoch : ℕ) (s : Stamp) (reply : Reply) : Type 0 where
  pub origin : s.origin ≡ k
  pub says : reply.says ≡ Outcome.Refused Refusal.Dropped
  pub none : (p : ℕ) (e : Entry) → slice_get (one_list n h) p ≡ Some e → e.epoch ≡ epoch → e.stamp ≡ s → ⊥

-- Each reply that is sent is right.
pub record AreRight (n : ℕ) (h : List Event) : Type 0 where
  pub answered : (i k j client number place : ℕ) (a : Answer) (reply : Reply) → IsReplied n h i k reply →
      reply.line ≡ Line.ReplyOk j client number place a → IsRightAnswer n h j place a reply
  pub dropped : (i k j client number epoch : ℕ) (s : Stamp) (reply : Reply) → IsReplied n h i k reply →
      reply.line ≡ Line.ReplyDropped j client number epoch s → IsRightDrop n h j epoch s reply

abbrev pub AnswersAreRight : Type 0
AnswersAreRight = (n : ℕ) (h : List Event) → IsHistory n h → AreRight n h

-- From the i-th event on, at which an answer is sent, its entry is durable in each cluster.
abbrev pub AnsweredAreDurable : Type 0
AnsweredAreDurable =
    (n : ℕ) (h : List Event) → IsHistory n h →
    (i j k m client number place : ℕ) (a : Answer) (reply : Reply) (c : Cluster) (e : Entry) → i ≤ j →
    IsReplied n h i k reply → reply.line ≡ Line.ReplyOk m client number place a →
    slice_get (clusters n h) j ≡ Some c → slice_get (one_list n h) place ≡ Some e →
    IsDurableIn (world_of (last_cluster n h)) (one_list n h) (world_of c) e place
