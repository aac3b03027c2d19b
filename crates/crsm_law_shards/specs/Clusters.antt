-- Shards that are clusters of running nodes: what an observer of a cluster's clients sees of its history.
use Rattle.std.specs.Prelude.{◌≡◌, ℕ, ◌≤◌, List, Some, slice_get}
use Rattle.crsm_spec.specs.Types.{Answer, Command, Line}
use Rattle.crsm_spec.specs.Draft.{Reply}
use Rattle.crsm_law_cluster.specs.Clusters.{Event}
use Rattle.crsm_law_cluster.specs.Going.{IsReplied}
use Rattle.crsm_law_cluster.specs.OneList.{one_list}
use Rattle.crsm_law_cluster.specs.ClusterLaws.{IsHistory}
use Rattle.crsm_law_cluster.specs.Requests.{IsSubmitted, IsTaken}
use Rattle.crsm_law_shards.specs.Served.{Answered, Served, entries_of, key_of}
use Rattle.crsm_law_shards.specs.Shards.{IsLinear, IsWhole}

-- the time of each event of a history, which does not go back
abbrev pub IsClock : (ℕ → ℕ) → Type 0
IsClock time = (i j : ℕ) → i ≤ j → time i ≤ time j

-- the client asked no later than the entry was submitted
pub record IsAsked (n : ℕ) (h : List Event) (time : ℕ → ℕ) (x : Served) : Type 0 where
  pub event : ℕ
  pub address : ℕ
  pub submitted : IsSubmitted n h event address x.entry
  pub before : x.asked ≤ time event

-- the client had its answer no sooner than the reply to the entry at this place was sent
pub record IsHad (n : ℕ) (h : List Event) (time : ℕ → ℕ) (place : ℕ) (a : Answered) : Type 0 where
  pub event : ℕ
  pub node : ℕ
  pub reply : Reply
  pub sent : IsReplied n h event node reply
  pub by : ℕ
  pub client : ℕ
  pub number : ℕ
  pub line : reply.line ≡ Line.ReplyOk by client number place a.answer
  pub after : time event ≤ a.had

-- The list is the one list of the history, with the times at which clients asked and had answers.
pub record IsSeen (n : ℕ) (h : List Event) (time : ℕ → ℕ) (list : List Served) : Type 0 where
  pub entries : entries_of list ≡ one_list n h
  pub asked : (p : ℕ) (x : Served) → slice_get list p ≡ Some x → IsAsked n h time x
  pub answered : (p : ℕ) (x : Served) (a : Answered) → slice_get list p ≡ Some x → x.answered ≡ Some a →
      IsHad n h time p a

-- The list is that of a cluster with a history of its own, whose nodes are asked for keys of shard s alone.
pub record IsOfCluster (shard : List ℕ → ℕ) (s : ℕ) (list : List Served) : Type 0 where
  pub n : ℕ
  pub h : List Event
  pub is : IsHistory n h
  pub time : ℕ → ℕ
  pub clock : IsClock time
  pub seen : IsSeen n h time list
  pub own : (i k address : ℕ) (c : Command) → IsTaken n h i k address c → shard (key_of c.op) ≡ s

-- Clusters, each with the keys of its shard, are one store: whichever of their nodes are killed and restarted, and
-- whatever their networks lose, repeat and delay.
abbrev pub ClustersAreOneStore : Type 0
ClustersAreOneStore =
    (shard : List ℕ → ℕ) (lists : List (List Served)) →
    ((s : ℕ) (list : List Served) → slice_get lists s ≡ Some list → IsOfCluster shard s list) →
    (whole : List Served) × IsWhole shard lists whole × IsLinear shard whole

-- Each answer that a node of a history sends can be seen: a list of the history has it at its place.
abbrev pub AnswersAreSeen : Type 0
AnswersAreSeen =
    (n : ℕ) (h : List Event) → IsHistory n h → (time : ℕ → ℕ) → (i k by client number place : ℕ) (a : Answer)
    (reply : Reply) → IsReplied n h i k reply → reply.line ≡ Line.ReplyOk by client number place a →
    (list : List Served) × IsSeen n h time list ×
    (x : Served) × (slice_get list place ≡ Some x) × (x.answered ≡ Some (record { answer = a; had = time i }))
