-- The liveness bound of running nodes.
use Rattle.std.specs.Prelude.{◌≡◌, ℕ, ◌≤◌, List, [], ◌++◌, Contains, Some}
use Rattle.std.specs.List.{AllByRecursion}
use Rattle.std.specs.Option.{option_map_or}
use Rattle.crsm_spec.specs.Types.{Entry, Answer, Rec, Line}
use Rattle.crsm_spec.specs.Log.{executed}
use Rattle.crsm_spec.specs.Replica.{Waiting}
use Rattle.crsm_spec.specs.Draft.{Reply}
use Rattle.crsm_spec.specs.Safe.{AnswersAt}
use Rattle.crsm_law_cluster.specs.Clusters.{Event, Outgoing, Process, Cluster, host_at, log_in}
use Rattle.crsm_law_cluster.specs.Histories.{last_from, last_cluster}
use Rattle.crsm_law_cluster.specs.ClusterLaws.{IsHistory}
use Rattle.crsm_law_lives.specs.Sending.{outs_from}
use Rattle.crsm_law_calm.specs.Calm.{IsCalmCluster, AreCalmReadings}
use Rattle.crsm_law_calm.specs.Rounds.{IsRound}

-- what waits to go out at node k
unfoldable pub waiting_out : Cluster → ℕ → List Outgoing
waiting_out c k = option_map_or (λ x. x.outbox) (host_at c k).process []

-- By these events from cluster c, replica k has executed the entry of a waiting client, and a reply to it has gone out
-- or waits to go out, with the entry's place and the store's answer there.
pub record IsAnsweredIn (k : ℕ) (c : Cluster) (events : List Event) (w : Waiting) : Type 0 where
  pub place : ℕ
  pub answer : Answer
  pub answers : AnswersAt (executed (log_in (last_from c events) k)) place w.entry answer
  pub reply : Reply
  pub line : reply.line ≡ Line.ReplyOk k w.entry.command.client w.entry.command.number place answer
  pub goes : Contains (outs_from k c events ++ waiting_out (last_from c events) k) (Outgoing.ToClient reply)

-- By these events each entry of epoch e that its origin's log file had is executed in every member's log file, and each
-- client that waited at a member is answered.
pub record AllIsAnswered (e : ℕ) (members : List ℕ) (c : Cluster) (events : List Event) : Type 0 where
  pub executed : (f : Entry) → f.epoch ≡ e → Contains (log_in c f.stamp.origin) (Rec.Prepare f) →
      AllByRecursion (λ k. Contains (executed (log_in (last_from c events) k)) f) members
  pub answered : (k : ℕ) (x : Process) (w : Waiting) → Contains members k → (host_at c k).process ≡ Some x →
      Contains x.replica.waiting w → IsAnsweredIn k c events w

-- After a history of a cluster that began with 1 to 15 replicas it is calm, and two rounds follow.
pub record AreRounds (n : ℕ) (h first second : List Event) (e : ℕ) (members : List ℕ) (t u : ℕ → ℕ) : Type 0 where
  pub some : 1 ≤ n
  pub history : IsHistory n (h ++ (first ++ second))
  pub calm : IsCalmCluster e members (last_cluster n h)
  pub one : IsRound members (last_cluster n h) (last_cluster n h) t first
  pub two : IsRound members (last_cluster n h) (last_from (last_cluster n h) first) u second
  pub readings : AreCalmReadings members (last_from (last_cluster n h) first) u

-- The bound, for every history of running nodes.
abbrev pub RoundsAnswer : Type 0
RoundsAnswer =
    (n : ℕ) (h first second : List Event) (e : ℕ) (members : List ℕ) (t u : ℕ → ℕ) → AreRounds n h first second e members t u →
    AllIsAnswered e members (last_cluster n h) (first ++ second)
