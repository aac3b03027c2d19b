-- The laws of clients' numbers in running nodes: whichever nodes took a request, however often it was sent or came.
use Rattle.std.specs.Prelude.{◌≡◌, ℕ, List}
use Rattle.crsm_spec.specs.Types.{Answer, Outcome}
use Rattle.crsm_spec.specs.Lists.{Among}
use Rattle.crsm_spec.specs.Log.{executed}
use Rattle.crsm_spec.specs.Draft.{Reply}
use Rattle.crsm_law_cluster.specs.Clusters.{Cluster, Event, log_in}
use Rattle.crsm_law_cluster.specs.Histories.{clusters}
use Rattle.crsm_law_cluster.specs.OneList.{one_list}
use Rattle.crsm_law_cluster.specs.Going.{IsReplied}
use Rattle.crsm_law_cluster.specs.ClusterLaws.{IsHistory}
use Rattle.crsm_law_once.specs.Numbered.{ChangesKeys, IsAnswered}
use Rattle.crsm_law_replies.specs.First.{TellsFirst}

-- each answer that goes out tells what the first entry of the client's number was answered, or that the number is stale
abbrev pub RepliesTellTheFirst : Type 0
RepliesTellTheFirst =
    (n : ℕ) (h : List Event) → IsHistory n h → (i k : ℕ) (reply : Reply) (a : Answer) → IsReplied n h i k reply →
    reply.says ≡ Outcome.Answered a → TellsFirst (one_list n h) reply.client reply.number a

-- in the executed lists of all log files, at all moments, a client's number changes the keys at one place at most
abbrev pub NumbersChangeKeysOnce : Type 0
NumbersChangeKeysOnce =
    (n : ℕ) (h : List Event) → IsHistory n h → (c d : Cluster) → Among (clusters n h) c → Among (clusters n h) d →
    (j k p q client number : ℕ) (a b : Answer) →
    IsAnswered (executed (log_in c j)) p client number a → IsAnswered (executed (log_in d k)) q client number b →
    ChangesKeys (executed (log_in c j)) p → ChangesKeys (executed (log_in d k)) q → p ≡ q
