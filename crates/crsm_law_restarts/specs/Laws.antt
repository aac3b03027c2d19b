-- The laws of the runs of a cluster's nodes.
use Rattle.std.specs.Prelude.{◌≡◌, ℕ, ◌<◌, ◌≤◌, List, map}
use Rattle.std.specs.List.{AllByRecursion}
use Rattle.crsm_base.specs.declared.send.Send.{Send}
use Rattle.crsm_spec.specs.Lists.{Among}
use Rattle.crsm_spec.specs.Draft.{Draft}
use Rattle.crsm_spec.specs.Step.{boot}
use Rattle.crsm_spec_process.specs.Lives.{HaveFates, Life, kept_steps}
use Rattle.crsm_replica_io.specs.Outgoing.{packets_for}
use Rattle.crsm_replica_output.specs.Made.{to_address, to_replica}
use Rattle.crsm_law_cluster.specs.Clusters.{Event, Outgoing}
use Rattle.crsm_law_cluster.specs.ClusterLaws.{IsHistory}
use Rattle.crsm_law_lives.specs.Events.{AreEventsOf, lives_of}
use Rattle.crsm_law_lives.specs.Premises.{NobodyForges}
use Rattle.crsm_law_lives.specs.Laws.{IsRightStep}
use Rattle.crsm_law_lives.specs.Sending.{HasFates, sent_by}
use Rattle.crsm_law_processes.specs.Files.{RanOnFiles}
use Rattle.crsm_node.specs.Running.{Devices}
use Rattle.crsm_node.specs.Sent.{packets_gone, sends_from}
use Rattle.crsm_law_restarts.specs.Runs.{AreRunsOf, Run}
use Rattle.crsm_law_restarts.specs.Processes.{AreAlike, Were}

-- Of the processes of a lawful history: each kept step of each is right.
pub record IsRightHistory (n : ℕ) (ls : List Life) (h : List Event) : Type 0 where
  pub ran : RanOnFiles n ls h
  pub history : IsHistory n h
  pub right : (l : Life) → Among ls l → (x : Draft) → Among (kept_steps n l) x → IsRightStep n h l.me x

-- The runs of all nodes were processes that make a lawful history, whatever the order of events of different nodes and
-- whatever went out of what they handed out, if nobody sends in a replica's name.
pub record MakeHistories {S : Type 0} (at : S → Devices) (n : ℕ) (runs : ℕ → List (Run S)) : Type 0 where
  pub ls : List Life
  pub were : (k : ℕ) → k < 15 → Were at (runs k) (lives_of k ls)
  pub fates : AllByRecursion (HasFates n) ls
  pub lawful : (ms : List Life) (h : List Event) → AreAlike ls ms → AreEventsOf ms h → NobodyForges n h → IsRightHistory n ms h

abbrev pub RunsMakeHistories : {S : Type 0} → (S → Devices) → Type 0
RunsMakeHistories {S} at = (n : ℕ) (runs : ℕ → List (Run S)) → n ≤ 15 → ((k : ℕ) → k < 15 → AreRunsOf at n k (runs k)) → MakeHistories at n runs

-- a datagram or a reply as a node hands it to its port
unfoldable pub send_of : Outgoing → Send
send_of (Outgoing.ToReplica to d) = to_replica (to, d)
send_of (Outgoing.ToClient reply) = to_address reply

-- What a node's port sent of a process is what the process sends in a history.
abbrev pub PacketsAreTheirs : Type 0
PacketsAreTheirs =
    (n : ℕ) (peers : List ℕ) (l : Life) → HaveFates sends_from (boot l.me n l.found).replica l.groups →
    packets_gone peers (boot l.me n l.found).replica l.groups ≡ packets_for peers (map send_of (sent_by n l))
