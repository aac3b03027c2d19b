-- The laws of nodes' processes.
use Rattle.std.specs.Prelude.{◌≡◌, ℕ, ◌<◌, ◌≤◌, List, None, Some, slice_get}
use Rattle.std.specs.List.{AllByRecursion, flat_map}
use Rattle.crsm_spec.specs.Types.{Stamp, Entry, Answer, Line}
use Rattle.crsm_spec.specs.Lists.{Among, IsPrefixOf}
use Rattle.crsm_spec.specs.Log.{executed}
use Rattle.crsm_spec.specs.Draft.{Draft, Reply}
use Rattle.crsm_spec.specs.Safe.{AnswersAt}
use Rattle.crsm_spec_process.specs.Lives.{Life, kept_steps}
use Rattle.crsm_law_cluster.specs.Clusters.{Event, Cluster, host_at, log_in, unborn}
use Rattle.crsm_law_cluster.specs.Histories.{clusters, last_cluster}
use Rattle.crsm_law_cluster.specs.Lawful.{IsLawful}
use Rattle.crsm_law_cluster.specs.HistoryLaws.{HasShortLogs}
use Rattle.crsm_law_cluster.specs.OneList.{one_list}
use Rattle.crsm_law_cluster.specs.Going.{IsAt}
use Rattle.crsm_law_cluster.specs.ClusterLaws.{IsRightAnswer, IsRightDrop}
use Rattle.crsm_law_lives.specs.Events.{left_by, lives_of}
use Rattle.crsm_law_lives.specs.Premises.{Ran}
use Rattle.crsm_law_lives.specs.Sending.{HasFates, outs_from, sent_by}

-- The process boots in the history on the log that it found, and leaves its log there.
pub record IsIn (n : ℕ) (h : List Event) (l : Life) : Type 0 where
  pub place : ℕ
  pub before : Cluster
  pub boots : IsAt n h place before (Event.Boots l.me)
  pub none : (host_at before l.me).process ≡ None
  pub found : log_in before l.me ≡ l.found
  pub last : ℕ
  pub end : Cluster
  pub there : slice_get (clusters n h) last ≡ Some end
  pub left : log_in end l.me ≡ left_by n l

-- If disks keep what was synced and nobody forges datagrams, the history of the processes is lawful and contains them.
pub record AreLawful (n : ℕ) (ls : List Life) (h : List Event) : Type 0 where
  pub lawful : IsLawful n h
  pub each : (l : Life) → Among ls l → IsIn n h l

abbrev pub LivesAreLawful : Type 0
LivesAreLawful = (n : ℕ) (ls : List Life) (h : List Event) → n ≤ 15 → Ran n ls h → AreLawful n ls h

-- ---- datagrams and replies sent

-- The datagrams and replies sent at a node in the history are those of its processes, one after another.
abbrev pub SendsAreTheirs : Type 0
SendsAreTheirs =
    (n : ℕ) (ls : List Life) (h : List Event) → Ran n ls h → AllByRecursion (HasFates n) ls →
    (k : ℕ) → k < 15 → outs_from k (unborn n) h ≡ flat_map (sent_by n) (lives_of k ls)

-- ---- steps

-- The step is right: it executed a prefix of the one list; each of its execution lines has the entry of its place and
-- the sequential store's answer there; so has each answer to a client, for an entry of its client and number from this
-- replica; and what it reports as dropped is in no list.
pub record IsRightStep (n : ℕ) (h : List Event) (me : ℕ) (x : Draft) : Type 0 where
  pub executed : IsPrefixOf (executed x.replica.log) (one_list n h)
  pub executes : (k place epoch client number : ℕ) (s : Stamp) (a : Answer) → Among x.lines (Line.Exec k place epoch s client number a) →
      (e : Entry) × AnswersAt (one_list n h) place e a × (e.epoch ≡ epoch) × (e.stamp ≡ s) × (e.command.client ≡ client) × (e.command.number ≡ number)
  pub answers : (k client number place : ℕ) (a : Answer) (reply : Reply) → Among x.replies reply →
      reply.line ≡ Line.ReplyOk k client number place a → IsRightAnswer n h me place a reply
  pub drops : (k client number epoch : ℕ) (s : Stamp) (reply : Reply) → Among x.replies reply →
      reply.line ≡ Line.ReplyDropped k client number epoch s → IsRightDrop n h me epoch s reply

-- Each kept step of each process is right: all that a replay of its sheet shows.
abbrev pub StepsAreRight : Type 0
StepsAreRight =
    (n : ℕ) (ls : List Life) (h : List Event) → n ≤ 15 → Ran n ls h → HasShortLogs (last_cluster n h) →
    (l : Life) → Among ls l → (x : Draft) → Among (kept_steps n l) x → IsRightStep n h l.me x
