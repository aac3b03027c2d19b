-- Histories that can happen, and others in which the laws fail.
use Rattle.std.specs.Prelude.{◌≡◌, ℕ, suc, List, [], ◌∷◌, ◌++◌, Contains, Some, slice_get}
use Rattle.crsm_base.specs.Messages.{datagram_bytes}
use Rattle.crsm_spec.specs.Types.{Entry, Decision, Answer, Datagram, Line, Rec}
use Rattle.crsm_spec.specs.Lists.{Among}
use Rattle.crsm_spec.specs.Log.{executed}
use Rattle.crsm_spec.specs.Draft.{Draft, Reply}
use Rattle.crsm_spec.specs.Decided.{decisions_in}
use Rattle.crsm_spec.specs.Node.{Turn}
use Rattle.crsm_spec_process.specs.Lives.{Life, kept_steps}
use Rattle.crsm_law_cluster.specs.Clusters.{Event, Outgoing, Process, host_at, log_in}
use Rattle.crsm_law_cluster.specs.Histories.{last_cluster}
use Rattle.crsm_law_cluster.specs.Lawful.{IsLawful}
use Rattle.crsm_law_cluster.specs.OneList.{one_list, world_of}
use Rattle.crsm_law_cluster.specs.Going.{IsReplied}
use Rattle.crsm_law_cluster.specs.ClusterLaws.{IsHistory}
use Rattle.crsm_law_lives.specs.Premises.{DisksKeep}

-- A lawful history that began with one replica: an answer is sent, a group is lost with its process, which restarts,
-- and a new replica starts, becomes a member of the epoch decided then, and enters it with what was executed.
pub record AllHappens : Type 0 where
  pub h : List Event
  pub is : IsHistory 1 h
  pub place : ℕ
  pub reply : Reply
  pub replied : IsReplied 1 h place 0 reply
  pub answer : reply.line ≡ Line.ReplyOk 0 7 1 0 Answer.Done
  pub lost : ℕ
  pub turn : Turn
  pub reading : ℕ
  pub taken : slice_get h lost ≡ Some (Event.Takes 0 turn reading)
  pub stopped : slice_get h (suc lost) ≡ Some (Event.Stops 0)
  pub started : slice_get h (suc (suc lost)) ≡ Some (Event.Boots 0)
  pub decision : Decision
  pub decided : Contains (decisions_in (world_of (last_cluster 1 h))) decision
  pub entered : Among (log_in (last_cluster 1 h) 1) (Rec.Enter 1)
  pub entry : Entry
  pub list : executed (log_in (last_cluster 1 h) 1) ≡ entry ∷ []
  pub client : entry.command.client ≡ 7

-- ---- what must not happen

-- A history of two replicas that is unlawful because frames were forged: their log files have different entries as
-- executed.
pub record ForgedFramesBreak : Type 0 where
  pub h : List Event
  pub unlawful : IsLawful 2 h → ⊥
  pub first : Entry
  pub here : executed (log_in (last_cluster 2 h) 0) ≡ first ∷ []
  pub second : Entry
  pub there : executed (log_in (last_cluster 2 h) 1) ≡ second ∷ []
  pub differ : first ≡ second → ⊥

-- A datagram whose records its sender has not kept: receiving it now makes the history unlawful, and receiving it after
-- they are kept and it was sent does not.
pub record SendsWaitForKeeps : Type 0 where
  pub h : List Event
  pub process : Process
  pub runs : (host_at (last_cluster 2 h) 0).process ≡ Some process
  pub datagram : Datagram
  pub pends : Among process.pending (Outgoing.ToReplica 1 datagram)
  pub early : IsLawful 2 (h ++ Event.Takes 1 (Turn.In 70 (datagram_bytes datagram)) 6 ∷ []) → ⊥
  pub late : IsLawful 2 (h ++ Event.Keeps 0 ∷ Event.Sends 0 ∷ Event.Takes 1 (Turn.In 70 (datagram_bytes datagram)) 6 ∷ [])

-- An answer that is not kept is lost with its process, and its place goes to another entry: if it had been sent it
-- would be wrong.
pub record AnswersWaitForKeeps : Type 0 where
  pub h : List Event
  pub process : Process
  pub runs : (host_at (last_cluster 1 h) 0).process ≡ Some process
  pub reply : Reply
  pub pends : Among process.pending (Outgoing.ToClient reply)
  pub answer : reply.line ≡ Line.ReplyOk 0 7 1 0 Answer.Done
  pub more : List Event
  pub is : IsHistory 1 (h ++ more)
  pub other : Entry
  pub list : one_list 1 (h ++ more) ≡ other ∷ []
  pub client : other.command.client ≡ 8

-- Two processes of one replica: the second finds an older log than the first left, and their executed lists differ.
pub record OldLogsBreak : Type 0 where
  pub before : Life
  pub behind : Life
  pub older : DisksKeep 1 (before ∷ behind ∷ []) → ⊥
  pub one : Draft
  pub did : Among (kept_steps 1 before) one
  pub first : Entry
  pub had : executed one.replica.log ≡ first ∷ []
  pub two : Draft
  pub does : Among (kept_steps 1 behind) two
  pub second : Entry
  pub has : executed two.replica.log ≡ second ∷ []
  pub differ : first ≡ second → ⊥
