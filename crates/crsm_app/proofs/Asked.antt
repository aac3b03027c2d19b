-- The tasks of words.
use Rattle.std.proofs.Common.{◌≡◌, ℕ, List, Result, Ok, Err, inl, inr, sym, ◌∙◌, subst}
use Rattle.clap.specs.Words.{Text}
use Rattle.crsm_text_words.specs.Answers.{IsShown, OrderMade, Reads, order, text}
use Rattle.crsm_text_words.specs.Orders.{Asks}
use Rattle.crsm_text_words.specs.declared.order.Order.{Order}
use Rattle.crsm_text_words.specs.declared.order.Task.{Task}
use Rattle.crsm_text_words.specs.declared.order.Task.TheVariants.{Show, Replay, ReplayNode, Node, Client, Operate, Soak, Audit, Lock, Delay, DelayTimes, ReplayMp, Dump}
use Rattle.crsm_text_words.specs.declared.read.WordsError.{WordsError}
use Rattle.crsm_client.specs.declared.command.ClientEnd.{ClientEnd}
use Rattle.crsm_client.specs.declared.error.OperateError.{OperateError}
use Rattle.crsm_cmd_lock.specs.declared.command.LockEnd.{LockEnd}
use Rattle.crsm_node.specs.declared.errors.NodeEnd.{NodeEnd}
use Rattle.crsm_app.specs.Devices.{Devices}
use Rattle.crsm_app.specs.Did.{Did, DidAudit, DidDump, DidPlan, DidReplay, DidReplayMp, DidSheet}
use Rattle.crsm_app.specs.Statuses.{status_of_client, status_of_lock, status_of_node, status_of_operate}
use Rattle.crsm_app.specs.Tasks.{IsWithinLimits}
use Rattle.crsm_app.specs.declared.status.Status.{Status}

-- ---- what was read

pub read_so : (result : Result Order WordsError) (read o : Order) → result ≡ Ok read → Reads result o → read ≡ o
read_so (Ok r) read o is reads = let same : r ≡ read = cc in sym same ∙ reads
read_so (Err r) read o is reads = absurd (cc)

pub not_usage : (result : Result Order WordsError) (o : Order) → result ≡ Err WordsError.Usage → Reads result o → ⊥
not_usage (Ok r) o is reads = cc
not_usage (Err r) o is reads = let bad : WordsError.Usage ≡ WordsError.NoMemory = (cc) in cc

-- ---- limits

shown_within : (task : Task) → IsShown task → IsWithinLimits task
shown_within (Show t) shown = tt
shown_within Replay shown = absurd shown
shown_within (ReplayNode me n) shown = absurd shown
shown_within (Node t) shown = absurd shown
shown_within (Client to turns command) shown = absurd shown
shown_within (Operate to members) shown = absurd shown
shown_within (Soak number n steps) shown = absurd shown
shown_within (Audit n) shown = absurd shown
shown_within (Lock t) shown = absurd shown
shown_within Delay shown = absurd shown
shown_within DelayTimes shown = absurd shown
shown_within ReplayMp shown = absurd shown
shown_within (Dump me n part) shown = absurd shown

asked_within : (task : Task) (words : List Text) → Asks task words → IsWithinLimits task
asked_within (Show t) words asks = absurd asks
asked_within Replay words asks = tt
asked_within (ReplayNode me n) words asks = (asks.0, asks.1)
asked_within (Node t) words asks = asks.0
asked_within (Client to turns command) words asks = asks.limits.fits
asked_within (Operate to members) words asks = tt
asked_within (Soak number n steps) words asks = asks.1
asked_within (Audit n) words asks = asks.0
asked_within (Lock t) words asks = asks.0
asked_within Delay words asks = tt
asked_within DelayTimes words asks = tt
asked_within ReplayMp words asks = tt
asked_within (Dump me n part) words asks = (asks.0, asks.1)

pub within_limits : (words : List Text) (made : Order) → OrderMade words made → IsWithinLimits made.task
within_limits words made (text none shown asks) = shown_within made.task shown
within_limits words made (order none cluster_words asks) = asked_within made.task _ asks

-- ---- what was done

client_not_usage : (e : ClientEnd) → Status.Usage ≡ status_of_client e → ⊥
client_not_usage ClientEnd.Done is = cc is
client_not_usage ClientEnd.PortFault is = cc is
client_not_usage ClientEnd.NoAnswer is = cc is
client_not_usage ClientEnd.WriteFault is = cc is
client_not_usage ClientEnd.NoMemory is = cc is

operate_not_usage : (e : Result (Unit {0}) OperateError) → Status.Usage ≡ status_of_operate e → ⊥
operate_not_usage (Ok u) is = cc is
operate_not_usage (Err OperateError.PortFault) is = cc is
operate_not_usage (Err OperateError.NoMemory) is = cc is

lock_not_usage : (e : LockEnd) → Status.Usage ≡ status_of_lock e → ⊥
lock_not_usage LockEnd.Done is = cc is
lock_not_usage LockEnd.PortFault is = cc is
lock_not_usage LockEnd.NoAnswer is = cc is
lock_not_usage LockEnd.WriteFault is = cc is
lock_not_usage LockEnd.NoMemory is = cc is

node_not_usage : (e : NodeEnd) → Status.Usage ≡ status_of_node e → ⊥
node_not_usage NodeEnd.Done is = cc is
node_not_usage NodeEnd.PortFault is = cc is
node_not_usage NodeEnd.DiskFault is = cc is
node_not_usage NodeEnd.LogFull is = cc is
node_not_usage NodeEnd.WriteFault is = cc is
node_not_usage (NodeEnd.BadLog entry why) is = cc is
node_not_usage (NodeEnd.OtherCluster found) is = cc is
node_not_usage NodeEnd.NoMemory is = cc is

usage_not_no_memory : Status.Usage ≡ Status.NoMemory → ⊥
usage_not_no_memory is = cc is

not_refused : (cluster : ℕ) (task : Task) (old new : Devices) → Did cluster task Status.Usage old new → ⊥
unfolding DidAudit DidDump DidReplay DidReplayMp DidSheet DidPlan
not_refused cluster (Show t) old new did = did.1
not_refused cluster Replay old new did = did
not_refused cluster (ReplayNode me n) old new did = did
not_refused cluster (Client to turns command) old new did = client_not_usage did.1.ended did.1.status
not_refused cluster (Operate to members) old new did = operate_not_usage did.2.ended did.2.status
not_refused cluster (Node t) old new did = elim did.1 [
  | inl ran ↦ node_not_usage ran.ended ran.status
  | inr none ↦ usage_not_no_memory none.status
]
not_refused cluster (Soak number n steps) old new did = did.1
not_refused cluster (Audit n) old new did = did
not_refused cluster (Lock t) old new did = lock_not_usage did.1.ended did.1.status
not_refused cluster Delay old new did = did
not_refused cluster DelayTimes old new did = did
not_refused cluster ReplayMp old new did = did
not_refused cluster (Dump me n part) old new did = did

-- what was done is not refused
pub not_idle : (made : Order) (result : Status) (old new : Devices) → Did made.cluster made.task result old new → result ≡ Status.Usage → ⊥
not_idle made result old new did is = not_refused made.cluster made.task old new (subst (λ (s : Status). Did made.cluster made.task s old new) is did)
