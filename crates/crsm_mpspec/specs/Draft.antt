-- A step in progress: the replica, and the records, messages and lines of the step.
use Rattle.std.specs.Prelude.{ℕ, ◌+◌, List, [], ◌∷◌, ◌++◌, length, drop, fold, None, Some}
use Rattle.crsm_mpspec.specs.declared.rec.MpRec.{MpRec}
use Rattle.crsm_mpspec.specs.declared.message.MpMessage.{MpMessage}
use Rattle.crsm_mpspec.specs.declared.line.MpLine.{MpLine}
use Rattle.crsm_mpspec.specs.Types.{Command, Value}
use Rattle.crsm_mpspec.specs.Log.{Log, executed, boots}
use Rattle.crsm_mpspec.specs.Values.{answer_after}
use Rattle.crsm_mpspec.specs.Replica.{Replica, Note, others, note_after, with_vote}

-- A step while it is made.
pub record Draft : Type 0 where
  pub replica : Replica  -- as the step leaves it so far
  pub batch : List MpRec  -- the records of the step, in order
  pub lines : List MpLine  -- their lines
  pub sends : List (ℕ × MpMessage)  -- the messages behind their receivers, in order
  pub replies : List MpLine  -- the lines of the replies to clients, in order

-- a step that has done nothing yet
unfoldable pub begun : Replica → Draft
begun r = record { replica = r; batch = []; lines = []; sends = []; replies = [] }

-- ---- the lines of records

-- the line of a value that is executed behind these, at replica me
unfoldable pub exec_line : ℕ → List Value → Value → MpLine
exec_line me done None = MpLine.ExecNoop me (length done)
exec_line me done (Some c) = MpLine.Exec me (length done) c.client c.number (answer_after done c)

-- the lines of values that are executed behind these
unfoldable pub exec_lines : ℕ → List Value → List Value → List MpLine
exec_lines me done [] = []
exec_lines me done (v ∷ vs) = exec_line me done v ∷ exec_lines me (done ++ v ∷ []) vs

-- the lines of the slots that are executed once a record follows this log
unfoldable pub executions : ℕ → Log → MpRec → List MpLine
executions me log rec = exec_lines me (executed log) (drop (length (executed log)) (executed (rec ∷ log)))

-- the line of a record that is kept behind this log, but for an accept of a client's command
unfoldable pub line_of : ℕ → Log → MpRec → MpLine
line_of me log MpRec.Boot = MpLine.Boot me (boots log + 1)
line_of me log (MpRec.Promise b) = MpLine.Promise me b.round b.by
line_of me log (MpRec.Accept slot b v) = MpLine.Accept me slot b.round b.by
line_of me log (MpRec.Choose slot v) = MpLine.Choose me slot

-- ---- the single things that a step does

-- adds a record, with this line
unfoldable pub keep_as : MpLine → MpRec → Draft → Draft
keep_as line rec x =
    let r = x.replica in
    record x {
      replica = record r { log = rec ∷ r.log; note = note_after rec r.note };
      batch = x.batch ++ rec ∷ [];
      lines = x.lines ++ line ∷ executions r.me r.log rec;
    }

-- keeps a record
unfoldable pub keep : MpRec → Draft → Draft
keep rec x = keep_as (line_of x.replica.me x.replica.log rec) rec x

-- sends a message to a replica
unfoldable pub send : MpMessage → Draft → ℕ → Draft
send m x k = record x { sends = x.sends ++ (k, m) ∷ [] }

-- sends it to each of these
unfoldable pub send_to_each : List ℕ → MpMessage → Draft → Draft
send_to_each ks m x = fold (send m) x ks

-- sends it to each other replica
unfoldable pub send_to_others : MpMessage → Draft → Draft
send_to_others m x = send_to_each (others x.replica) m x

-- replies to a client
unfoldable pub reply : MpLine → Draft → Draft
reply line x = record x { replies = x.replies ++ line ∷ [] }

-- changes the stage of the replica
unfoldable pub noting : Note → Draft → Draft
noting note x = record x { replica = record x.replica { note = note } }

-- counts the vote of replica k at a slot
unfoldable pub count_vote : ℕ → ℕ → Draft → Draft
count_vote slot k x = noting (with_vote slot k x.replica.note) x

-- the client waits for its command at this slot
unfoldable pub await : ℕ → Command → Draft → Draft
await slot c x =
    record x { replica = record x.replica { waiting = x.replica.waiting ++ record { slot = slot; command = c } ∷ [] } }
