-- The output of a step while it runs, in memory.
use Rattle.std.specs.Prelude.{◌≡◌, ◌≤◌, ◌++◌, ℕ, List, [], Some, drop, length, map, take}
use Rattle.std.specs.List.{AllByRecursion}
use Rattle.crsm_mpspec.specs.declared.batch.MpBatch.{MpBatch}
use Rattle.crsm_mpspec.specs.declared.line.MpLine.{MpLine}
use Rattle.crsm_mpspec.specs.declared.message.MpMessage.{MpMessage}
use Rattle.crsm_mpspec.specs.declared.rec.MpRec.{MpRec}
use Rattle.crsm_mpspec.specs.declared.send.MpSend.{MpSend}
use Rattle.crsm_mpspec.specs.Draft.{Draft, exec_lines, keep_as}
use Rattle.crsm_mpspec.specs.Log.{Log, executed}
use Rattle.crsm_mpspec.specs.Types.{Ballot, Command}
use Rattle.crsm_mpledger.specs.declared.ledger.MpLedger.{MpLedger}
use Rattle.crsm_mpledger.specs.MpLedger.{MpLedgerStands, first_kept}
use Rattle.crsm_mpspec.specs.Records.{FitsRec}
use Rattle.crsm_mpreplica.specs.declared.made.StepOutput.{StepOutput}
use Rattle.crsm_mpreplica.specs.Fitting.{FitsMessage}

-- a message to a replica
unfoldable pub to_send : ℕ × MpMessage → MpSend
to_send s = record { to = s.0; message = s.1 }

abbrev pub FitsSent : ℕ × MpMessage → Type 0
FitsSent s = FitsMessage s.1

-- The part of a draft that the step has made: all but the replica.
pub record Outcome : Type 0 where
  pub batch : List MpRec
  pub lines : List MpLine
  pub sends : List (ℕ × MpMessage)
  pub replies : List MpLine

abbrev pub nothing : Outcome
nothing = record { batch = []; lines = []; sends = []; replies = [] }

abbrev pub outcome_of : Draft → Outcome
outcome_of x = record { batch = x.batch; lines = x.lines; sends = x.sends; replies = x.replies }

-- The step has made this, and each record and message of it fits.
pub record MadeStands (made : StepOutput) (o : Outcome) : Type 0 where
  pub records : made.batch.records ≡ o.batch
  pub lines : made.batch.lines ≡ o.lines
  pub sends : made.batch.sends ≡ map to_send o.sends
  pub replies : made.batch.replies ≡ o.replies
  pub records_fit : AllByRecursion FitsRec o.batch
  pub sends_fit : AllByRecursion FitsSent o.sends

-- The batch is what was made, and each record and message of it fits.
pub record Answers (batch : MpBatch) (o : Outcome) : Type 0 where
  pub records : batch.records ≡ o.batch
  pub sends : batch.sends ≡ map to_send o.sends
  pub lines : batch.lines ≡ o.lines
  pub replies : batch.replies ≡ o.replies
  pub records_fit : AllByRecursion FitsRec o.batch
  pub sends_fit : AllByRecursion FitsSent o.sends

-- the lines of the slots that are executed from this one on follow those made before
abbrev pub TellsExecuted : (me first : ℕ) → MpLedger → (old new : StepOutput) → Type 0
TellsExecuted me first ledger old new =
    (log : Log) (o : Outcome) → MpLedgerStands ledger log → first_kept ledger ≤ first → first ≤ length (executed log) → MadeStands old o →
    MadeStands new (record o { lines = o.lines ++ exec_lines me (take first (executed log)) (drop first (executed log)) })

-- the draft that accepts a client's command
abbrev pub submitted : ℕ → Ballot → Command → Draft → Draft
submitted slot b d x = keep_as (MpLine.Submit x.replica.me slot b.round b.by d.client d.number) (MpRec.Accept slot b (Some d)) x
