-- What a replay in memory stands for.
use Rattle.std.specs.Prelude.{◌≡◌, ℕ, ◌+◌, List, [], ◌∷◌, ◌++◌, length}
use Rattle.crsm_base.specs.declared.Line.{Line}
use Rattle.crsm_fact_log.specs.Logs.{AllFit, AreSpelt}
use Rattle.crsm_spec.specs.Draft.{Draft}
use Rattle.crsm_spec.specs.Log.{Log}
use Rattle.crsm_spec.specs.Node.{Turn}
use Rattle.crsm_ledger.specs.declared.ledger.Ledger.{Ledger}
use Rattle.crsm_ledger.specs.Ledger.{LedgerStands}
use Rattle.crsm_replica_output.specs.declared.batch.Batch.{Batch}
use Rattle.crsm_schedule.specs.Transcript.{line_text}
use Rattle.crsm_text_sheet.specs.declared.line.SheetLine.{SheetLine}
use Rattle.crsm_text_sheet.specs.Sheets.{sheet_of}
use Rattle.crsm_replica_rerun.specs.declared.rerun.Rerun.{Rerun}
use Rattle.crsm_replica_rerun.specs.Sheets.{IsSheet, LeadTo, replica_of, steps_of}
use Rattle.crsm_replica_rerun.specs.Stages.{AnswersAll, IsOpen, IsOpenBehind, Leads, StageStands}
use Rattle.crsm_replica_rerun.specs.Texts.{IsNodeText, ending_of, shown_text}

-- The replay is that of a sheet of replica me, in a cluster that began with n. These lines of the sheet were read, the
-- first with the number `first`, and they have led to these steps.
pub record RerunStands (me n first : ℕ) (rerun : Rerun) (lines : List SheetLine) (steps : List Draft) : Type 0 where
  pub is_me : rerun.me ≡ me
  pub began : rerun.n ≡ n
  pub next : rerun.next ≡ first + length lines
  pub stage : StageStands me n rerun.stage lines steps
  pub leads : LeadTo me n lines steps

-- for each prefix of a sheet that the replay stands for
abbrev pub WhereStands : Rerun → ((me n first : ℕ) → List SheetLine → List Draft → Type 0) → Type 0
WhereStands rerun P = (me n first : ℕ) (lines : List SheetLine) (steps : List Draft) → RerunStands me n first rerun lines steps → P me n first lines steps

-- the number of the next line
abbrev pub next_of : Rerun → ℕ
next_of rerun = rerun.next

-- the log was opened
abbrev pub HasOpened : Rerun → Type 0
HasOpened rerun = IsOpen rerun.stage

-- ---- a line

-- it is open behind each line but a body
abbrev pub OpenedBehind : SheetLine → Rerun → Type 0
OpenedBehind line rerun = IsOpenBehind line rerun.stage

-- the line may stand behind those that were read, and leads from the old replay to the new one
abbrev pub LeadsTo : Rerun → SheetLine → Rerun → Type 0
LeadsTo old line new = Leads old.stage line new.stage

-- The line leads to these further steps, which the batch answers.
pub record Advances (me n first : ℕ) (new : Rerun) (lines : List SheetLine) (steps : List Draft) (line : SheetLine) (batch : Batch) : Type 0 where
  pub more : List Draft
  pub answers : AnswersAll batch more
  pub stands : RerunStands me n first new (lines ++ line ∷ []) (steps ++ more)

-- The same, and the text that was added is that of these steps.
pub record AddsText (me n first : ℕ) (new : Rerun) (lines : List SheetLine) (steps : List Draft) (line : SheetLine) (before after : List ℕ) : Type 0 where
  pub more : List Draft
  pub stands : RerunStands me n first new (lines ++ line ∷ []) (steps ++ more)
  pub text : List ℕ
  pub added : after ≡ before ++ text
  pub shows : shown_text first (lines ++ line ∷ []) (steps ++ more) ≡ shown_text first lines steps ++ text

-- ---- the end

-- the lines are no sheet, on whatever log
abbrev pub IsNoSheet : List SheetLine → Type 0
IsNoSheet lines = (bodies : List (List ℕ)) (turns : List (Turn × ℕ)) → lines ≡ sheet_of bodies turns → ⊥

-- The lines are a sheet, and this is its final line: behind the text of the steps it ends the text of the sheet.
pub record Ends (me n first : ℕ) (lines : List SheetLine) (steps : List Draft) (line : Line) : Type 0 where
  pub sheet : IsSheet me n lines
  pub are : steps ≡ steps_of sheet
  pub is : line ≡ ending_of sheet
  pub text : IsNodeText me n first lines (shown_text first lines steps ++ line_text 0 line)

-- ---- the log

-- the ledger is the state of the log of some replica
pub record IsOfSome (ledger : Ledger) : Type 0 where
  pub me : ℕ
  pub n : ℕ
  pub log : Log
  pub says : LedgerStands me n ledger log

-- The lines are a sheet, these are its steps, and the ledger is the state of its log, each record of which fits and has
-- an encoding.
pub record SaysLog (me n : ℕ) (lines : List SheetLine) (steps : List Draft) (ledger : Ledger) : Type 0 where
  pub sheet : IsSheet me n lines
  pub are : steps ≡ steps_of sheet
  pub says : LedgerStands (replica_of sheet).me (replica_of sheet).n ledger (replica_of sheet).log
  pub fit : AllFit (replica_of sheet).me (replica_of sheet).n (replica_of sheet).log
  pub spelt : AreSpelt (replica_of sheet).log
