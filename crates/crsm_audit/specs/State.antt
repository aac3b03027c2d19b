-- What an audit in memory stands for.
use Rattle.std.specs.Prelude.{◌≡◌, ℕ, ◌+◌, ◌-◌, List, [], ◌∷◌, ◌++◌, Some, length, map}
use Rattle.crsm_ledger.specs.Recovered.{AreKept}
use Rattle.crsm_law_sheets.specs.Sheets.{Sheet, log_after}
use Rattle.crsm_fact_log.specs.Logs.{AllFit, AreSpelt}
use Rattle.crsm_replica_rerun.specs.declared.rerun.Rerun.{Rerun}
use Rattle.crsm_replica_rerun.specs.declared.stage.SheetStage.{SheetStage}
use Rattle.crsm_replica_rerun.specs.declared.stage.SheetStage.TheVariants as sheet_stages
use Rattle.crsm_replica_rerun.specs.Replaying.{RerunStands}
use Rattle.crsm_text_sheet.specs.declared.line.SheetLine.{SheetLine}
use Rattle.crsm_text_sheet.specs.Sheets.{entry_line}
use Rattle.crsm_spec.specs.Draft.{Draft}
use Rattle.crsm_spec.specs.Log.{Log, executed}
use Rattle.crsm_audit.specs.Accounts.{AccountsStand, dropped_from, own_logged, spelt}
use Rattle.crsm_audit.specs.declared.account.Account.{Account}
use Rattle.crsm_audit.specs.Sheets.{AreSheetsOf, HoldBadLog, sheets_in}
use Rattle.crsm_audit.specs.Lines.{progress_after}
use Rattle.crsm_audit.specs.declared.state.Sheets.{Sheets}
use Rattle.crsm_audit.specs.declared.state.Stage.{Stage}
use Rattle.crsm_audit.specs.declared.state.Stage.TheVariants as stages
use Rattle.crsm_audit.specs.declared.line.AuditLine.{AuditLine}
use Rattle.crsm_audit.specs.declared.line.AuditLine.TheVariants as lines
use Rattle.crsm_audit.specs.declared.line.Progress.{Progress}
use Rattle.crsm_audit.specs.declared.line.Progress.TheVariants.{Before, Finding, Running}

-- ---- one sheet

-- The account of node me has the own entries of whatever log these bodies hold, and no more.
pub record FoundAccount (me n : ℕ) (bodies : List (List ℕ)) (a : Account) : Type 0 where
  pub me_is : a.me ≡ me
  pub list : a.entries.list ≡ []
  pub held : (log : Log) → AreKept me n [] bodies log → a.entries.held ≡ spelt (own_logged me log)
  pub dropped : a.dropped.items ≡ []

-- the log that steps leave
abbrev pub left_by : List Draft → Log
left_by steps = log_after [] steps

-- The account of node me has the entries and replies of these steps, of which the first is on the line with this
-- number.
pub record StepsAccount (me n opened : ℕ) (steps : List Draft) (a : Account) : Type 0 where
  pub me_is : a.me ≡ me
  pub list : a.entries.list ≡ spelt (executed (left_by steps))
  pub held : a.entries.held ≡ spelt (own_logged me (left_by steps))
  pub dropped : a.dropped.items ≡ dropped_from opened steps
  pub fit : AllFit me n (left_by steps)
  pub are_spelt : AreSpelt (left_by steps)

-- before `open`, and behind it
abbrev pub AccountOf : (me n first : ℕ) → List SheetLine → List Draft → Account → Type 0
AccountOf me n first own [] a = (bodies : List (List ℕ)) → own ≡ map entry_line bodies → FoundAccount me n bodies a
AccountOf me n first own (x ∷ xs) a = StepsAccount me n (first + (length own - length (x ∷ xs))) (x ∷ xs) a

-- The replay and the account are those of the sheet of node me, of which these lines were read and have led to these
-- steps.
pub record SheetStands (me n first : ℕ) (rerun : Rerun) (a : Account) (own : List SheetLine) (steps : List Draft) : Type 0 where
  pub replayed : RerunStands me n first rerun own steps
  pub account : AccountOf me n first own steps a

-- for each sheet that they are those of
abbrev pub WhereSheetStands : Rerun → Account → ((me n first : ℕ) → List SheetLine → List Draft → Type 0) → Type 0
WhereSheetStands rerun a P = (me n first : ℕ) (own : List SheetLine) (steps : List Draft) → SheetStands me n first rerun a own steps → P me n first own steps

-- the same with the line, which has led to these further steps
pub record SheetAdvances (me n first : ℕ) (rerun : Rerun) (a : Account) (own : List SheetLine) (steps : List Draft) (line : SheetLine) : Type 0 where
  pub more : List Draft
  pub stands : SheetStands me n first rerun a (own ++ line ∷ []) (steps ++ more)

-- ---- all sheets

-- The lines are those of sheets with these accounts, followed by those of the current sheet.
pub record AtHand (n : ℕ) (now : Sheets) (ls : List AuditLine) : Type 0 where
  pub before : List AuditLine
  pub sheets : List Sheet
  pub are : AreSheetsOf n (sheets_in before) sheets
  pub done : List Account
  pub stand : AccountsStand n done sheets
  pub me : ℕ
  pub own : List SheetLine
  pub lines_are : ls ≡ before ++ lines.Node me ∷ map lines.Sheet own
  pub account : Account
  pub accounts_are : now.accounts.items ≡ done ++ account ∷ []
  pub steps : List Draft
  pub stands : SheetStands me n (length before + 2) now.rerun account own steps

-- for the lines of which the current sheet is one
abbrev pub WhereAtHand : Sheets → (ℕ → List AuditLine → Type 0) → Type 0
WhereAtHand now P = (n : ℕ) (ls : List AuditLine) → AtHand n now ls → P n ls

-- the progress of the current sheet
abbrev pub progress_at : SheetStage → Progress
progress_at (sheet_stages.Finding bodies) = Finding
progress_at _ = Running

abbrev pub progress_of : Stage → Progress
progress_of stages.Before = Before
progress_of (stages.Replaying now) = progress_at now.rerun.stage
progress_of (stages.Refusing bad progress) = progress

-- the known facts of the lines: all sheets are replayed, or one has a bad log
abbrev pub IsKnown : ℕ → Stage → List AuditLine → Type 0
IsKnown n stages.Before ls = ls ≡ []
IsKnown n (stages.Replaying now) ls = AtHand n now ls
IsKnown n (stages.Refusing bad progress) ls = HoldBadLog n ls bad.entry bad.why

-- the stage is that behind these lines
pub record StageStands (n : ℕ) (stage : Stage) (ls : List AuditLine) : Type 0 where
  pub leads : progress_after Before ls ≡ Some (progress_of stage)
  pub known : IsKnown n stage ls
