-- The effect of a line, and of the end, on an audit.
use Rattle.std.specs.Prelude.{◌≡◌, ℕ, List, [], ◌∷◌, ◌++◌, Option, None, Some}
use Rattle.crsm_law_sheets.specs.Sheets.{Sheet as NodeSaid}
use Rattle.crsm_replica_rerun.specs.declared.error.RerunError.{RerunError}
use Rattle.crsm_replica_rerun.specs.declared.error.RerunError.TheVariants as errors
use Rattle.crsm_text_sheet.specs.declared.line.SheetLine.{SheetLine}
use Rattle.crsm_text_sheet.specs.declared.line.SheetLine.TheVariants.{Open}
use Rattle.crsm_audit.specs.Accounts.{AccountsStand}
use Rattle.crsm_audit.specs.declared.account.Account.{Account}
use Rattle.crsm_audit.specs.Lines.{BeginAnAudit, IsAnAudit, progress_after}
use Rattle.crsm_audit.specs.State.{progress_at}
use Rattle.crsm_audit.specs.Sheets.{AreSheetsOf, HoldBadLog, IsAudited, sheets_in}
use Rattle.crsm_audit.specs.declared.state.BadLog.{BadLog}
use Rattle.crsm_audit.specs.declared.state.Sheets.{Sheets}
use Rattle.crsm_audit.specs.declared.state.Stage.{Stage}
use Rattle.crsm_audit.specs.declared.state.Stage.TheVariants as stages
use Rattle.crsm_audit.specs.declared.line.AuditLine.{AuditLine}
use Rattle.crsm_audit.specs.declared.line.AuditLine.TheVariants.{Node, Sheet}
use Rattle.crsm_audit.specs.declared.line.Progress.TheVariants.{Before, Finding, Running}

-- the lines are those of sheets, whose accounts these are, and a sheet may begin behind them
pub record AllDone (n : ℕ) (accounts : List Account) (ls : List AuditLine) : Type 0 where
  pub sheets : List NodeSaid
  pub are : AreSheetsOf n (sheets_in ls) sheets
  pub stand : AccountsStand n accounts sheets
  pub next : (me : ℕ) → progress_after Before (ls ++ Node me ∷ []) ≡ Some Finding

-- Why a line of the current sheet is not replayed behind these: no audit begins with them and the line, or the log that
-- the sheet found is bad, or memory ran out.
abbrev pub Refuses : ℕ → List AuditLine → Sheets → SheetLine → RerunError → Type 0
Refuses n ls old line errors.Misplaced = BeginAnAudit (ls ++ Sheet line ∷ []) → ⊥
Refuses n ls old line (errors.BadLog entry why) =
    (line ≡ Open) × (progress_at old.rerun.stage ≡ Finding) × HoldBadLog n (ls ++ Sheet line ∷ []) entry why
Refuses n ls old line errors.NoMemory = Unit {0}

-- the stage behind a line: the sheets go on, or the log of the current one is bad
abbrev pub stage_after : Sheets → Option BadLog → Stage
stage_after now None = stages.Replaying now
stage_after now (Some bad) = stages.Refusing bad Running

-- the lines are an audit, and the text that was added is that of what they come to
pub record EndsWith (n : ℕ) (ls : List AuditLine) (before after : List ℕ) : Type 0 where
  pub text : List ℕ
  pub added : after ≡ before ++ text
  pub whole : IsAnAudit ls
  pub audited : IsAudited n ls text
