-- The effect of an audit on the lines of an input.
use Rattle.std.specs.Prelude.{◌≡◌, List, [], ◌∷◌, ◌++◌, ℕ, map}
use Rattle.std.specs.List.{AllByRecursion}
use Rattle.crsm_port_lines.specs.Handling.{Handling, Text}
use Rattle.crsm_port_lines.specs.declared.Stop.{Stop}
use Rattle.crsm_cmd_replay_node.specs.declared.cause.SheetCause.{SheetCause}
use Rattle.crsm_audit.specs.Lines.{BeginAnAudit, FitsLine, IsAnAudit, line_text}
use Rattle.crsm_audit.specs.Sheets.{HoldBadLog, IsAudited}
use Rattle.crsm_audit.specs.State.{StageStands}
use Rattle.crsm_audit.specs.declared.state.Audit.{Audit}
use Rattle.crsm_audit.specs.declared.line.AuditLine.{AuditLine}

-- the texts are those of lines with which an audit begins
pub record Spells (texts : List Text) : Type 0 where
  pub lines : List AuditLine
  pub fit : AllByRecursion FitsLine lines
  pub are : texts ≡ map line_text lines
  pub begin : BeginAnAudit lines

-- the audit stands for these lines
abbrev pub StandsBehind : Audit → List AuditLine → Type 0
StandsBehind audit ls = StageStands audit.n audit.stage ls

-- it has handled the texts, and nothing is written before the end
pub record HasHandled (n : ℕ) (audit : Audit) (texts : List Text) (shown : Text) : Type 0 where
  pub spells : Spells texts
  pub none : shown ≡ []
  pub n_is : audit.n ≡ n
  pub stands : StandsBehind audit spells.lines

-- no audit continues with this line
abbrev pub NoAuditGoesOn : List AuditLine → Text → Type 0
NoAuditGoesOn ls text = (line : AuditLine) → FitsLine line → text ≡ line_text line → BeginAnAudit (ls ++ line ∷ []) → ⊥

pub record IsRefused (texts : List Text) (cause : SheetCause) (text : Text) : Type 0 where
  pub spells : Spells texts
  pub unreadable : cause ≡ SheetCause.Unreadable
  pub none : NoAuditGoesOn spells.lines text

-- the lines are an audit, and the text of the end is that of the verdict
pub record Ends (n : ℕ) (texts : List Text) (last : Text) : Type 0 where
  pub spells : Spells texts
  pub whole : IsAnAudit spells.lines
  pub audited : IsAudited n spells.lines last

-- why an input may not end behind these lines: they are no audit yet, or a sheet of it holds a bad log
abbrev pub MayNotEnd : ℕ → List AuditLine → SheetCause → Type 0
MayNotEnd n ls SheetCause.Unreadable = IsAnAudit ls → ⊥
MayNotEnd n ls (SheetCause.BadLog entry why) = IsAnAudit ls × HoldBadLog n ls entry why

pub record IsNoEnd (n : ℕ) (texts : List Text) (cause : SheetCause) : Type 0 where
  pub spells : Spells texts
  pub why : MayNotEnd n spells.lines cause

abbrev pub audited : ℕ → Handling Audit SheetCause
audited n = record {
  after = HasHandled n;
  refuses = λ texts shown cause text. IsRefused texts cause text;
  ends = λ texts shown last. Ends n texts last;
  refuses_end = λ texts shown cause. IsNoEnd n texts cause;
}

-- ---- a line that is not taken

-- behind these lines the line is no audit's, or memory ran out
abbrev pub StopsLine : List AuditLine → AuditLine → Stop SheetCause → Type 0
StopsLine ls line (Stop.Refused cause) = (cause ≡ SheetCause.Unreadable) × (BeginAnAudit (ls ++ line ∷ []) → ⊥)
StopsLine ls line Stop.NoMemory = Unit {0}

-- the text is not a line of an audit, or memory ran out
abbrev pub StopsUnread : Stop SheetCause → Text → Type 0
StopsUnread (Stop.Refused cause) text = (cause ≡ SheetCause.Unreadable) × ((line : AuditLine) → FitsLine line → text ≡ line_text line → ⊥)
StopsUnread Stop.NoMemory text = Unit {0}

-- at the end: why the lines may not end, or memory ran out
abbrev pub StopsEnd : ℕ → List AuditLine → Stop SheetCause → Type 0
StopsEnd n ls (Stop.Refused cause) = MayNotEnd n ls cause
StopsEnd n ls Stop.NoMemory = Unit {0}
