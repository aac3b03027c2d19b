-- The effect of a line on a replica in memory.
use Rattle.std.specs.Prelude.{◌≡◌, ℕ, List, [], ◌∷◌, ◌++◌, map, Result, MatchResult, IfOk}
use Rattle.std.specs.List.{AllByRecursion}
use Rattle.crsm_base.specs.declared.NoMemory.{NoMemory}
use Rattle.crsm_base.specs.Records.{FitsRec}
use Rattle.crsm_spec.specs.Log.{Log}
use Rattle.crsm_spec.specs.Replica.{Replica}
use Rattle.crsm_spec.specs.Draft.{Draft}
use Rattle.crsm_spec.specs.Step.{boot}
use Rattle.crsm_spec.specs.Node.{Turn, turn}
use Rattle.crsm_replica_output.specs.declared.batch.Batch.{Batch}
use Rattle.crsm_core.specs.declared.replica.Core.{Core}
use Rattle.crsm_core.specs.Core.{Answers, CoreStands, FitsSent}
use Rattle.crsm_text_sheet.specs.declared.line.SheetLine.{SheetLine}
use Rattle.crsm_text_sheet.specs.declared.line.SheetLine.TheVariants.{Entry, In, Open, Suspect, Tick}
use Rattle.crsm_text_sheet.specs.Sheets.{entry_line}
use Rattle.crsm_replica_rerun.specs.declared.error.RerunError.{RerunError}
use Rattle.crsm_replica_rerun.specs.declared.error.RerunError.TheVariants as errors
use Rattle.crsm_replica_rerun.specs.declared.stage.SheetStage.{SheetStage}
use Rattle.crsm_replica_rerun.specs.declared.stage.SheetStage.TheVariants as stages
use Rattle.crsm_replica_rerun.specs.Sheets.{BeginASheet, HoldBadLog, IsSheet, replica_of, steps_of}

-- ---- cores

-- the core stands for some replica
pub record IsOfOne (core : Core) : Type 0 where
  pub replica : Replica
  pub stands : CoreStands core replica

-- the core has booted on this log, and the batch is what the boot made
pub record BootsOn (me n : ℕ) (log : Log) (core : Core) (batch : Batch) : Type 0 where
  pub answers : Answers batch (boot me n log)
  pub stands : CoreStands core (boot me n log).replica

-- Whatever replica the old core stood for, the batch is the step of the turn, and the new core stands for what the turn
-- leaves; or memory ran out.
abbrev pub TakesTurn : Core → Turn × ℕ → Result Batch NoMemory → Core → Type 0
TakesTurn old t result new =
    IfOk result (λ batch. (r : Replica) → CoreStands old r → Answers batch (turn r t) × CoreStands new (turn r t).replica)

-- ---- what a line leads to

-- each record and each datagram of the batch has an encoding
abbrev pub IsSpelt : Batch → Type 0
IsSpelt batch = AllByRecursion FitsRec batch.records × AllByRecursion FitsSent batch.sends

-- the batch is nothing
pub record IsNothing (batch : Batch) : Type 0 where
  pub records : batch.records ≡ []
  pub sends : batch.sends ≡ []
  pub lines : batch.lines ≡ []

-- the batch is what the step has made, or nothing where there is none
abbrev pub AnswersAll : Batch → List Draft → Type 0
AnswersAll batch [] = IsNothing batch
AnswersAll batch (x ∷ []) = Answers batch x
AnswersAll batch (x ∷ y ∷ xs) = ⊥

-- Why a line is refused: no sheet begins so, or the log that was found is bad, or memory ran out.
abbrev pub IsRefusal : (me n : ℕ) → List SheetLine → SheetLine → RerunError → Type 0
IsRefusal me n lines line errors.Misplaced = BeginASheet (lines ++ line ∷ []) → ⊥
IsRefusal me n lines line (errors.BadLog entry why) = (line ≡ Open) × HoldBadLog me n lines entry why
IsRefusal me n lines line errors.NoMemory = Unit {0}

-- the error names a body and says this of it and of the reason, or memory ran out
abbrev pub IfBadLog : RerunError → (ℕ → ℕ → Type 0) → Type 0
IfBadLog (errors.BadLog entry why) P = P entry why
IfBadLog errors.Misplaced P = ⊥
IfBadLog errors.NoMemory P = Unit {0}

-- ---- stages

-- the core of a replica with this sheet, after these steps
pub record Runs (me n : ℕ) (core : Core) (lines : List SheetLine) (steps : List Draft) : Type 0 where
  pub sheet : IsSheet me n lines
  pub are : steps ≡ steps_of sheet
  pub stands : CoreStands core (replica_of sheet)

-- the stage is that behind these lines, which have led to these steps
abbrev pub StageStands : (me n : ℕ) → SheetStage → List SheetLine → List Draft → Type 0
StageStands me n (stages.Finding bodies) lines steps = (lines ≡ map entry_line bodies) × (steps ≡ [])
StageStands me n (stages.Running core) lines steps = Runs me n core.value lines steps
StageStands me n stages.Spent lines steps = ⊥

-- a core that runs stands for some replica
abbrev pub IsSound : SheetStage → Type 0
IsSound (stages.Running core) = IsOfOne core.value
IsSound _ = Unit {0}

-- the log was opened, and memory did not run out since
abbrev pub IsOpen : SheetStage → Type 0
IsOpen (stages.Running core) = Unit {0}
IsOpen _ = ⊥

-- a line that is no body leads there
abbrev pub LeadsOn : SheetStage → SheetLine → Type 0
LeadsOn (stages.Finding bodies) Open = Unit {0}
LeadsOn (stages.Running core) (In reading address bytes) = Unit {0}
LeadsOn (stages.Running core) (Tick reading) = Unit {0}
LeadsOn (stages.Running core) (Suspect reading members) = Unit {0}
LeadsOn _ _ = ⊥

-- the line may stand where the sheet is at the old stage, and leads it to the new one
abbrev pub Leads : SheetStage → SheetLine → SheetStage → Type 0
Leads (stages.Finding bodies) (Entry bytes) (stages.Finding more) = Unit {0}
Leads old line (stages.Running core) = LeadsOn old line
Leads _ _ _ = ⊥

-- it is open behind each line but a body
abbrev pub IsOpenBehind : SheetLine → SheetStage → Type 0
IsOpenBehind (Entry bytes) stage = Unit {0}
IsOpenBehind _ stage = IsOpen stage

-- The line leads from the old stage to the new one, with these further steps, which the batch answers.
pub record StageAdvances (me n : ℕ) (new : SheetStage) (lines : List SheetLine) (steps : List Draft) (line : SheetLine) (batch : Batch) : Type 0 where
  pub more : List Draft
  pub answers : AnswersAll batch more
  pub stands : StageStands me n new (lines ++ line ∷ []) (steps ++ more)

-- Whatever lines the old stage stands for, the line advances it or is refused.
abbrev pub TakesLine : (me n : ℕ) → SheetStage → SheetLine → Result Batch RerunError → SheetStage → Type 0
TakesLine me n old line result new =
    (lines : List SheetLine) (steps : List Draft) → StageStands me n old lines steps →
    MatchResult result (StageAdvances me n new lines steps line) (IsRefusal me n lines line)
