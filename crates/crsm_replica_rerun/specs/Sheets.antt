-- What the lines of a sheet lead to: the steps of a replica, on definitions alone.
use Rattle.std.specs.Prelude.{◌≡◌, ◌⊎◌, ℕ, List, [], ◌∷◌, ◌++◌, map}
use Rattle.crsm_spec.specs.Log.{Log}
use Rattle.crsm_spec.specs.Replica.{Replica}
use Rattle.crsm_spec.specs.Draft.{Draft}
use Rattle.crsm_spec.specs.Step.{boot}
use Rattle.crsm_spec.specs.Node.{Turn, turn, outputs}
use Rattle.crsm_ledger.specs.Recovered.{AreKept, IsBadAt}
use Rattle.crsm_text_sheet.specs.declared.line.SheetLine.{SheetLine}
use Rattle.crsm_text_sheet.specs.Sheets.{entry_line, sheet_of}

-- the lines are those of bodies alone
pub record AreBodies (lines : List SheetLine) : Type 0 where
  pub bodies : List (List ℕ)
  pub is : lines ≡ map entry_line bodies

-- The lines are a sheet of replica me, in a cluster that began with n: of these turns, on the log that was found.
pub record IsSheet (me n : ℕ) (lines : List SheetLine) : Type 0 where
  pub bodies : List (List ℕ)
  pub turns : List (Turn × ℕ)
  pub log : Log
  pub is : lines ≡ sheet_of bodies turns
  pub kept : AreKept me n [] bodies log

-- the steps that a sheet leads to: the boot, and one for each turn
abbrev pub steps_of : {me n : ℕ} {lines : List SheetLine} → IsSheet me n lines → List Draft
steps_of {me} {n} sheet = outputs me n sheet.log sheet.turns

-- the replica that turns leave
unfoldable pub replica_after : Replica → List (Turn × ℕ) → Replica
replica_after r [] = r
replica_after r (t ∷ ts) = replica_after (turn r t).replica ts

-- the replica that a sheet leaves
abbrev pub replica_of : {me n : ℕ} {lines : List SheetLine} → IsSheet me n lines → Replica
replica_of {me} {n} sheet = replica_after (boot me n sheet.log).replica sheet.turns

-- the lines are a sheet, and these are its steps
pub record Replays (me n : ℕ) (lines : List SheetLine) (steps : List Draft) : Type 0 where
  pub sheet : IsSheet me n lines
  pub are : steps ≡ steps_of sheet

-- Lines lead to steps: bodies alone to none, a sheet to its own.
abbrev pub LeadTo : (me n : ℕ) → List SheetLine → List Draft → Type 0
LeadTo me n lines steps = (AreBodies lines × (steps ≡ [])) ⊎ Replays me n lines steps

-- some sheet begins with these lines
pub record BeginASheet (lines : List SheetLine) : Type 0 where
  pub bodies : List (List ℕ)
  pub turns : List (Turn × ℕ)
  pub more : List SheetLine
  pub is : lines ++ more ≡ sheet_of bodies turns

-- the lines are bodies, and of these the one of this number is the first bad one
pub record HoldBadLog (me n : ℕ) (lines : List SheetLine) (entry why : ℕ) : Type 0 where
  pub are : AreBodies lines
  pub bad : IsBadAt me n are.bodies entry why
