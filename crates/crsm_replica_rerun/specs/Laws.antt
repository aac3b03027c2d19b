-- The statements of the laws about the replay of a sheet.
use Rattle.std.specs.Prelude.{◌≡◌, ℕ, List, []}
use Rattle.crsm_spec.specs.Log.{Log}
use Rattle.crsm_ledger.specs.Recovered.{AreKept, IsBadAt}
use Rattle.crsm_text_sheet.specs.declared.line.SheetLine.{SheetLine}
use Rattle.crsm_replica_rerun.specs.Texts.{IsNodeText}

-- the lines of a sheet of replica me, in a cluster that began with n, are replayed to one text
abbrev pub SheetsHaveOneText : Type 0
SheetsHaveOneText =
    (me n first : ℕ) (lines : List SheetLine) (a b : List ℕ) → IsNodeText me n first lines a → IsNodeText me n first lines b → a ≡ b

-- no body is bad of those that a log is kept in
abbrev pub KeptAreNotBad : Type 0
KeptAreNotBad = (me n : ℕ) (bodies : List (List ℕ)) (log : Log) (entry why : ℕ) → AreKept me n [] bodies log → IsBadAt me n bodies entry why → ⊥

-- one body is the first bad one, for one reason
abbrev pub BadLogsAreOne : Type 0
BadLogsAreOne = (me n : ℕ) (bodies : List (List ℕ)) (e f w v : ℕ) → IsBadAt me n bodies e w → IsBadAt me n bodies f v → (e ≡ f) × (w ≡ v)
