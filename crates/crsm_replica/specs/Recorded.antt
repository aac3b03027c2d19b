-- The effect of a record on the ledger and on the output.
use Rattle.std.specs.Prelude.{◌≡◌, ℕ, Bool, true, false, List, ◌∷◌, [], ◌++◌, Option, None, Some}
use Rattle.crsm_ledger.specs.declared.ledger.Ledger.{Ledger}
use Rattle.crsm_ledger.specs.Ledger.{LedgerStands}
use Rattle.crsm_replica_output.specs.declared.output.Output.{Output}
use Rattle.crsm_replica_output.specs.Made.{Made, OutputStands}
use Rattle.crsm_spec.specs.Types.{Rec, Line}
use Rattle.crsm_spec.specs.Fits.{fits}
use Rattle.crsm_spec.specs.Lines.{lines_of}
use Rattle.crsm_spec.specs.Log.{Log}

-- the record is in both
pub record InBoth (me n : ℕ) (log : Log) (rec : Rec) (m : Made) (ledger : Ledger) (output : Output) : Type 0 where
  pub says : LedgerStands me n ledger (rec ∷ log)
  pub holds : OutputStands output (record m { batch = m.batch ++ rec ∷ []; lines = m.lines ++ lines_of me log rec })

-- where it fits it is in both, and otherwise in neither
abbrev pub Recorded : Bool → ℕ → ℕ → Log → Rec → Made → Ledger → Output → Type 0
Recorded true me n log rec m ledger output = InBoth me n log rec m ledger output
Recorded false me n log rec m ledger output = LedgerStands me n ledger log × OutputStands output m

-- where it fits the ledger has it and these are its lines, and otherwise the ledger is that of the log before
abbrev pub Applied : Option (List Line) → ℕ → ℕ → Log → Rec → Ledger → Type 0
Applied (Some lines) me n log rec ledger = (fits me n log rec ≡ true) × (lines ≡ lines_of me log rec) × LedgerStands me n ledger (rec ∷ log)
Applied None me n log rec ledger = (fits me n log rec ≡ false) × LedgerStands me n ledger log

-- for each log that the ledger stands for, and what the output has
abbrev pub WhereBothStand : Ledger → Output → (ℕ → ℕ → Log → Made → Type 0) → Type 0
WhereBothStand ledger output P = (me n : ℕ) (log : Log) (m : Made) → LedgerStands me n ledger log → OutputStands output m → P me n log m
