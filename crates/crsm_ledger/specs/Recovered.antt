-- The log in bodies, and the first fault of bodies that are not a log.
use Rattle.std.specs.Prelude.{◌≡◌, ℕ, true, false, List, [], ◌∷◌, ◌++◌, take, slice_get, Some, ◌⊎◌, Result, MatchResult}
use Rattle.crsm_base.specs.Records.{SpeltBody}
use Rattle.crsm_spec.specs.Types.{Rec}
use Rattle.crsm_spec.specs.Log.{Log}
use Rattle.crsm_spec.specs.Fits.{fits}
pub use Rattle.crsm_fact_log.specs.Logs.{with_records}
use Rattle.crsm_ledger.specs.declared.error.LedgerError.{LedgerError}
use Rattle.crsm_ledger.specs.declared.ledger.Ledger.{Ledger}
use Rattle.crsm_ledger.specs.Ledger.{LedgerStands, kind}

-- each record fits behind those before it
abbrev pub FitInTurn : ℕ → ℕ → Log → List Rec → Type 0
FitInTurn me n log [] = Unit {0}
FitInTurn me n log (rec ∷ recs) = (fits me n log rec ≡ true) × FitInTurn me n (rec ∷ log) recs

-- each body is one or more records that fit behind those before, from the first log up to the second
abbrev pub AreKept : ℕ → ℕ → Log → List (List ℕ) → Log → Type 0
AreKept me n log [] end = end ≡ log
AreKept me n log (body ∷ bodies) end =
    (recs : List Rec) × SpeltBody recs body × FitInTurn me n log recs × AreKept me n (with_records log recs) bodies end

-- the first of these records that does not fit behind those before it, and its kind
pub record Misfit (me n : ℕ) (log : Log) (recs : List Rec) (why : ℕ) : Type 0 where
  pub before : List Rec
  pub rec : Rec
  pub after : List Rec
  pub among : recs ≡ before ++ rec ∷ after
  pub fit : FitInTurn me n log before
  pub misfit : fits me n (with_records log before) rec ≡ false
  pub why_is : why ≡ kind rec

-- the reason why a body cannot follow this log: it is not a list of records (0), or the first record that does not fit
-- is of this kind
abbrev pub IsBad : ℕ → ℕ → Log → List ℕ → ℕ → Type 0
IsBad me n log body why =
    ((why ≡ 0) × ((recs : List Rec) → SpeltBody recs body → ⊥)) ⊎ ((recs : List Rec) × SpeltBody recs body × Misfit me n log recs why)

-- the body of this number is the first bad one
pub record IsBadAt (me n : ℕ) (bodies : List (List ℕ)) (entry why : ℕ) : Type 0 where
  pub body : List ℕ
  pub there : slice_get bodies entry ≡ Some body
  pub log : Log
  pub before : AreKept me n [] (take entry bodies) log
  pub bad : IsBad me n log body why

-- the error names a body and says this of it and of the reason, or memory ran out
abbrev pub IfBadLog : LedgerError → (ℕ → ℕ → Type 0) → Type 0
IfBadLog (LedgerError.BadLog entry why) P = P entry why
IfBadLog (LedgerError.NotFit why) P = ⊥
IfBadLog LedgerError.NoMemory P = Unit {0}

-- ---- what a record, records and a body do to a ledger

-- the record fits and is kept, or it does not fit
abbrev pub TakesRecord : ℕ → Rec → Ledger → Result (Unit {0}) LedgerError → Ledger → Type 0
TakesRecord entry rec old result new =
    (me n : ℕ) (log : Log) → LedgerStands me n old log →
    MatchResult result (λ _. (fits me n log rec ≡ true) × LedgerStands me n new (rec ∷ log))
    (λ e. IfBadLog e (λ at why. (at ≡ entry) × (fits me n log rec ≡ false) × (why ≡ kind rec)))

abbrev pub TakesRecords : ℕ → List Rec → Ledger → Result (Unit {0}) LedgerError → Ledger → Type 0
TakesRecords entry recs old result new =
    (me n : ℕ) (log : Log) → LedgerStands me n old log →
    MatchResult result (λ _. FitInTurn me n log recs × LedgerStands me n new (with_records log recs))
    (λ e. IfBadLog e (λ at why. (at ≡ entry) × Misfit me n log recs why))

abbrev pub TakesBody : {T : Type 0} → ℕ → List ℕ → Ledger → Result T LedgerError → Ledger → Type 0
TakesBody entry body old result new =
    (me n : ℕ) (log : Log) → LedgerStands me n old log →
    MatchResult result (λ _. (recs : List Rec) × SpeltBody recs body × FitInTurn me n log recs × LedgerStands me n new (with_records log recs))
    (λ e. IfBadLog e (λ at why. (at ≡ entry) × IsBad me n log body why))
