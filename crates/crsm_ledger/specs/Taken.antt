-- A record that is taken off the prefix of bytes and kept.
use Rattle.std.specs.Prelude.{◌≡◌, ℕ, ◌<◌, true, List, ◌∷◌, ◌++◌, length, Option, None, Some}
use Rattle.std.specs.List.{AllByRecursion, flat_map}
use Rattle.crsm_base.specs.Spelling.{FitsDecision, FitsEntries, decision_bytes, entries_bytes}
use Rattle.crsm_base.specs.Records.{FitsRec, rec_bytes}
use Rattle.crsm_base.specs.Reading.{decision_at}
use Rattle.crsm_spec.specs.Types.{Ballot, Decision, Rec}
use Rattle.crsm_spec.specs.Log.{Log}
use Rattle.crsm_spec.specs.Fits.{fits}
use Rattle.crsm_ledger.specs.declared.ledger.Ledger.{Ledger}
use Rattle.crsm_ledger.specs.declared.error.LedgerError.{LedgerError}
use Rattle.crsm_ledger.specs.Ledger.{LedgerStands}
use Rattle.crsm_ledger.specs.Recovered.{FitInTurn, IfBadLog, IsBad, with_records}

-- the record fits behind whatever the old ledger stands for, and the new one stands for that with the record
abbrev pub KeepsRecord : Rec → Ledger → Ledger → Type 0
KeepsRecord rec old new = (me n : ℕ) (log : Log) → LedgerStands me n old log → (fits me n log rec ≡ true) × LedgerStands me n new (rec ∷ log)

-- the record that was read, followed by these bytes, is applied, and nothing is accepted or decided
pub record IsTaken (read : Option (Rec × List ℕ)) (rest : List ℕ) (old new : Ledger) : Type 0 where
  pub rec : Rec
  pub is : read ≡ Some (rec, rest)
  pub keeps : KeepsRecord rec old new
  pub same : new.accepted ≡ old.accepted
  pub known : new.known ≡ old.known

-- these are the bytes of the decision that was accepted, unless they are none
abbrev pub IsAtHand : List ℕ → Option (Ballot × Decision) → Type 0
IsAtHand bytes None = Unit {0}
IsAtHand bytes (Some a) = 0 < length bytes → FitsDecision a.1 × (bytes ≡ decision_bytes a.1)

-- these are the bytes of the tail of the decision, unless they are none
abbrev pub IsTail : List ℕ → Decision → Type 0
IsTail bytes d = 0 < length bytes → FitsEntries d.tail × (bytes ≡ entries_bytes d.tail)

-- the record that was read, followed by these bytes, is applied, and `at_hand` and `tail` are the encodings of the
-- decision accepted last and of the known tail
pub record IsNext (read : Option (Rec × List ℕ)) (at_hand tail rest : List ℕ) (old new : Ledger) : Type 0 where
  pub rec : Rec
  pub is : read ≡ Some (rec, rest)
  pub keeps : KeepsRecord rec old new
  pub at_hand_is : IsAtHand at_hand new.accepted
  pub tail_is : IsTail tail new.known

-- the bytes are those of a decision with these behind it, which is accepted again by this ballot
pub record IsAgain (at_hand : List ℕ) (instance : ℕ) (ballot : Ballot) (bytes rest : List ℕ) (old new : Ledger) : Type 0 where
  pub decision : Decision
  pub is : decision_at bytes ≡ Some (decision, rest)
  pub keeps : KeepsRecord (Rec.Accept instance ballot decision) old new
  pub at_hand_is : IsAtHand at_hand new.accepted
  pub known : new.known ≡ old.known

-- these records were read of a body, up to the rest
pub record HasRead (body : List ℕ) (recs : List Rec) (rest : List ℕ) : Type 0 where
  pub fit : AllByRecursion FitsRec recs
  pub is : body ≡ flat_map rec_bytes recs ++ rest

-- where such records were read of a body and fit, the error names the body and says why the record behind them is bad
abbrev pub IsRefused : ℕ → (body rest : List ℕ) → Ledger → LedgerError → Type 0
IsRefused entry body rest old e =
    (recs : List Rec) → HasRead body recs rest → (me n : ℕ) (log : Log) → FitInTurn me n log recs → LedgerStands me n old (with_records log recs) →
    IfBadLog e (λ at why. (at ≡ entry) × IsBad me n log body why)
