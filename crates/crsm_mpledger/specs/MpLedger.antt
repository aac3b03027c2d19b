-- What a ledger stands for.
use Rattle.std.specs.Prelude.{◌≡◌, ℕ, ◌<◌, List}
use Rattle.crsm_spec.specs.Clock.{u64_max}
use Rattle.crsm_mpspec.specs.declared.rec.MpRec.{MpRec}
use Rattle.crsm_mpspec.specs.Log.{Log, by_slot, promised, accepts, choices, executed, boots}
use Rattle.crsm_mpspec.specs.Records.{SpeltBody}
use Rattle.crsm_mpledger.specs.declared.ledger.MpLedger.{MpLedger}
use Rattle.crsm_mpledger.specs.BySlot.{SlotsStand}
use Rattle.crsm_mpledger.specs.Executed.{ExecutionsStand}
use Rattle.crsm_mpledger.specs.Sound.{IsSound, with_records}

-- The ledger has what the records of this log say.
pub record MpLedgerStands (ledger : MpLedger) (log : Log) : Type 0 where
  pub sound : IsSound log
  pub boots : ledger.boots ≡ boots log
  pub promised : ledger.promised ≡ promised log
  pub accepted : SlotsStand ledger.accepted (by_slot (accepts log))
  pub chosen : SlotsStand ledger.chosen (by_slot (choices log))
  pub executed : ExecutionsStand ledger.executions (executed log)

-- the first slot whose execution it keeps
abbrev pub first_kept : MpLedger → ℕ
first_kept ledger = ledger.executions.first

-- one boot more can be counted
abbrev pub MayBoot : MpLedger → Type 0
MayBoot ledger = ledger.boots < u64_max

-- one record more can be applied
abbrev pub CanFollow : MpLedger → MpRec → Type 0
CanFollow ledger MpRec.Boot = MayBoot ledger
CanFollow ledger _ = Unit {0}

-- for the log that the ledger stands for
abbrev pub WhereLedger : MpLedger → (Log → Type 0) → Type 0
WhereLedger ledger P = (log : Log) → MpLedgerStands ledger log → P log

-- The body has records that follow the log of the ledger, and all boots can be counted.
pub record GoesOn (ledger : MpLedger) (body : List ℕ) : Type 0 where
  pub log : Log
  pub stands : MpLedgerStands ledger log
  pub records : List MpRec
  pub spelt : SpeltBody records body
  pub sound : IsSound (with_records log records)
  pub few : boots (with_records log records) < u64_max
