-- The boot of a core before it is durable.
use Rattle.std.specs.Prelude.{◌≡◌, ◌<◌, ◌≤◌, ℕ, List}
use Rattle.std.specs.List.{AllByRecursion}
use Rattle.crsm_base.specs.Records.{FitsRec, body_bytes}
use Rattle.crsm_ledger.specs.declared.ledger.Ledger.{Ledger}
use Rattle.crsm_ledger.specs.Ledger.{LedgerStands}
use Rattle.crsm_ledger.specs.Recovered.{IsBadAt}
use Rattle.crsm_replica_epoch.specs.EpochState.{EachFits}
use Rattle.crsm_spec.specs.Clock.{u64_max}
use Rattle.crsm_spec.specs.Types.{Line}
use Rattle.crsm_spec.specs.Log.{Log, boots}
use Rattle.crsm_spec.specs.Step.{boot}
use Rattle.crsm_core.specs.declared.replica.Core.{Core}
use Rattle.crsm_core.specs.Core.{CoreAwaits, CoreStands}
use Rattle.crsm_shell.specs.declared.begin.Begun.{Begun}
use Rattle.crsm_shell.specs.declared.errors.BootError.{BootError}
use Rattle.crsm_shell.specs.declared.errors.BootError.TheVariants as errors

-- it is the ledger of this log of replica me, whose records fit and have encodings
pub record IsLedgerOf (ledger : Ledger) (me n : ℕ) (log : Log) : Type 0 where
  pub number : me < 15
  pub some : 1 ≤ n
  pub stands : LedgerStands me n ledger log
  pub fits : EachFits me n log
  pub spelt : AllByRecursion FitsRec log

-- it is the ledger of some log
pub record IsLedgerOfOne (ledger : Ledger) : Type 0 where
  pub me : ℕ
  pub n : ℕ
  pub log : Log
  pub is : IsLedgerOf ledger me n log

-- the core of some log awaits its boot, which can be counted
pub record AwaitsOne (core : Core) : Type 0 where
  pub me : ℕ
  pub n : ℕ
  pub log : Log
  pub awaits : CoreAwaits core me n log
  pub room : boots log < u64_max

-- the core has booted on this log, with these encodings of its records and these lines
pub record HasBooted (booted : Core) (bytes : List ℕ) (told : List Line) (me n : ℕ) (log : Log) : Type 0 where
  pub core : CoreStands booted (boot me n log).replica
  pub body : bytes ≡ body_bytes (boot me n log).batch
  pub lines : told ≡ (boot me n log).lines
  pub spelt : AllByRecursion FitsRec (boot me n log).batch

-- it is the boot on this log
abbrev pub BeginsOn : Begun → (me n : ℕ) → Log → Type 0
BeginsOn b me n log = HasBooted b.core.value b.body b.lines me n log

-- the bodies are no log, or memory ran out
abbrev pub IsRefusal : (me n : ℕ) → List (List ℕ) → BootError → Type 0
IsRefusal me n bodies (errors.BadLog entry why) = IsBadAt me n bodies entry why
IsRefusal me n bodies errors.NoMemory = Unit {0}
IsRefusal me n bodies errors.DiskFault = ⊥
IsRefusal me n bodies errors.LogFull = ⊥
