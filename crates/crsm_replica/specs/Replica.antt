-- What the state of a replica in memory stands for.
use Rattle.std.specs.Prelude.{◌≡◌, ℕ, ◌<◌, ◌≤◌, Bool, [], map, Option, Result, IfOk, ◌≢◌}
use Rattle.std.specs.List.{AllByRecursion}
use Rattle.crsm_base.specs.declared.NoMemory.{NoMemory}
use Rattle.crsm_base.specs.Records.{FitsRec}
use Rattle.crsm_ledger.specs.Ledger.{LedgerStands}
use Rattle.crsm_replica_coordinator.specs.Coordinator.{CoordinatorStands}
use Rattle.crsm_replica_output.specs.Made.{OutputStands, made_of, nothing}
use Rattle.crsm_segment.specs.Gather.{GatherStands}
use Rattle.crsm_spec.specs.Types.{Decision, Rec}
use Rattle.crsm_spec.specs.Clock.{u64_max}
use Rattle.crsm_spec.specs.Log.{Log, boots, decision, executed}
use Rattle.crsm_spec.specs.Replica.{Coordinator, Waiting, latest_from}
use Rattle.crsm_spec.specs.Draft.{Draft, keep, noting}
use Rattle.crsm_spec.specs.Coordinate.{forget_epoch}
use Rattle.crsm_spec.specs.Step.{if_fitting}
use Rattle.crsm_replica_results.specs.Answering.{IsTrueOf}
use Rattle.crsm_replica_epoch.specs.EpochState.{EpochStands, EachFits}
use Rattle.crsm_replica.specs.declared.state.ReplicaState.{ReplicaState}
use Rattle.crsm_replica.specs.declared.state.Waiting.{Waiting as WaitingInMemory}
use Rattle.crsm_replica.specs.Sound.{IsSound}
pub use Rattle.crsm_replica_epoch.specs.First.{ready_first, ready_of}

-- the waiting client that one in memory is
unfoldable pub on_paper : WaitingInMemory → Waiting
on_paper w = record { address = w.address; entry = w.entry }

-- the fields of the state, part by part
pub record StandsInside (state : ReplicaState) (x : Draft) : Type 0 where
  pub me : state.me ≡ x.replica.me
  pub ledger : LedgerStands x.replica.me x.replica.n state.ledger x.replica.log
  pub epoch_state : EpochStands state.epoch_state x.replica
  pub gathered : GatherStands state.gathered x.replica.parts
  pub coordinator : CoordinatorStands state.coordinator x.replica.me x.replica.n (decision x.replica.log) x.replica.coordinator
  pub made : state.made ≡ x.replica.made
  pub waiting : map on_paper state.waiting.items ≡ x.replica.waiting
  pub output : OutputStands state.output (made_of x)
  pub told : AllByRecursion (IsTrueOf (executed x.replica.log)) x.lines
  pub sound : IsSound x

-- The state stands for the draft of a step: what it keeps is what the draft's lists say, and all of that is sound.
unfoldable pub ReplicaStands : ReplicaState → Draft → Type 0
ReplicaStands state x = StandsInside state x

-- a state whose boot is not on record yet
pub record AwaitsInside (state : ReplicaState) (me n : ℕ) (log : Log) : Type 0 where
  pub number : me < 15
  pub some : 1 ≤ n
  pub mine : state.me ≡ me
  pub ledger : LedgerStands me n state.ledger log
  pub each : EachFits me n log
  pub spelt : AllByRecursion FitsRec log
  pub gathered : GatherStands state.gathered []
  pub coordinator : (d : Option Decision) → CoordinatorStands state.coordinator me n d Coordinator.Idle
  pub made : state.made ≡ 0
  pub waiting : state.waiting.items ≡ []
  pub output : OutputStands state.output nothing

-- The state is that of the ledger of this log, and the boot is not on record yet.
unfoldable pub AwaitsBoot : ReplicaState → ℕ → ℕ → Log → Type 0
AwaitsBoot state me n log = AwaitsInside state me n log

-- a log of which the state awaits the boot, and which can count one more
pub record CanBoot (state : ReplicaState) : Type 0 where
  pub me : ℕ
  pub n : ℕ
  pub log : Log
  pub awaits : AwaitsBoot state me n log
  pub room : boots log < u64_max

-- memory ran out in a step, and the state says nothing any more
unfoldable pub IsSpent : ReplicaState → Type 0
IsSpent state = Unit {0}

-- Whatever the old state stood for, the new one stands for the effect of this on it; or memory ran out.
abbrev pub Makes : (Draft → Draft) → ReplicaState → Result (Unit {0}) NoMemory → ReplicaState → Type 0
Makes change old result new = IfOk result (λ _. (x : Draft) → ReplicaStands old x → ReplicaStands new (change x))

-- The same where the change may not fit: then the answer is false, and the state is as before.
abbrev pub MakesFitting : (Draft → Draft) → ReplicaState → Result Bool NoMemory → ReplicaState → Type 0
MakesFitting change old result new =
    IfOk result (λ fit. (x : Draft) → ReplicaStands old x → (fit ≡ (change x).fitting) × ReplicaStands new (if_fitting x (change x)))

-- a record that a step keeps but for Decide and Enter
abbrev pub IsPlain : Rec → Type 0
IsPlain (Rec.Decide d) = ⊥
IsPlain (Rec.Enter x) = ⊥
IsPlain _ = Unit {0}

-- the decision is known, and the epoch before is forgotten
unfoldable pub learnt : Decision → Draft → Draft
learnt d x = forget_epoch (noting Coordinator.Idle (keep (Rec.Decide d) x))

-- for each draft that the state stands for
abbrev pub WhereStands : ReplicaState → (Draft → Type 0) → Type 0
WhereStands state P = (x : Draft) → ReplicaStands state x → P x

-- the same where the replica is not k, and this time is above the latest one that it received from k
abbrev pub WhereLater : ReplicaState → ℕ → ℕ → (Draft → Type 0) → Type 0
WhereLater state k time P = (x : Draft) → ReplicaStands state x → k ≢ x.replica.me → latest_from x.replica.received k < time → P x
