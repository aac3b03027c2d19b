-- What a core stands for, and the output of its steps.
use Rattle.std.specs.Prelude.{◌≡◌, ℕ, ◌<◌, true, false}
use Rattle.std.specs.List.{AllByRecursion}
use Rattle.crsm_base.specs.declared.send.Send.{Send}
use Rattle.crsm_base.specs.declared.send.To.{To}
use Rattle.crsm_base.specs.declared.send.To.TheVariants as to_whom
use Rattle.crsm_base.specs.Messages.{FitsDatagram}
use Rattle.crsm_base.specs.Records.{FitsRec}
use Rattle.crsm_spec.specs.Log.{Log}
use Rattle.crsm_spec.specs.Replica.{Replica}
use Rattle.crsm_spec.specs.Draft.{Draft, begun}
use Rattle.crsm_replica_output.specs.declared.batch.Batch.{Batch}
use Rattle.crsm_replica_output.specs.Made.{made_of, IsBatchOf}
use Rattle.crsm_replica.specs.Replica.{ReplicaStands, AwaitsBoot, CanBoot}
use Rattle.crsm_core.specs.declared.replica.Core.{Core}

-- memory ran out, and the fields of the core are unspecified
unfoldable pub IsSpent : Core → Type 0
IsSpent core = core.is_spent ≡ true

-- The core is that of the ledger of this log of replica me, and its boot is not on record yet.
pub record CoreAwaits (core : Core) (me n : ℕ) (log : Log) : Type 0 where
  pub unspent : core.is_spent ≡ false
  pub waits : AwaitsBoot core.state me n log

-- the boot of a core that is not spent can be recorded
abbrev pub CanBegin : Core → Type 0
CanBegin core = core.is_spent ≡ false → ∥ CanBoot core.state ∥₁

-- The core stands for the replica: all its fields agree with the replica's lists.
pub record CoreStands (core : Core) (r : Replica) : Type 0 where
  pub unspent : core.is_spent ≡ false
  pub stands : ReplicaStands core.state (begun r)

-- a replica to which a datagram may go
abbrev pub FitsTo : To → Type 0
FitsTo (to_whom.Replica k) = k < 15
FitsTo (to_whom.Address a) = Unit {0}

-- the datagram has an encoding
abbrev pub FitsSent : Send → Type 0
FitsSent s = FitsTo s.to × FitsDatagram s.datagram

-- The batch is the output of the draft, and each record and each datagram of it has an encoding.
pub record Answers (batch : Batch) (x : Draft) : Type 0 where
  pub made : IsBatchOf batch (made_of x)
  pub records : AllByRecursion FitsRec batch.records
  pub sends : AllByRecursion FitsSent batch.sends
