-- What a core stands for.
use Rattle.std.specs.Prelude.{◌≡◌, true, false}
use Rattle.crsm_mpspec.specs.Replica.{Replica}
use Rattle.crsm_mpspec.specs.Draft.{begun}
use Rattle.crsm_mpreplica.specs.State.{CanBoot as CanBootState, MpReplicaStands}
use Rattle.crsm_mpcore.specs.declared.replica.MpCore.{MpCore}

-- memory ran out, and the core is spent
unfoldable pub IsSpent : MpCore → Type 0
IsSpent core = core.is_spent ≡ true

-- The core stands for the replica: all that it keeps is what the replica's lists say.
pub record MpCoreStands (core : MpCore) (r : Replica) : Type 0 where
  pub unspent : core.is_spent ≡ false
  pub stands : MpReplicaStands core.state (begun r)

-- one boot more can be counted
abbrev pub CanBoot : MpCore → Type 0
CanBoot core = CanBootState core.state

-- for each replica that the core stands for
abbrev pub WhereCore : MpCore → (Replica → Type 0) → Type 0
WhereCore core P = (r : Replica) → MpCoreStands core r → P r
