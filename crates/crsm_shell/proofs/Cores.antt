-- The facts of the log of a core.
use Rattle.crsm_core.specs.declared.replica.Core.{Core}
use Rattle.crsm_core.specs.Core.{CoreStands}
use Rattle.crsm_ledger.specs.declared.ledger.Ledger.{Ledger}
use Rattle.crsm_ledger.specs.Ledger.{LedgerStands}
use Rattle.crsm_replica.specs.Replica.{ReplicaStands}
use Rattle.crsm_replica_epoch.specs.EpochState.{EachFits}
use Rattle.crsm_spec.specs.Draft.{begun}
use Rattle.crsm_spec.specs.Replica.{Replica}
use Rattle.crsm_shell.specs.Beginning.{IsLedgerOf}

-- each record of it fits
pub core_fits : (core : Core) (r : Replica) → CoreStands core r → EachFits r.me r.n r.log
unfolding ReplicaStands begun
core_fits core r s = s.stands.sound.kept

-- its ledger is that of a log on which a replica can boot
pub core_ledger : (core : Core) (r : Replica) (ledger : Ledger) → CoreStands core r → LedgerStands r.me r.n ledger r.log → IsLedgerOf ledger r.me r.n r.log
unfolding ReplicaStands begun
core_ledger core r ledger s stands =
    let sound = s.stands.sound in
    record { number = sound.number; some = sound.some; stands = stands; fits = sound.kept; spelt = sound.spelt }
