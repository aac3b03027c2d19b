use Rattle.crsm_spec.specs.Log.{decision}
use Rattle.crsm_replica_coordinator.proofs.Coordinators.{gathers, gathering_stands}
use Rattle.crsm_replica_coordinator.proofs.coordinator.Coordinator.collecting.Goals as goal

pub returns : goal.returns
returns c = λ me n log ms pages h s. gathering_stands me n (decision log) c.args.collect ms pages (gathers me n log ms pages c.args.collect h s)
