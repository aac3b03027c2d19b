use Rattle.crsm_replica_detector.proofs.Suspected.{can_be, own}
use Rattle.crsm_replica_detector.proofs.laws.suspicions_can_be_members.Goals as goal

pub returns-clause-can_be : goal.returns-clause-can_be
returns-clause-can_be c = can_be

pub returns-clause-own : goal.returns-clause-own
returns-clause-own c = own
