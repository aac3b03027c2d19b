use Rattle.crsm_replica_detector.proofs.Noted.{counted, fulfilled}
use Rattle.crsm_replica_detector.proofs.laws.inputs_are_wished.Goals as goal

pub returns-clause-fulfils : goal.returns-clause-fulfils
returns-clause-fulfils c = fulfilled

pub returns-clause-counted : goal.returns-clause-counted
returns-clause-counted c = counted
