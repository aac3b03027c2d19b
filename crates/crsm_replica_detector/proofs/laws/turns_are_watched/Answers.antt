use Rattle.crsm_replica_detector.proofs.Noted.{noted}
use Rattle.crsm_replica_detector.proofs.laws.turns_are_watched.Goals as goal

pub returns : goal.returns
returns c = noted
