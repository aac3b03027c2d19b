use Rattle.crsm_replica_detector.proofs.Timely.{further_stands}
use Rattle.crsm_replica_detector.proofs.timers.Timers.at.Goals as goal

pub returns-in-Some : goal.returns-in-Some
returns-in-Some c = further_stands c.args.timers c.in-Some.timers c.further.result c.args.from c.args.reading c.in-Some.is c.further.ensures
