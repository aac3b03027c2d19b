use Rattle.crsm_law_wishes.proofs.Example.{replicas_suspected}
use Rattle.crsm_law_wishes.proofs.replicas_are_suspected.Goals as goal

pub returns : goal.returns
returns c = replicas_suspected
