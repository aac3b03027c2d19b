use Rattle.crsm_law_lives.proofs.Sending.{sends_are_theirs}
use Rattle.crsm_law_lives.proofs.sends_are_theirs.Goals as goal

pub returns : goal.returns
returns z n ls h r fates k lt = sends_are_theirs n ls h r fates k lt
