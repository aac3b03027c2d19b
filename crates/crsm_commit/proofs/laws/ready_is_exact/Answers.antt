use Rattle.crsm_commit.proofs.CommitRule.{exactly}
use Rattle.crsm_commit.proofs.laws.ready_is_exact.Goals as goal

pub returns : goal.returns
returns c = exactly
