use Rattle.crsm_commit.proofs.CommitRule.{narrowed}
use Rattle.crsm_commit.proofs.laws.fewer_may_be_tracked.Goals as goal

pub returns : goal.returns
returns c = narrowed
