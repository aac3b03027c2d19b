use Rattle.crsm_commit.proofs.CommitRule.{not_counted}
use Rattle.crsm_commit.proofs.laws.untracked_votes_do_not_count.Goals as goal

pub returns : goal.returns
returns c = not_counted
