use Rattle.crsm_law_steps.proofs.Moments.{kept_before_sent}
use Rattle.crsm_law_steps.proofs.kept_before_sent.Goals as goal

pub returns : goal.returns
returns c = kept_before_sent
