use Rattle.crsm_law_honest.proofs.Agreeing.{honest_sheets_agree}
use Rattle.crsm_law_honest.proofs.honest_sheets_agree.Goals as goal

pub returns : goal.returns
returns c = honest_sheets_agree c.steps_are_right.ensures
