use Rattle.crsm_law_agreement.proofs.Choice.{decided_are_complete}
use Rattle.crsm_law_agreement.proofs.decided_are_complete.Goals as goal

pub returns : goal.returns
returns c n logs all = decided_are_complete n logs all
