use Rattle.crsm_law_collection.proofs.Pages.{pages_go_on}
use Rattle.crsm_law_collection.proofs.pages_go_on.Goals as goal

pub returns : goal.returns
returns c = pages_go_on
