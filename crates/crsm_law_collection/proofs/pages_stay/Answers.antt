use Rattle.crsm_law_collection.proofs.Pages.{pages_stay}
use Rattle.crsm_law_collection.proofs.pages_stay.Goals as goal

pub returns : goal.returns
returns c = pages_stay
