use Rattle.crsm_law_collection.proofs.Pages.{pages_begin}
use Rattle.crsm_law_collection.proofs.pages_begin.Goals as goal

pub returns : goal.returns
returns c = pages_begin
