use Rattle.crsm_law_collection.proofs.Pages.{answers_are_pages}
use Rattle.crsm_law_collection.proofs.answers_are_pages.Goals as goal

pub returns : goal.returns
returns c = answers_are_pages
