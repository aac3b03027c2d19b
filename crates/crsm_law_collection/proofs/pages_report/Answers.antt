use Rattle.crsm_law_collection.proofs.Pages.{pages_report}
use Rattle.crsm_law_collection.proofs.pages_report.Goals as goal

pub returns : goal.returns
returns c = pages_report
