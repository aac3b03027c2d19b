use Rattle.crsm_law_honest.proofs.Whole.{whole_sheets_complete}
use Rattle.crsm_law_honest.proofs.whole_sheets_are_complete.Goals as goal

pub returns : goal.returns
returns c = whole_sheets_complete
