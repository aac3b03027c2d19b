use Rattle.crsm_law_collection.proofs.Law.{reports_make}
use Rattle.crsm_law_collection.proofs.reports_make_collections.Goals as goal

pub returns : goal.returns
returns c = reports_make
