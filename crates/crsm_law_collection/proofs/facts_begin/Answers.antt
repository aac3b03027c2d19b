use Rattle.crsm_law_collection.proofs.Keep.{facts_begin}
use Rattle.crsm_law_collection.proofs.facts_begin.Goals as goal

pub returns : goal.returns
returns c = facts_begin
