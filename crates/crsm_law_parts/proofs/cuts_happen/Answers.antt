use Rattle.crsm_law_parts.proofs.Example.{happen}
use Rattle.crsm_law_parts.proofs.cuts_happen.Goals as goal

pub returns : goal.returns
returns c = happen
