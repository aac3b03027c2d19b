use Rattle.crsm_law_parts.proofs.Law.{others}
use Rattle.crsm_law_parts.proofs.others_are_short.Goals as goal

pub returns : goal.returns
returns c = others
