use Rattle.crsm_law_active.proofs.Telling.{links_tell_little}
use Rattle.crsm_law_active.proofs.links_tell_little.Goals as goal

pub returns : goal.returns
returns c = links_tell_little
