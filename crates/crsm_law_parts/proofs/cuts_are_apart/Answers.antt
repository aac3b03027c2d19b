use Rattle.crsm_law_parts.proofs.Law.{apart}
use Rattle.crsm_law_parts.proofs.cuts_are_apart.Goals as goal

pub returns : goal.returns
returns c = apart c.replies_tell_the_first.ensures c.parts_are_spelt.ensures
