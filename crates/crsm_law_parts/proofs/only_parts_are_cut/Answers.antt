use Rattle.crsm_law_parts.proofs.Law.{only_parts}
use Rattle.crsm_law_parts.proofs.only_parts_are_cut.Goals as goal

pub returns : goal.returns
returns c = only_parts c.replies_tell_the_first.ensures
