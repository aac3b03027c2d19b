use Rattle.crsm_segment.proofs.Whole.{whole_parts, whole_cut}
use Rattle.crsm_segment.proofs.laws.whole_messages.Goals as goal

pub returns-clause-parts : goal.returns-clause-parts
returns-clause-parts c = whole_parts

pub returns-clause-cut : goal.returns-clause-cut
returns-clause-cut c = whole_cut
