use Rattle.crsm_law_honest.proofs.Cutting.{cut_sheets_raise_alarms}
use Rattle.crsm_law_honest.proofs.cut_sheets_raise_alarms.Goals as goal

pub returns : goal.returns
returns c = cut_sheets_raise_alarms
