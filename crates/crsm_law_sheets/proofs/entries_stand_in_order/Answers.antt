use Rattle.crsm_law_sheets.proofs.Agreeing.{rises_at}
use Rattle.crsm_law_sheets.proofs.entries_stand_in_order.Goals as goal

pub returns : goal.returns
returns c es p q a b rises at_p at_q less = rises_at es p q a b rises at_p at_q less
