use Rattle.crsm_law_sheets.proofs.Agreeing.{ascending}
use Rattle.crsm_law_sheets.proofs.one_list_rises.Goals as goal

pub returns : goal.returns
returns c n sheets sound = ascending n sheets sound
