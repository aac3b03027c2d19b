use Rattle.crsm_law_sheets.proofs.Agreeing.{safe}
use Rattle.crsm_law_sheets.proofs.agreeing_sheets_are_safe.Goals as goal

pub returns : goal.returns
returns c n sheets sound agree = safe c.steps_are_changes.ensures n sheets sound agree
