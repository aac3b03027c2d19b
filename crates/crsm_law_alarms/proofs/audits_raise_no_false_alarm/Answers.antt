use Rattle.crsm_law_alarms.proofs.Agreeing.{no_false_alarm}
use Rattle.crsm_law_alarms.proofs.audits_raise_no_false_alarm.Goals as goal

pub returns : goal.returns
returns c = no_false_alarm c.one_spelling_each.ensures.body_has_one c.sheets_are_one.ensures.turns c.honest_sheets_agree.ensures
