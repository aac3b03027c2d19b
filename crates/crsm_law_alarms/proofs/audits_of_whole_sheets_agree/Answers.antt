use Rattle.crsm_law_alarms.proofs.Agreeing.{whole_sheets_agree}
use Rattle.crsm_law_alarms.proofs.audits_of_whole_sheets_agree.Goals as goal

pub returns : goal.returns
returns c =
    whole_sheets_agree c.one_spelling_each.ensures.body_has_one c.sheets_are_one.ensures.turns c.whole_sheets_are_complete.ensures
    c.audits_raise_no_false_alarm.ensures
