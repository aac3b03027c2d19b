use Rattle.crsm_cmd_dump.proofs.Unique.{not_refused, one_refusal, one_text}
use Rattle.crsm_cmd_dump.proofs.command.dumps_are_one.Goals as goal

pub returns-clause-text : goal.returns-clause-text
returns-clause-text c = λ me n part file a b p q. one_text c.one_spelling_each.ensures.body_has_one me n part file a b p q

pub returns-clause-kept : goal.returns-clause-kept
returns-clause-kept c = λ me n entry why part file text d bad. not_refused c.bad_logs_are_one.ensures.kept c.bad_logs_are_one.ensures.one me n entry why part file text d bad

pub returns-clause-bad : goal.returns-clause-bad
returns-clause-bad c = λ me n e f w v file p q. one_refusal c.bad_logs_are_one.ensures.kept c.bad_logs_are_one.ensures.one me n e f w v file p q
