use Rattle.crsm_shell.proofs.NotBad.{log_not_bad}
use Rattle.crsm_shell.proofs.laws.logs_are_not_bad.Goals as goal

pub returns : goal.returns
returns c me n file log entry why has bad = log_not_bad c.one_spelling_each.ensures.body_has_one me n why file entry log has bad
