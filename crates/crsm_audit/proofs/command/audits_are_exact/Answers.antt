use Rattle.crsm_audit.proofs.Exact.{decided}
use Rattle.crsm_audit.proofs.command.audits_are_exact.Goals as goal

pub returns : goal.returns
returns c = λ n. decided c.lines_have_one_text.ensures c.bad_logs_are_one.ensures.kept c.bad_logs_are_one.ensures.one n
