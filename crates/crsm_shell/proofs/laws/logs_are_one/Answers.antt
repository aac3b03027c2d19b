use Rattle.std.proofs.Common.{[]}
use Rattle.crsm_log.specs.Format.{bodies_of}
use Rattle.crsm_shell.specs.Shell.{HasLog}
use Rattle.crsm_shell.proofs.Records.{kept_once}
use Rattle.crsm_shell.proofs.laws.logs_are_one.Goals as goal

pub returns : goal.returns
unfolding HasLog
returns c me n file a b p q = kept_once c.one_spelling_each.ensures.body_has_one me n [] (bodies_of file) a b p.kept q.kept
