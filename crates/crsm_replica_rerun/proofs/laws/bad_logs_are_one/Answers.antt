use Rattle.std.proofs.Common.{[]}
use Rattle.crsm_replica_rerun.proofs.BadLogs.{first_bad, kept_not_bad}
use Rattle.crsm_replica_rerun.proofs.laws.bad_logs_are_one.Goals as goal

pub returns-clause-kept : goal.returns-clause-kept
returns-clause-kept c = λ me n bodies log entry why kept bad.
    kept_not_bad c.one_spelling_each.ensures.body_has_one me n [] bodies entry bad.body bad.log log why bad.there bad.before bad.bad kept

pub returns-clause-one : goal.returns-clause-one
returns-clause-one c = λ me n bodies e f w v p q.
    first_bad c.one_spelling_each.ensures.body_has_one me n [] bodies e f p.body q.body p.log q.log w v p.there p.before p.bad q.there q.before q.bad
