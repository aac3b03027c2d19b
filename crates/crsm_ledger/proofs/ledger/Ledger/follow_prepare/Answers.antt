use Rattle.crsm_spec.specs.Log.{known, executed, logged}
use Rattle.crsm_ledger.proofs.KeepLemmas.{prepares}
use Rattle.crsm_ledger.proofs.ReadLemmas.{holds}
use Rattle.crsm_ledger.proofs.ledger.Ledger.follow_prepare.Goals as goal

pub returns-clause-kept : goal.returns-clause-kept
returns-clause-kept c = λ me n log s fit. prepares s c.args.entry c.log.new.self fit (c.in_ok-log.ensures (known log) (executed log) (logged log) (holds s))
