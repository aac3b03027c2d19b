use Rattle.std.proofs.Common.{◌∙◌}
use Rattle.crsm_ledger.proofs.KeepLemmas.{lines-suspend}
use Rattle.crsm_ledger.proofs.ledger.Ledger.keep_suspend.Goals as goal

pub returns-clause-kept : goal.returns-clause-kept
returns-clause-kept c = λ me n log s fit. (c.in_ok-lines.ensures ∙ lines-suspend s c.args.epoch, c.follow_suspend.ensures.kept c.args.epoch me n log s fit)
