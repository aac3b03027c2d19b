use Rattle.std.proofs.Common.{◌∙◌}
use Rattle.crsm_ledger.proofs.KeepLemmas.{lines-enter}
use Rattle.crsm_ledger.proofs.ledger.Ledger.keep_enter.Goals as goal

pub returns-clause-kept : goal.returns-clause-kept
returns-clause-kept c = λ me n log s fit. (c.in_ok-lines.ensures ∙ lines-enter s c.args.epoch, c.follow_enter.ensures.kept c.args.epoch me n log s fit)
