use Rattle.std.proofs.Common.{◌∙◌}
use Rattle.crsm_ledger.proofs.KeepLemmas.{lines-promise}
use Rattle.crsm_ledger.proofs.ledger.Ledger.keep_promise.Goals as goal

pub returns-clause-kept : goal.returns-clause-kept
returns-clause-kept c = λ me n log s fit.
    (c.in_ok-lines.ensures ∙ lines-promise s c.args.instance c.args.ballot, c.follow_promise.ensures.kept c.args.instance me n log s fit)
