use Rattle.std.proofs.Common.{◌∙◌, subst}
use Rattle.crsm_spec.specs.Types.{Entry, Rec}
use Rattle.crsm_ledger.specs.Ledger.{Follows}
use Rattle.crsm_ledger.proofs.KeepLemmas.{lines-prepare}
use Rattle.crsm_ledger.proofs.ledger.Ledger.keep_prepare.Goals as goal

pub returns-clause-kept : goal.returns-clause-kept
returns-clause-kept c = λ me n log s fit. (
  c.in_ok-lines.ensures ∙ c.prepare_line.ensures log ∙ lines-prepare s c.args.entry.now,
  subst (λ (e : Entry). Follows c.args.self.now (Rec.Prepare e) c.follow_prepare.new.self) c.in_ok-copy.ensures c.in_ok-follow_prepare.ensures.kept me n log s fit,
)
