use Rattle.std.proofs.Common.{◌∙◌, subst}
use Rattle.crsm_spec.specs.Types.{Decision, Rec}
use Rattle.crsm_ledger.specs.Ledger.{Follows}
use Rattle.crsm_ledger.proofs.KeepLemmas.{lines-accept}
use Rattle.crsm_ledger.proofs.ledger.Ledger.keep_accept.Goals as goal

pub returns-clause-kept : goal.returns-clause-kept
returns-clause-kept c = λ me n log s fit. (
  c.in_ok-lines.ensures ∙ lines-accept s c.args.instance c.args.ballot c.args.decision.now,
  subst (λ (d : Decision). Follows c.args.self.now (Rec.Accept c.args.instance c.args.ballot d) c.follow_accept.new.self)
      c.in_ok-accepted.ensures (c.follow_accept.ensures.kept c.args.instance) me n log s fit,
)
