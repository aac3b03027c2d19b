use Rattle.std.proofs.Common.{◌≡◌, ◌∙◌, ap, length, subst}
use Rattle.crsm_spec.specs.Types.{Decision, Rec}
use Rattle.crsm_ledger.specs.Ledger.{Follows}
use Rattle.crsm_ledger.proofs.KeepLemmas.{lines-decide}
use Rattle.crsm_ledger.proofs.ledger.Ledger.keep_decide.Goals as goal

pub returns-clause-kept : goal.returns-clause-kept
returns-clause-kept c = λ me n log s fit.
    let count : length c.as_slice.result.now ≡ length c.args.decision.now.tail = ap length c.as_slice.ensures in (
      c.in_ok-lines.ensures
          ∙ lines-decide s c.args.decision.now c.in_ok-members.members (length c.as_slice.result.now) c.in_ok-members.ensures count,
      subst (λ (d : Decision). Follows c.args.self.now (Rec.Decide d) c.follow_decide.new.self) c.in_ok-known.ensures c.follow_decide.ensures.kept me n log s fit,
    )
