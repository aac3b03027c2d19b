use Rattle.std.proofs.Common.{◌≡◌, ◌∙◌, ap, subst, sym}
use Rattle.crsm_base.proofs.Parsers.{some_is}
use Rattle.crsm_spec.specs.Types.{Ballot, Decision, Rec}
use Rattle.crsm_ledger.specs.Ledger.{Follows}
use Rattle.crsm_ledger.proofs.ledger.Ledger.follow_accepted.Goals as goal

pub returns-in-Some-clause-kept : goal.returns-in-Some-clause-kept
returns-in-Some-clause-kept c = λ b d e.
    let same : c.in-Some.decision ≡ d = ap (λ (p : Ballot × Decision). p.1) (some_is (c.in-Some.field-0-0, c.in-Some.decision) (b, d) (sym c.in-Some.is ∙ c.take.ensures.value ∙ e)) in
    subst (λ (x : Decision). Follows c.args.self.now (Rec.Decide x) c.follow_decide.new.self) same (c.follow_decide.ensures.anew c.args.self.now.accepted)

pub follow_decide-requires : goal.follow_decide-requires
follow_decide-requires c = (rw c.in-Some.is at c.take.ensures.fits).1
