use Rattle.std.proofs.Common.{◌∙◌, subst, sym}
use Rattle.crsm_spec.specs.Types.{Rec}
use Rattle.crsm_ledger.specs.Taken.{IsAtHand, IsTail}
use Rattle.crsm_ledger.proofs.TakenRecords.{again_at, decide_is}
use Rattle.crsm_ledger.proofs.ledger.Ledger.take_decide.Goals as goal

pub returns : goal.returns
returns c =
    let held = sym c.get.ensures.value ∙ c.in-Some.is in
    let b = c.in-Some.field-0-0 in
    let d = c.in-Some.decision in
    let again = again_at c.args.accepted.now c.args.bytes.now c.in_ok-rest.rest.now b d c.args.self.now.accepted held c.requires c.in_ok-rest.ensures in
    record {
      rec = Rec.Decide d;
      is = decide_is c.args.bytes.now c.in_ok-rest.rest.now d again.1;
      keeps = λ me n log s.
          let fit = sym (c.fits_decide.ensures me n log s.says) ∙ c.if-not-fits_decide.false in
          (fit, record { unspent = c.follow_accepted.ensures.mark ∙ s.unspent; says = c.follow_accepted.ensures.kept b d held me n log s.says fit });
      at_hand_is = subst (IsAtHand c.args.accepted.now) (sym c.follow_accepted.ensures.accepted) tt;
      tail_is = subst (IsTail c.tail_of-tail.result.now) (sym (c.follow_accepted.ensures.known b d held)) (λ _. (again.0.tail, c.tail_of-tail.ensures));
    }
