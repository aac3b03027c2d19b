use Rattle.std.proofs.Common.{◌∙◌, subst, sym}
use Rattle.crsm_ledger.specs.Taken.{IsAtHand}
use Rattle.crsm_ledger.proofs.TakenRecords.{again_at}
use Rattle.crsm_ledger.proofs.ledger.Ledger.accept_again.Goals as goal

pub returns : goal.returns
returns c =
    let held = sym c.get.ensures.value ∙ c.in-Some.is in
    let b = c.in-Some.field-0-0 in
    let d = c.in-Some.decision in
    let again = again_at c.args.accepted.now c.args.bytes.now c.in_ok-rest.rest.now b d c.args.self.now.accepted held c.requires.at_hand c.in_ok-rest.ensures in
    record {
      decision = d;
      is = again.1;
      keeps = λ me n log s.
          let fit = sym (c.fits_accept.ensures me n log s.says) ∙ c.if-not-fits_accept.false in
          (fit, record { unspent = c.follow_again.ensures.mark ∙ s.unspent; says = c.follow_again.ensures.kept c.args.instance b d held me n log s.says fit });
      at_hand_is = subst (IsAtHand c.args.accepted.now) (sym (c.follow_again.ensures.accepted b d held)) (λ _. (again.0, again.2));
      known = c.follow_again.ensures.known;
    }
