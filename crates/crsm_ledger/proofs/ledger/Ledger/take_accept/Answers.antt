use Rattle.std.proofs.Common.{◌∙◌, ap, arith, subst, sym}
use Rattle.crsm_spec.specs.Types.{Rec}
use Rattle.crsm_ledger.specs.declared.ledger.Ledger.{Ledger}
use Rattle.crsm_ledger.specs.Ledger.{LedgerStands}
use Rattle.crsm_ledger.specs.Taken.{IsAtHand, IsTail}
use Rattle.crsm_ledger.proofs.TakenRecords.{accept_is, ballot_fits, before_rest, rest_short, text_bytes}
use Rattle.crsm_ledger.proofs.ledger.Ledger.take_accept.Goals as goal

pub slice_bounds-accepted-count : goal.slice_bounds-accepted-count
slice_bounds-accepted-count c =
    let i = rw c.in-Some.is at c.take_u64.ensures in
    let b = rw c.in-Some-take_ballot.is at c.take_ballot.ensures in
    let d = rw c.in-Some-2.is at c.in_ok-decision.ensures in
    rest_short c.in-Some-take_ballot.text.now c.in-Some-2.rest.now c.in-Some-2.decision
    (text_bytes c.args.bytes.now c.in-Some.rest.now c.in-Some-take_ballot.text.now c.in-Some.instance c.in-Some-take_ballot.ballot (λ i. omega (arith, c.type_inv.bytes i)) (sym i) (sym b)) (sym d)

pub accept_again-requires-clause-ballot : goal.accept_again-requires-clause-ballot
accept_again-requires-clause-ballot c =
    let i = rw c.in-Some.is at c.take_u64.ensures in
    let b = rw c.in-Some-take_ballot.is at c.take_ballot.ensures in
    ballot_fits c.args.bytes.now c.in-Some.rest.now c.in-Some-take_ballot.text.now c.in-Some.instance c.in-Some-take_ballot.ballot (λ i. omega (arith, c.type_inv.bytes i)) (sym i) (sym b)

pub follow_accept-requires-clause-ballot : goal.follow_accept-requires-clause-ballot
follow_accept-requires-clause-ballot c =
    let i = rw c.in-Some.is at c.take_u64.ensures in
    let b = rw c.in-Some-take_ballot.is at c.take_ballot.ensures in
    ballot_fits c.args.bytes.now c.in-Some.rest.now c.in-Some-take_ballot.text.now c.in-Some.instance c.in-Some-take_ballot.ballot (λ i. omega (arith, c.type_inv.bytes i)) (sym i) (sym b)

pub follow_accept-requires-clause-decision : goal.follow_accept-requires-clause-decision
follow_accept-requires-clause-decision c =
    let i = rw c.in-Some.is at c.take_u64.ensures in
    let b = rw c.in-Some-take_ballot.is at c.take_ballot.ensures in
    let d = rw c.in-Some-2.is at c.in_ok-decision.ensures in
    let ok = text_bytes c.args.bytes.now c.in-Some.rest.now c.in-Some-take_ballot.text.now c.in-Some.instance c.in-Some-take_ballot.ballot (λ i. omega (arith, c.type_inv.bytes i)) (sym i) (sym b) in
    (before_rest c.in-Some-take_ballot.text.now c.in-Some-2.rest.now c.in-Some-2.decision ok (sym d)).0

pub returns : goal.returns
returns c =
    let i = rw c.in-Some.is at c.take_u64.ensures in
    let b = rw c.in-Some-take_ballot.is at c.take_ballot.ensures in
    let d = rw c.in-Some-2.is at c.in_ok-decision.ensures in
    let ok = text_bytes c.args.bytes.now c.in-Some.rest.now c.in-Some-take_ballot.text.now c.in-Some.instance c.in-Some-take_ballot.ballot (λ i. omega (arith, c.type_inv.bytes i)) (sym i) (sym b) in
    record {
      rec = Rec.Accept c.in-Some.instance c.in-Some-take_ballot.ballot c.in-Some-2.decision;
      is = accept_is c.args.bytes.now c.in-Some.rest.now c.in-Some-take_ballot.text.now c.in-Some-2.rest.now c.in-Some.instance c.in-Some-take_ballot.ballot c.in-Some-2.decision (sym i) (sym b) (sym d);
      keeps = λ me n log s.
          let same = subst (λ (l : Ledger). LedgerStands me n l log) (sym c.in_default-accept_again.ensures) s in
          let fit = sym (c.fits_accept.ensures me n log same.says) ∙ c.if-not-fits_accept.false in
          (fit, record { unspent = c.follow_accept.ensures.mark ∙ same.unspent; says = c.follow_accept.ensures.kept c.in-Some.instance me n log same.says fit });
      at_hand_is = subst (IsAtHand _) (sym c.follow_accept.ensures.accepted) (λ _. before_rest c.in-Some-take_ballot.text.now c.in-Some-2.rest.now c.in-Some-2.decision ok (sym d));
      tail_is = subst (IsTail c.args.tail.now) (sym (c.follow_accept.ensures.known ∙ ap (λ (l : Ledger). l.known) c.in_default-accept_again.ensures)) c.requires.tail;
    }
