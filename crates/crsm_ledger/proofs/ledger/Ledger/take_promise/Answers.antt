use Rattle.std.proofs.Common.{arith, sym}
use Rattle.crsm_ledger.proofs.TakenRecords.{ballot_fits}
use Rattle.crsm_ledger.proofs.ledger.Ledger.take_promise.Goals as goal

pub follow_promise-requires : goal.follow_promise-requires
follow_promise-requires c =
    let i = rw c.in-Some.is at c.take_u64.ensures in
    let b = rw c.in-Some-take_ballot.is at c.take_ballot.ensures in
    ballot_fits c.args.bytes.now c.in-Some.rest.now c.in-Some-take_ballot.text.now c.in-Some.instance c.in-Some-take_ballot.ballot (λ i. omega (arith, c.type_inv.bytes i)) (sym i) (sym b)
