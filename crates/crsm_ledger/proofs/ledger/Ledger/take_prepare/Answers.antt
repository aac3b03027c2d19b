use Rattle.std.proofs.Common.{arith, sym}
use Rattle.crsm_ledger.proofs.TakenRecords.{entry_fits}
use Rattle.crsm_ledger.proofs.ledger.Ledger.take_prepare.Goals as goal

pub follow_prepare-requires-clause-fits : goal.follow_prepare-requires-clause-fits
follow_prepare-requires-clause-fits c =
    let e = rw c.in-Some.is at c.in_ok-entry.ensures in
    entry_fits c.args.bytes.now c.in-Some.rest.now c.in-Some.entry (λ i. omega (arith, c.type_inv.bytes i)) (sym e)
