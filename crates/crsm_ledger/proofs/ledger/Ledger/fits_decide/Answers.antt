use Rattle.std.proofs.Common.{◌≤◌, arith}
use Rattle.crsm_ledger.proofs.ReadLemmas.{n-is}
use Rattle.crsm_ledger.proofs.FitsLemmas.{fits-decide}
use Rattle.crsm_ledger.proofs.ledger.Ledger.fits_decide.Goals as goal

pub returns : goal.returns
returns c = λ me n log s.
    let few : c.args.self.now.n ≤ 15 = omega (arith, n-is s, s.few) in
    cc (fits-decide s c.args.decision.now, c.has_members-has_members.ensures few)
