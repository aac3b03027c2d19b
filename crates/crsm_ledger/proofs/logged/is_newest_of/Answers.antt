use Rattle.crsm_ledger.proofs.LoggedLemmas.{range-newest}
use Rattle.crsm_ledger.proofs.logged.is_newest_of.Goals as goal

pub returns : goal.returns
returns c = λ done es all.
    rw c.has_origin.ensures
    (range-newest done c.args.entry.now c.args.items.now es c.count_before.result all c.count_before.ensures.bound c.count_before.ensures.point)
