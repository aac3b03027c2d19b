use Rattle.crsm_lease.proofs.Asked.{asked_are}
use Rattle.crsm_lease.proofs.laws.asked_are_grants_or_returns.Goals as goal

pub returns : goal.returns
returns c = λ action me op a. asked_are action me op a
