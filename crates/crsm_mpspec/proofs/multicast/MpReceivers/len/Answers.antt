use Rattle.std.proofs.Common.{◌≡◌, arith}
use Rattle.crsm_mpspec.proofs.ReceiverLemmas.{length-others, length-others_all}
use Rattle.crsm_mpspec.proofs.multicast.MpReceivers.len.Goals as goal

pub returns-in-Others : goal.returns-in-Others
returns-in-Others c = rw c.in-Others.is (omega (arith, length-others c.in-Others.me c.in-Others.n c.if-me-n.true))

pub returns-in-Others-2 : goal.returns-in-Others-2
returns-in-Others-2 c =
    let same : c.in-Others.n ≡ c.in-Others-2.n = cc in
    rw c.in-Others.is (omega (arith, same, length-others_all c.in-Others.me c.in-Others.n c.if-me-n.false))
