use Rattle.std.proofs.Common.{◌≡◌, refl, sym, arith}
use Rattle.crsm_spec.specs.Lists.{numbers_below}
use Rattle.crsm_mpspec.proofs.ReceiverLemmas.{take-others_before, take-others_beyond}
use Rattle.crsm_mpspec.proofs.multicast.MpReceivers.first.Goals as goal
use Rattle.crsm_mpspec.proofs.multicast.MpReceivers.first.Goals.{then-count-me, else-count-me}

pub returns-in-One-2 : goal.returns-in-One-2
unfolding numbers_below
returns-in-One-2 c =
    let none : c.args.count ≡ 0 = omega arith in
    rw none refl

pub returns-after-count-me : goal.returns-after-count-me
returns-after-count-me c =
    rw c.in-Others.is (sym (elim c.if-count-me.branch [
      | then-count-me w ↦ take-others_before c.in-Others.me c.in-Others.n c.args.count c.min.result w.if-count-me.true (omega (arith, c.min.ensures, w.end-is))
      | else-count-me w ↦ take-others_beyond c.in-Others.me c.in-Others.n c.args.count c.min.result w.if-count-me.false (omega (arith, c.min.ensures, w.end-is, w.saturating_add-end.ensures))
    ]))
