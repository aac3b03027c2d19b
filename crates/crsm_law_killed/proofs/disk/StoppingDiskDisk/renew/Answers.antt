use Rattle.std.proofs.Common.{arith, refl}
use Rattle.crsm_law_killed.specs.Calls.{renews}
use Rattle.crsm_law_killed.proofs.Handed.{one_more}
use Rattle.crsm_law_killed.proofs.disk.StoppingDiskDisk.renew.Goals as goal

pub invariant_of-self-2 : goal.invariant_of-self-2
invariant_of-self-2 g c = record {
  handed = one_more c.args.self.now.handed (c.if-not-takes_one.ensures.some.0 refl) c.takes_one.ensures.counts (omega arith)
      (renews c.args.at c.renew.result c.renew.ensures);
}
