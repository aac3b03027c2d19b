use Rattle.crsm_replica_epoch.proofs.Kept.{with_pending, each_fits, the_waiting}
use Rattle.crsm_replica_epoch.proofs.Recorded.{waits_committed}
use Rattle.crsm_replica_epoch.proofs.state.EpochState.commit.Goals as goal

pub returns : goal.returns
returns c r s fit =
    with_pending c.args.self.now r c.take.new.self _ r.votes s (fit, each_fits c.args.self.now r s)
    (waits_committed c.args.self.now.pending c.take.new.self r.votes r.me r.n r.log c.args.stamp (each_fits c.args.self.now r s) fit c.take.ensures.rest (the_waiting c.args.self.now r s))
