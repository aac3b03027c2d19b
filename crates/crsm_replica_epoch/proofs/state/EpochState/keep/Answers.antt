use Rattle.crsm_replica_epoch.proofs.Kept.{with_pending, each_fits, the_waiting}
use Rattle.crsm_replica_epoch.proofs.Recorded.{plain, waits_on}
use Rattle.crsm_replica_epoch.proofs.state.EpochState.keep.Goals as goal

pub returns-in_default : goal.returns-in_default
returns-in_default c r s last fit entering =
    with_pending c.args.self.now r c.args.self.now.pending _ r.votes s (fit, each_fits c.args.self.now r s)
    (waits_on c.args.self.now.pending r.votes r.me r.n r.log c.args.rec.now fit (plain c.args.rec.now c.in_default.not-Prepare c.in_default.not-Commit entering) (the_waiting c.args.self.now r s))
