use Rattle.crsm_replica_epoch.proofs.Kept.{with_frame, the_links}
use Rattle.crsm_replica_epoch.proofs.state.EpochState.take_next.Goals as goal

pub returns : goal.returns
returns c r s above =
    with_frame c.args.self.now r c.args.k c.args.time c.take_next.new.self c.receive.new.self s above
    (c.take_next.ensures r (the_links c.args.self.now r s) above) c.receive.ensures
