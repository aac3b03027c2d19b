use Rattle.crsm_replica_epoch.proofs.Kept.{with_acks, the_links}
use Rattle.crsm_replica_epoch.proofs.state.EpochState.acked.Goals as goal

pub returns : goal.returns
returns c r s within = with_acks c.args.self.now r c.args.k c.args.next c.acked.new.self s (c.acked.ensures r (the_links c.args.self.now r s) within)
