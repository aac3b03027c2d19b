use Rattle.crsm_replica_epoch.proofs.First.{first_is_ready}
use Rattle.crsm_replica_epoch.proofs.state.EpochState.ready.Goals as goal

pub returns : goal.returns
returns c r s members spec a = first_is_ready c.args.self.now r c.ready.result c.args.members.now c.args.spec.now s members spec a c.ready.ensures
