use Rattle.std.proofs.Common.{◌∙◌}
use Rattle.crsm_replica_epoch.proofs.Times.{latest_of_other}
use Rattle.crsm_replica_epoch.specs.EpochState.{EpochStands}
use Rattle.crsm_replica_epoch.proofs.state.EpochState.latest_from.Goals as goal

pub returns : goal.returns
unfolding EpochStands
returns c r s other = c.of.ensures _ s.latest ∙ latest_of_other r c.args.k other
