use Rattle.crsm_replica_epoch.proofs.Opening.{opened_inactive, opened_entered}
use Rattle.crsm_replica_epoch.proofs.state.EpochState.new.Goals as goal

pub returns-clause-inactive : goal.returns-clause-inactive
returns-clause-inactive c r fit idle = opened_inactive _ r c.new.ensures c.new-2.ensures c.new-4.ensures c.new-5.ensures c.new-3.ensures fit idle

pub returns-clause-entered : goal.returns-clause-entered
returns-clause-entered c r fit enters = opened_entered _ r c.new.ensures c.new-2.ensures c.new-4.ensures c.new-5.ensures c.new-3.ensures fit enters
