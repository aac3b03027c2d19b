use Rattle.std.proofs.Common.{◌∙◌, ap}
use Rattle.crsm_spec.specs.Frames.{with_stamp}
use Rattle.crsm_replica_epoch.proofs.Kept.{with_owed, the_debts}
use Rattle.crsm_replica_epoch.proofs.state.EpochState.owe.Goals as goal

pub returns : goal.returns
returns c r s = with_owed c.args.self.now r c.add.new.self _ s (c.in_ok-add.ensures.ok ∙ ap (with_stamp c.args.stamp) (the_debts c.args.self.now r s))
