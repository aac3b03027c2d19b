use Rattle.std.proofs.Common.{◌∙◌, ap, sym}
use Rattle.crsm_commit.proofs.CommitRule.{not_counted}
use Rattle.crsm_replica_epoch.specs.EpochState.{is_above}
use Rattle.crsm_replica_epoch.proofs.Kept.{with_pending, each_fits, the_waiting}
use Rattle.crsm_replica_epoch.proofs.state.EpochState.count_vote.Goals as goal

pub returns-in_ok-voted : goal.returns-in_ok-voted
returns-in_ok-voted c r s last =
    with_pending c.args.self.now r c.voted.new.self r.log _ s (each_fits c.args.self.now r s) (λ a. c.in_ok-voted.ensures.ok _ _ _ (the_waiting c.args.self.now r s a))

pub returns-else-is_above : goal.returns-else-is_above
returns-else-is_above c r s last =
    with_pending c.args.self.now r c.args.self.now.pending r.log _ s (each_fits c.args.self.now r s)
    (λ a. not_counted _ _ _ _ c.args.stamp c.args.k (ap (λ o. is_above o c.args.stamp) (sym last) ∙ sym c.is_above.ensures ∙ c.if-is_above.false) (the_waiting c.args.self.now r s a))
