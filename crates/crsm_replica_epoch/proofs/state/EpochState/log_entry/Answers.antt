use Rattle.std.proofs.Common.{◌∙◌, ap, sym}
use Rattle.crsm_replica_epoch.specs.EpochState.{is_above}
use Rattle.crsm_replica_epoch.proofs.Kept.{with_pending, each_fits, the_waiting}
use Rattle.crsm_replica_epoch.proofs.Recorded.{waits_with, waits_without}
use Rattle.crsm_replica_epoch.proofs.state.EpochState.log_entry.Goals as goal

pub returns-in_ok-add : goal.returns-in_ok-add
returns-in_ok-add c r s last fit =
    with_pending c.args.self.now r c.add.new.self _ r.votes s (fit, each_fits c.args.self.now r s)
    (waits_with c.args.self.now.pending c.add.new.self r.votes r.me r.n r.log c.args.entry.now fit
    (ap (λ o. is_above o c.args.entry.now.stamp) (sym last) ∙ sym c.is_above.ensures ∙ c.if-is_above.true) c.in_ok-add.ensures.ok (the_waiting c.args.self.now r s))

pub returns-else-is_above : goal.returns-else-is_above
returns-else-is_above c r s last fit =
    with_pending c.args.self.now r c.args.self.now.pending _ r.votes s (fit, each_fits c.args.self.now r s)
    (waits_without c.args.self.now.pending r.votes r.me r.n r.log c.args.entry.now fit
    (ap (λ o. is_above o c.args.entry.now.stamp) (sym last) ∙ sym c.is_above.ensures ∙ c.if-is_above.false) (the_waiting c.args.self.now r s))
