use Rattle.std.proofs.Common.{◌∙◌, sym}
use Rattle.crsm_replica_epoch.proofs.Kept.{with_owed, the_debts, first_is, first_paid}
use Rattle.crsm_replica_epoch.proofs.state.EpochState.paid.Goals as goal

pub returns-in-Some : goal.returns-in-Some
returns-in-Some c r s ss k owed =
    with_owed c.args.self.now r c.done.new.self ss k
    (c.done.ensures ∙ first_paid c.args.self.now.owed c.in-Some.stamp s ss (the_debts c.args.self.now r k ∙ owed) (sym c.first.ensures ∙ c.in-Some.is))

pub returns-in_default : goal.returns-in_default
returns-in_default c r s ss k owed =
    absurd (c.in_default.not-Some s (c.first.ensures ∙ first_is c.args.self.now.owed s ss (the_debts c.args.self.now r k ∙ owed)))
