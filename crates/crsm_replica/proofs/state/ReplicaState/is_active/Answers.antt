use Rattle.std.proofs.Common.{sym, ◌∙◌}
use Rattle.crsm_replica.specs.Replica.{ReplicaStands}
use Rattle.crsm_spec.specs.Log.{active, live, suspended}
use Rattle.crsm_replica.proofs.Known.{held, free}
use Rattle.crsm_replica.proofs.state.ReplicaState.is_active.Goals as goal

pub returns-then-suspended : goal.returns-then-suspended
unfolding ReplicaStands active
returns-then-suspended c x s = held (live x.replica.log) (suspended x.replica.log) (sym (c.suspended.ensures x.replica.me x.replica.n x.replica.log s.ledger) ∙ c.if-suspended.true)

pub returns : goal.returns
unfolding ReplicaStands active
returns c x s =
    c.live.ensures x.replica.me x.replica.n x.replica.log s.ledger ∙ free (live x.replica.log) (suspended x.replica.log) (sym (c.suspended.ensures x.replica.me x.replica.n x.replica.log s.ledger) ∙ c.if-suspended.false)
