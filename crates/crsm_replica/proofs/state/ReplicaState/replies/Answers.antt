use Rattle.std.proofs.Common.{sym, subst}
use Rattle.crsm_spec.specs.Draft.{Draft}
use Rattle.crsm_replica.specs.Replica.{ReplicaStands}
use Rattle.crsm_replica.proofs.state.ReplicaState.replies.Goals as goal

pub returns-then-all_wait : goal.returns-then-all_wait
returns-then-all_wait c x s = subst (λ (y : Draft). ReplicaStands c.args.self.now y) (sym (c.all_wait.ensures c.if-all_wait.true x s)) s
