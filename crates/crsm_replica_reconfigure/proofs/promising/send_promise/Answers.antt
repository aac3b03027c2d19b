use Rattle.std.proofs.Common.{subst}
use Rattle.std.proofs.lemmas.Result.{IfOk-weaker}
use Rattle.crsm_spec.specs.Types.{Control}
use Rattle.crsm_spec.specs.Draft.{send_control}
use Rattle.crsm_spec.specs.Controls.{send_promise}
use Rattle.crsm_replica.specs.Replica.{ReplicaStands}
use Rattle.crsm_replica_reconfigure.proofs.promising.send_promise.Goals as goal

pub returns : goal.returns
unfolding send_promise
returns c =
    IfOk-weaker c.tell.result _ _ (λ _ made x s.
    subst (λ o. ReplicaStands c.tell.new.state (send_control (Control.P1b c.args.instance c.args.ballot o) x c.args.k)) (c.in_ok-accepted.ensures.value x s) (made x s)) c.tell.ensures
