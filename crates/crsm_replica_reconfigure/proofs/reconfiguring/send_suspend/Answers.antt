use Rattle.std.proofs.Common.{ℕ, subst}
use Rattle.std.specs.Prelude.{None}
use Rattle.std.proofs.lemmas.Result.{IfOk-weaker}
use Rattle.crsm_spec.specs.Types.{Control}
use Rattle.crsm_spec.specs.Draft.{send_to_all}
use Rattle.crsm_replica.specs.Replica.{ReplicaStands}
use Rattle.crsm_replica_reconfigure.proofs.reconfiguring.send_suspend.Goals as goal

pub returns : goal.returns
returns c =
    IfOk-weaker c.tell_all.result _ _ (λ _ made x s.
    subst (λ (e : ℕ). ReplicaStands c.tell_all.new.state (send_to_all (Control.Suspend e None) x)) (c.known-epoch.ensures x s) (made x s)) c.tell_all.ensures
