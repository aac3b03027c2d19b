use Rattle.std.proofs.lemmas.Result.{IfOk-weaker}
use Rattle.crsm_spec.specs.Coordinate.{accept_own}
use Rattle.crsm_spec.specs.Step.{renew}
use Rattle.crsm_replica_reconfigure.proofs.renewing.accept_and_send.Goals as goal

pub returns : goal.returns
unfolding renew
returns c =
    IfOk-weaker c.send_proposal.result _ _ (λ _ made x b own value acceptors s e f.
    made (accept_own b own value acceptors x) (c.in_ok-accept_own.ensures x b own value acceptors s e f)) c.send_proposal.ensures
