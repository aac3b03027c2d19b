use Rattle.std.proofs.Common.{subst}
use Rattle.std.proofs.lemmas.Result.{IfOk-weaker}
use Rattle.crsm_spec.specs.Draft.{send_control}
use Rattle.crsm_replica.specs.Replica.{ReplicaStands}
use Rattle.crsm_replica_reconfigure.proofs.suspending.send_frozen.Goals as goal

pub tell-requires-clause-spelt : goal.tell-requires-clause-spelt
tell-requires-clause-spelt c = c.in_ok-control.ensures.fits c.requires.after

pub returns : goal.returns
returns c =
    IfOk-weaker c.tell.result _ _ (λ _ made x s.
    let is = c.in_ok-control.ensures.value x.replica.me x.replica.n x.replica.log (c.ledger.ensures.stands x s) in
    subst (λ m. ReplicaStands c.tell.new.state (send_control m x c.args.k)) is (made x s)) c.tell.ensures
