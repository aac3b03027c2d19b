use Rattle.std.proofs.Common.{[], ◌∷◌, ◌++◌}
use Rattle.std.proofs.lemmas.Result.{IfOk-weaker}
use Rattle.crsm_replica.specs.Replica.{ReplicaStands}
use Rattle.crsm_fact_log.proofs.Lists.{all-push}
use Rattle.crsm_replica_output.specs.Made.{made_of}
use Rattle.crsm_spec.specs.Draft.{send}
use Rattle.crsm_replica.specs.Sound.{FitsSend}
use Rattle.crsm_replica.proofs.Rebuilt.{sent}
use Rattle.crsm_replica.proofs.state.ReplicaState.send.Goals as goal

pub returns : goal.returns
unfolding ReplicaStands send
returns c =
    IfOk-weaker c.send.result _ _ (λ _ is x s.
    sent c.args.self.now x c.send.new.self x.excess (x.sends ++ (c.args.k, c.args.datagram) ∷ []) x.replies s
    (is (made_of x) s.output)
    (all-push FitsSend x.sends (c.args.k, c.args.datagram) s.sound.sends (c.requires.to, c.requires.spelt)) s.sound.replies) c.send.ensures
