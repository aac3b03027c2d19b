use Rattle.std.proofs.Common.{◌≡◌, [], ◌∷◌, ◌++◌, subst}
use Rattle.std.proofs.lemmas.Result.{IfOk-weaker}
use Rattle.crsm_replica.specs.Replica.{ReplicaStands}
use Rattle.crsm_replica_output.specs.Made.{made_of, OutputStands}
use Rattle.crsm_spec.specs.Types.{Line}
use Rattle.crsm_spec.specs.Log.{known}
use Rattle.crsm_replica.proofs.Rebuilt.{sent}
use Rattle.crsm_replica.proofs.state.ReplicaState.refuse_collection.Goals as goal

pub returns : goal.returns
unfolding ReplicaStands
returns c =
    IfOk-weaker c.exceed.result _ _ (λ _ is x s.
    let epoch : c.known-epoch.result ≡ known x.replica.log = c.known-epoch.ensures x s in
    sent c.args.self.now x c.exceed.new.self (x.excess ++ Line.TooMany x.replica.me (known x.replica.log) c.args.count c.args.bytes ∷ []) x.sends x.replies s
    (subst (λ (line : Line). OutputStands c.exceed.new.self (record (made_of x) { excess = x.excess ++ line ∷ [] })) (λ j. Line.TooMany (s.me j) (epoch j) c.args.count c.args.bytes)
    (is (made_of x) s.output)) s.sound.sends s.sound.replies) c.exceed.ensures
