use Rattle.std.proofs.Common.{◌≡◌, ◌<◌, ℕ, [], ◌∷◌, ◌++◌, subst}
use Rattle.std.proofs.lemmas.Result.{IfOk-weaker}
use Rattle.crsm_replica.specs.Replica.{ReplicaStands}
use Rattle.crsm_base.specs.declared.datagram.Datagram.TheVariants as datagram
use Rattle.crsm_fact_log.proofs.Lists.{all-push}
use Rattle.crsm_replica_output.specs.Made.{made_of, OutputStands}
use Rattle.crsm_spec.specs.Types.{Datagram}
use Rattle.crsm_spec.specs.Log.{known}
use Rattle.crsm_spec.specs.Replica.{next_from}
use Rattle.crsm_spec.specs.Draft.{send}
use Rattle.crsm_spec.specs.Frames.{ack}
use Rattle.crsm_replica.specs.Sound.{FitsSend}
use Rattle.crsm_replica.proofs.Rebuilt.{sent}
use Rattle.crsm_replica.proofs.state.ReplicaState.ack.Goals as goal

pub returns : goal.returns
unfolding ReplicaStands ack send
returns c =
    IfOk-weaker c.send.result _ _ (λ _ is x s.
    let epoch : c.known-epoch.result ≡ known x.replica.log = c.known-epoch.ensures x s in
    let next : c.next_from-next.result ≡ next_from x.replica c.args.k = c.next_from-next.ensures x.replica s.epoch_state in
    let one : Datagram = datagram.Ack x.replica.me c.args.k (known x.replica.log) (next_from x.replica c.args.k) in
    let small : c.known-epoch.result < 18446744073709551616 = c.known-epoch.type_inv in
    let few : c.next_from-next.result < 18446744073709551616 = c.next_from-next.type_inv in
    sent c.args.self.now x c.send.new.self x.excess (x.sends ++ (c.args.k, one) ∷ []) x.replies s
    (subst (λ (d : Datagram). OutputStands c.send.new.self (record (made_of x) { sends = x.sends ++ (c.args.k, d) ∷ [] })) (λ j. datagram.Ack (s.me j) c.args.k (epoch j) (next j))
    (is (made_of x) s.output))
    (all-push FitsSend x.sends (c.args.k, one) s.sound.sends
    (c.requires, (s.sound.number, c.requires, subst (λ (n : ℕ). n < 18446744073709551616) epoch small, subst (λ (n : ℕ). n < 18446744073709551616) next few)))
    s.sound.replies) c.send.ensures
