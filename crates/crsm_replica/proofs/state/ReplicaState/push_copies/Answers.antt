use Rattle.std.proofs.Common.{◌≡◌, ◌∙◌, ◌<◌, ap, arith}
use Rattle.std.specs.Prelude.{◌==◌, not}
use Rattle.std.proofs.lemmas.List.Elements.{All-filter}
use Rattle.std.proofs.lemmas.Result.{IfOk-weaker}
use Rattle.crsm_replica_output.specs.Made.{made_of}
use Rattle.crsm_replica_epoch.specs.Linked.{others_of}
use Rattle.crsm_spec.specs.Draft.{would}
use Rattle.crsm_spec.specs.Log.{known}
use Rattle.crsm_spec.specs.Replica.{members_of, other_members}
use Rattle.crsm_fact_log.proofs.Known.{known-epoch, known-members}
use Rattle.crsm_replica.specs.Replica.{ReplicaStands}
use Rattle.crsm_replica.proofs.Framed.{pushed}
use Rattle.crsm_replica.proofs.state.ReplicaState.push_copies.Goals as goal

pub returns : goal.returns
unfolding ReplicaStands would members_of other_members
returns c =
    IfOk-weaker c.push_at.result _ _ (λ _ has x reading s fit is.
    let r = x.replica in
    let mine : c.me-number.result ≡ r.me = c.me-number.ensures.value x s in
    let now : c.known.result.now.epoch ≡ known r.log = ap (λ d. d.epoch) (c.known.ensures.value r.me r.n r.log s.ledger) ∙ known-epoch r.n r.log in
    let listed : c.known-2.result.now.members ≡ members_of r = ap (λ d. d.members) (c.known-2.ensures.value r.me r.n r.log s.ledger) ∙ known-members r.n r.log in
    let members : c.known-3.result.now.members ≡ members_of r = ap (λ d. d.members) (c.known-3.ensures.value r.me r.n r.log s.ledger) ∙ known-members r.n r.log in
    let others : others_of c.me-number.result c.as_slice.result.now ≡ other_members r =
    ap (λ me. others_of me c.as_slice.result.now) mine ∙ ap (others_of r.me) (c.as_slice.ensures.value ∙ listed) in
    pushed c.args.self.now x reading c.args.time c.args.payload.now c.send_next.new.output c.push_at.new.self (others_of c.me-number.result c.as_slice.result.now) s fit is (omega arith)
    others (All-filter (λ k. not (k == c.me-number.result)) (λ k. k < 15) c.as_slice.result.now c.as_slice.ensures.below) (c.in_ok-send_next.ensures r (made_of x) s.epoch_state s.output mine now)
    (has r reading s.epoch_state mine members is)) c.push_at.ensures
