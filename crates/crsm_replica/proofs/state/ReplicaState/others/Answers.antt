use Rattle.std.proofs.Common.{◌≡◌, ◌∙◌, ℕ, subst, List}
use Rattle.std.proofs.lemmas.Result.{IfOk-weaker}
use Rattle.crsm_spec.specs.Replica.{spec_of, others}
use Rattle.crsm_replica.specs.Replica.{ReplicaStands}
use Rattle.crsm_replica.proofs.Excepting.{but_for}
use Rattle.crsm_replica.proofs.state.ReplicaState.others.Goals as goal

pub returns-clause-value : goal.returns-clause-value
unfolding ReplicaStands others spec_of
returns-clause-value c x s =
    let is = c.as_slice.ensures.value ∙ c.counted.ensures x.replica.me x.replica.n x.replica.log s.ledger in
    IfOk-weaker c.except.result _ _ (λ ks value.
    let mine = subst (λ (m : ℕ). ks.items ≡ but_for m c.as_slice.result.now) s.me value in
    subst (λ (ms : List ℕ). ks.items ≡ but_for x.replica.me ms) is mine) c.except.ensures.value

pub returns-clause-below : goal.returns-clause-below
returns-clause-below c = c.except.ensures.below c.as_slice.ensures.below
