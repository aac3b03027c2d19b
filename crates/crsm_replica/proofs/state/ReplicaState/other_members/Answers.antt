use Rattle.std.proofs.Common.{◌≡◌, ◌∙◌, ℕ, ap, subst, List}
use Rattle.std.proofs.lemmas.Result.{IfOk-weaker}
use Rattle.crsm_spec.specs.Types.{Decision}
use Rattle.crsm_spec.specs.Replica.{members_of, other_members}
use Rattle.crsm_fact_log.proofs.Known.{known-members}
use Rattle.crsm_replica.specs.Replica.{ReplicaStands}
use Rattle.crsm_replica.proofs.Excepting.{but_for}
use Rattle.crsm_replica.proofs.state.ReplicaState.other_members.Goals as goal

pub returns-clause-value : goal.returns-clause-value
unfolding ReplicaStands other_members members_of
returns-clause-value c x s =
    let is = c.as_slice.ensures.value ∙ ap (λ (d : Decision). d.members) (c.known.ensures.value x.replica.me x.replica.n x.replica.log s.ledger) ∙ known-members x.replica.n x.replica.log in
    IfOk-weaker c.except.result _ _ (λ ks value.
    let mine = subst (λ (m : ℕ). ks.items ≡ but_for m c.as_slice.result.now) s.me value in
    subst (λ (ms : List ℕ). ks.items ≡ but_for x.replica.me ms) is mine) c.except.ensures.value

pub returns-clause-below : goal.returns-clause-below
returns-clause-below c = c.except.ensures.below c.as_slice.ensures.below
