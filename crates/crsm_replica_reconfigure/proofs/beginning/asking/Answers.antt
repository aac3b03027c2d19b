use Rattle.std.proofs.Common.{[], ◌∷◌, sym, subst}
use Rattle.crsm_spec.specs.Log.{decision, spec}
use Rattle.crsm_spec.specs.Quorum.{spec_decided}
use Rattle.crsm_spec.specs.Replica.{spec_of}
use Rattle.crsm_replica_coordinator.specs.Coordinator.{CoordinatorStands, IsOwn, answered}
use Rattle.crsm_replica_reconfigure.proofs.beginning.asking.Goals as goal

pub returns : goal.returns
unfolding spec_of spec
returns c = λ x round s own r.
    let known = decision x.replica.log in
    let me = c.me-me.ensures.value x s in
    let held = c.in-Ok.ensures.value x s in
    let stands = c.in_ok-coordinator.ensures x.replica.n round known (subst (λ k. IsOwn k x.replica.n known c.args.own) (sym me) own) (c.in-Ok-spec.ensures x s) r in
    let mine = subst (λ k. CoordinatorStands c.in_ok-coordinator.coordinator k x.replica.n known (answered (spec_decided x.replica.n known) (record { round = round; by = k }) c.args.own (record { replica = k; accepted = c.in-Ok.accepted } ∷ []))) me stands in
    subst (λ h. CoordinatorStands c.in_ok-coordinator.coordinator x.replica.me x.replica.n known (answered (spec_decided x.replica.n known) (record { round = round; by = x.replica.me }) c.args.own (record { replica = x.replica.me; accepted = h } ∷ []))) held mine
