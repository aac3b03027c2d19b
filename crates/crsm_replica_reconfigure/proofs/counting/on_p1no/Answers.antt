use Rattle.std.proofs.Common.{◌∙◌, sym, subst, ap}
use Rattle.crsm_spec.specs.Log.{decision}
use Rattle.crsm_spec.specs.Draft.{noting}
use Rattle.crsm_spec.specs.Replica.{Coordinator}
use Rattle.crsm_replica_coordinator.specs.Coordinator.{preempted_by}
use Rattle.crsm_replica.specs.Replica.{ReplicaStands}
use Rattle.crsm_replica_reconfigure.proofs.ChoiceLemmas.{no_ends, no_ignored, noted_twice, noted_fitting}
use Rattle.crsm_replica_reconfigure.proofs.DraftLemmas.{is_whole, does_nothing, and_none, and_no, and_first}
use Rattle.crsm_replica_reconfigure.proofs.counting.on_p1no.Goals as goal

pub returns-then-not-counts : goal.returns-then-not-counts
returns-then-not-counts c = λ x s.
    does_nothing c.args.state.now x _ (no_ignored c.args.k c.args.instance c.args.ballot c.args.top x (and_none _ _ (sym (c.is_counted-counts.ensures x s) ∙ c.if-not-counts.true))) s

pub returns-then-not-is_ended : goal.returns-then-not-is_ended
returns-then-not-is_ended c = λ x s.
    does_nothing c.args.state.now x _ (no_ignored c.args.k c.args.instance c.args.ballot c.args.top x (and_no _ _
    (sym (c.is_ended_by-is_ended.ensures x.replica.me x.replica.n (decision x.replica.log) x.replica.coordinator (c.coordinator.ensures x s)) ∙ c.if-not-is_ended.true))) s

pub returns : goal.returns
unfolding noting
returns c = λ x s.
    let counts = sym (c.is_counted-counts.ensures x s) ∙ c.if-not-counts.false in
    let ended = sym (c.is_ended_by-is_ended.ensures x.replica.me x.replica.n (decision x.replica.log) x.replica.coordinator (c.coordinator.ensures x s)) ∙ c.if-not-is_ended.false in
    let is = no_ends c.args.k c.args.instance c.args.ballot c.args.top x (and_first _ _ counts ∙ ended) in
    let stands = c.preempted.ensures x.replica.me x.replica.n (decision x.replica.log) x.replica.coordinator (c.take_coordinator-coordinator.ensures.coordinator x s) in
    let set = c.set_coordinator.ensures (noting Coordinator.Idle x) (preempted_by x.replica.coordinator c.args.top) (c.take_coordinator-coordinator.ensures.quiet x s) stands in
    is_whole c.set_coordinator.new.self x _ (ap (λ y. y.fitting) is ∙ noted_fitting (preempted_by x.replica.coordinator c.args.top) x ∙ (c.states_are_sound.ensures c.args.state.now x s).fitting)
    (subst (λ y. ReplicaStands c.set_coordinator.new.self y) (noted_twice (preempted_by x.replica.coordinator c.args.top) x ∙ sym is) set)
