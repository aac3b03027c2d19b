use Rattle.std.proofs.Common.{◌++◌, ◌∷◌, [], sym, subst}
use Rattle.crsm_base.specs.Messages.{FitsVote}
use Rattle.crsm_base.specs.Spelling.{FitsOption}
use Rattle.crsm_spec.specs.Types.{Decision}
use Rattle.crsm_spec.specs.Log.{decision, spec}
use Rattle.crsm_spec.specs.Paxos.{Held}
use Rattle.crsm_spec.specs.Quorum.{spec_decided}
use Rattle.crsm_spec.specs.Replica.{Coordinator, spec_of}
use Rattle.crsm_spec.specs.Draft.{noting}
use Rattle.crsm_replica_coordinator.specs.Coordinator.{CoordinatorStands, answered}
use Rattle.crsm_replica.specs.Replica.{ReplicaStands}
use Rattle.crsm_replica_reconfigure.proofs.ChoiceLemmas.{noted_twice}
use Rattle.crsm_replica_reconfigure.proofs.answering.put_answer.Goals as goal

pub with_answer-requires-clause-accepted : goal.with_answer-requires-clause-accepted
with_answer-requires-clause-accepted c = subst (FitsOption FitsVote) (sym c.in_ok-accepted.ensures) c.requires.spelt

pub returns : goal.returns
unfolding spec_of spec noting
returns c = λ x b own answers s e h n.
    let known = decision x.replica.log in
    let same = c.in_ok-accepted.ensures in
    let taken = subst (λ z. CoordinatorStands c.take_coordinator-coordinator.result x.replica.me x.replica.n known z) e (c.take_coordinator-coordinator.ensures.coordinator x s) in
    let stands = c.in_ok-coordinator.ensures x.replica.me x.replica.n known b own answers taken h n in
    let m : Coordinator = answered (spec_decided x.replica.n known) b own (answers ++ record { replica = c.args.k; accepted = c.in_ok-accepted.accepted } ∷ []) in
    let set = c.set_coordinator.ensures (noting Coordinator.Idle x) m (c.take_coordinator-coordinator.ensures.quiet x s) stands in
    subst (λ (o : Held Decision). ReplicaStands c.set_coordinator.new.self (noting (answered (spec_decided x.replica.n known) b own (answers ++ record { replica = c.args.k; accepted = o } ∷ [])) x)) same
    (subst (λ y. ReplicaStands c.set_coordinator.new.self y) (noted_twice m x) set)
