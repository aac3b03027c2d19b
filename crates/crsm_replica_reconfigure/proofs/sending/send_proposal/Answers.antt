use Rattle.std.proofs.Common.{◌≡◌, ◌∙◌, ℕ, ◌<◌, refl, sym, subst, ap}
use Rattle.std.specs.Prelude.{◌^◌, None, filter, not}
use Rattle.std.proofs.lemmas.Result.{IfOk-weaker}
use Rattle.crsm_base.specs.Messages.{FitsVote}
use Rattle.crsm_base.specs.Spelling.{FitsBallot, FitsOption}
use Rattle.crsm_spec.specs.Types.{Ballot}
use Rattle.crsm_spec.specs.Log.{decision}
use Rattle.crsm_spec.specs.Lists.{has}
use Rattle.crsm_spec.specs.Replica.{Coordinator, others}
use Rattle.crsm_spec.specs.Coordinate.{send_proposal}
use Rattle.crsm_replica_coordinator.specs.Coordinator.{CoordinatorStands, proposal_of, counted_of}
use Rattle.crsm_replica_coordinator.proofs.Coordinators.{proposing_mine}
use Rattle.crsm_replica.specs.Replica.{ReplicaStands}
use Rattle.crsm_replica_reconfigure.proofs.ProposeLemmas.{proposal_as, own_next, none_told, no_round, round_is, is_proposal}
use Rattle.crsm_replica_reconfigure.proofs.sending.send_proposal.Goals as goal

pub returns-in_default : goal.returns-in_default
returns-in_default c = λ x s.
    let none = no_round x.replica.coordinator (sym (c.round_in-round.ensures.value x.replica.me x.replica.n (decision x.replica.log) x.replica.coordinator (c.coordinator.ensures x s)) ∙ c.in_default.is) in
    subst (λ y. ReplicaStands c.args.state.now y) (sym (none_told x.replica.coordinator x none)) s

pub returns-in_default-found : goal.returns-in_default-found
returns-in_default-found c = λ x s.
    let none : proposal_of x.replica.coordinator ≡ None = sym (c.in_ok-found.ensures.value x.replica.me x.replica.n (decision x.replica.log) x.replica.coordinator (c.coordinator-2.ensures x s)) ∙ c.in_default-found.is in
    subst (λ y. ReplicaStands c.args.state.now y) (sym (none_told x.replica.coordinator x none)) s

pub tell_each-requires-clause-spelt : goal.tell_each-requires-clause-spelt
tell_each-requires-clause-spelt c =
    let round = subst (FitsOption (λ (r : ℕ × Ballot). (r.0 < 2 ^ 64) × FitsBallot r.1)) c.in-Some.is c.round_in-round.ensures.fits in
    let vote = subst (FitsOption FitsVote) c.in-Some-found.is c.in_ok-found.ensures.fits in
    (round.0, vote.0, vote.1)

pub returns : goal.returns
returns c =
    IfOk-weaker c.tell_each.result _ _ (λ _ made x s.
    let found = sym (c.in_ok-found.ensures.value x.replica.me x.replica.n (decision x.replica.log) x.replica.coordinator (c.coordinator-2.ensures x s)) ∙ c.in-Some-found.is in
    let p = is_proposal x.replica.coordinator (c.in-Some-found.ballot, c.in-Some-found.decision) found in
    let m : Coordinator = Coordinator.Proposing c.in-Some-found.ballot p.own c.in-Some-found.decision p.acceptors in
    let stands = subst (λ z. CoordinatorStands c.coordinator.result.now x.replica.me x.replica.n (decision x.replica.log) z) p.is (c.coordinator.ensures x s) in
    let mine = proposing_mine x.replica.me x.replica.n (decision x.replica.log) c.coordinator.result.now c.in-Some-found.ballot p.own c.in-Some-found.decision p.acceptors stands in
    let own_is : c.in-Some.instance ≡ p.own.epoch = round_is c.in-Some-found.ballot p.own c.in-Some-found.decision p.acceptors c.in-Some.instance _
    (sym (c.round_in-round.ensures.value x.replica.me x.replica.n (decision x.replica.log) m stands) ∙ c.in-Some.is) in
    let next = own_is ∙ own_next x x.replica.me x.replica.n p.own mine.0 in
    subst (λ y. ReplicaStands c.tell_each.new.state y)
    (proposal_as c.in-Some-found.ballot p.own c.in-Some-found.decision p.acceptors x c.in-Some-found.ballot c.in-Some-found.decision c.in-Some.instance (others x.replica) c.in-Ok.missing.items refl refl next refl
    (c.in-Ok.ensures.value x s ∙ ap (λ n. filter (λ k. not (has (counted_of n) k)) (others x.replica)) p.is)
    ∙ ap (λ n. send_proposal n x) (sym p.is)) (made x s)) c.tell_each.ensures
