use Rattle.std.proofs.Common.{◌≡◌, ◌∙◌, ℕ, ◌<◌, subst, ap, refl}
use Rattle.std.specs.Prelude.{◌^◌, Some, filter, not}
use Rattle.std.proofs.lemmas.Result.{IfOk-weaker}
use Rattle.crsm_base.specs.Spelling.{FitsBallot, FitsOption}
use Rattle.crsm_spec.specs.Types.{Ballot}
use Rattle.crsm_spec.specs.Log.{decision}
use Rattle.crsm_spec.specs.Lists.{has}
use Rattle.crsm_spec.specs.Replica.{Coordinator, others}
use Rattle.crsm_replica_coordinator.specs.Coordinator.{CoordinatorStands, counted_of}
use Rattle.crsm_replica.specs.Replica.{ReplicaStands}
use Rattle.crsm_replica_reconfigure.specs.Stages.{round_of}
use Rattle.crsm_replica_reconfigure.proofs.ProposeLemmas.{ask_as, none_proposed, own_next, rounds_same}
use Rattle.crsm_replica_coordinator.proofs.Coordinators.{asking_mine}
use Rattle.crsm_replica_reconfigure.proofs.sending.send_ask.Goals as goal

pub returns-in_default : goal.returns-in_default
unfolding round_of
returns-in_default c = λ x b own answers s e.
    let found : c.round_in-found.result ≡ Some (own.epoch, b) = c.round_in-found.ensures.value x.replica.me x.replica.n (decision x.replica.log) (Coordinator.Preparing b own answers) (subst (λ z. CoordinatorStands c.coordinator.result.now x.replica.me x.replica.n (decision x.replica.log) z) e (c.coordinator.ensures x s)) in
    absurd (none_proposed c.round_in-found.result (own.epoch, b) found c.in_default.is)

pub tell_each-requires-clause-spelt : goal.tell_each-requires-clause-spelt
tell_each-requires-clause-spelt c =
    subst (FitsOption (λ (r : ℕ × Ballot). (r.0 < 2 ^ 64) × FitsBallot r.1)) c.in-Some.is c.round_in-found.ensures.fits

pub returns : goal.returns
unfolding round_of
returns c =
    IfOk-weaker c.tell_each.result _ _ (λ _ made x b own answers s e.
    let m : Coordinator = Coordinator.Preparing b own answers in
    let stands = subst (λ z. CoordinatorStands c.coordinator.result.now x.replica.me x.replica.n (decision x.replica.log) z) e (c.coordinator.ensures x s) in
    let mine = asking_mine x.replica.me x.replica.n (decision x.replica.log) c.coordinator.result.now b own answers stands in
    let found : c.round_in-found.result ≡ Some (own.epoch, b) = c.round_in-found.ensures.value x.replica.me x.replica.n (decision x.replica.log) m stands in
    let both = rounds_same c.round_in-found.result c.in-Some.instance own.epoch c.in-Some.ballot b c.in-Some.is found in
    let own_is : c.in-Some.instance ≡ own.epoch = both.0 in
    let same : c.in-Some.ballot ≡ b = both.1 in
    let next = own_is ∙ own_next x x.replica.me x.replica.n own mine.0 in
    subst (λ y. ReplicaStands c.tell_each.new.state y)
    (ask_as b own answers x c.in-Some.ballot c.in-Some.instance (others x.replica) c.in_ok-missing.missing.items same next refl
    (c.in_ok-missing.ensures.value x s ∙ ap (λ n. filter (λ k. not (has (counted_of n) k)) (others x.replica)) e)) (made x s)) c.tell_each.ensures
