use Rattle.std.proofs.Common.{◌≡◌, ◌∙◌, sym, subst, ap, true}
use Rattle.std.specs.Prelude.{Some}
use Rattle.crsm_base.specs.Spelling.{FitsOption}
use Rattle.crsm_base.specs.Messages.{FitsVote}
use Rattle.crsm_spec.specs.Log.{decision}
use Rattle.crsm_spec.specs.Draft.{noting}
use Rattle.crsm_spec.specs.Lists.{has}
use Rattle.crsm_spec.specs.Replica.{Coordinator}
use Rattle.crsm_spec.specs.Quorum.{spec_decided}
use Rattle.crsm_spec.specs.Coordinate.{on_chosen, count_acceptor}
use Rattle.crsm_replica_coordinator.specs.Coordinator.{CoordinatorStands, proposal_of}
use Rattle.std.proofs.Common.{◌∷◌}
use Rattle.crsm_replica.specs.Replica.{ReplicaStands}
use Rattle.crsm_replica_reconfigure.proofs.ChoiceLemmas.{vote_last, vote_more, noted_twice, noted_fitting, spec_is, voted_more, same_value, voted_not_more}
use Rattle.crsm_replica_reconfigure.proofs.DraftLemmas.{is_whole, instead}
use Rattle.crsm_replica_reconfigure.proofs.ProposeLemmas.{none_proposed}
use Rattle.crsm_replica_reconfigure.proofs.counting.count_vote.Goals as goal

pub returns-then-is_last : goal.returns-then-is_last
unfolding proposal_of
returns-then-is_last c = λ x b own value acceptors s e h.
    let known = decision x.replica.log in
    let m : Coordinator = Coordinator.Proposing b own value acceptors in
    let of_spec : has (spec_decided x.replica.n (decision x.replica.log)) c.args.k ≡ true = ap (λ ks. has ks c.args.k) (sym (spec_is x.replica)) ∙ h in
    let many = sym (c.is_last_vote-is_last.ensures x.replica.me x.replica.n (decision x.replica.log) b own value acceptors
    (subst (λ z. CoordinatorStands c.coordinator.result.now x.replica.me x.replica.n (decision x.replica.log) z) e (c.coordinator.ensures x s)) of_spec) ∙ c.if-is_last.true in
    let again = subst (λ z. CoordinatorStands c.coordinator-then-is_last.result.now x.replica.me x.replica.n (decision x.replica.log) z) e (c.coordinator-then-is_last.ensures x s) in
    let found : c.in_ok-found.found ≡ Some (b, value) = c.in_ok-found.ensures.value x.replica.me x.replica.n (decision x.replica.log) m again in
    let same : c.in-Some.value ≡ value = same_value c.in_ok-found.found c.in-Some.field-0-0 b c.in-Some.value value c.in-Some.is found in
    let k = c.in-Ok.ensures x s in
    let rule : on_chosen c.in-Some.value x ≡ count_acceptor b own value acceptors c.args.k x = ap (λ d. on_chosen d x) same ∙ sym (vote_last b own value acceptors c.args.k x many) in
    (k.0 ∙ ap (λ y. y.fitting) rule, instead c.choose.new.state x _ _ rule k.1)

pub choose-requires : goal.choose-requires
choose-requires c = (subst (λ o. FitsOption FitsVote o) c.in-Some.is c.in_ok-found.ensures.fits).1

pub returns-in-More : goal.returns-in-More
unfolding noting
returns-in-More c = λ x b own value acceptors s e h.
    let of_spec : has (spec_decided x.replica.n (decision x.replica.log)) c.args.k ≡ true = ap (λ ks. has ks c.args.k) (sym (spec_is x.replica)) ∙ h in
    let few = sym (c.is_last_vote-is_last.ensures x.replica.me x.replica.n (decision x.replica.log) b own value acceptors
    (subst (λ z. CoordinatorStands c.coordinator.result.now x.replica.me x.replica.n (decision x.replica.log) z) e (c.coordinator.ensures x s)) of_spec) ∙ c.if-is_last.false in
    let taken = subst (λ z. CoordinatorStands c.take_coordinator-coordinator.result x.replica.me x.replica.n (decision x.replica.log) z) e (c.take_coordinator-coordinator.ensures.coordinator x s) in
    let voted = c.in_ok-voted.ensures x.replica.me x.replica.n (decision x.replica.log) b own value acceptors taken of_spec in
    let m : Coordinator = Coordinator.Proposing b own value (c.args.k ∷ acceptors) in
    let stands = voted_more c.in_ok-voted.voted c.in-More.coordinator x.replica.me x.replica.n (decision x.replica.log) b own value (c.args.k ∷ acceptors) c.in-More.is voted in
    let set = c.set_coordinator.ensures (noting Coordinator.Idle x) m (c.take_coordinator-coordinator.ensures.quiet x s) stands in
    let rule = vote_more b own value acceptors c.args.k x few in
    let fit : (count_acceptor b own value acceptors c.args.k x).fitting ≡ true = ap (λ y. y.fitting) rule ∙ noted_fitting m x ∙ (c.states_are_sound.ensures c.args.state.now x s).fitting in
    (sym fit, is_whole c.set_coordinator.new.self x _ fit (subst (λ y. ReplicaStands c.set_coordinator.new.self y) (noted_twice m x ∙ sym rule) set))

pub returns-in_default : goal.returns-in_default
unfolding proposal_of
returns-in_default c = λ x b own value acceptors s e h.
    let again = subst (λ z. CoordinatorStands c.coordinator-then-is_last.result.now x.replica.me x.replica.n (decision x.replica.log) z) e (c.coordinator-then-is_last.ensures x s) in
    let found : c.in_ok-found.found ≡ Some (b, value) = c.in_ok-found.ensures.value x.replica.me x.replica.n (decision x.replica.log) (Coordinator.Proposing b own value acceptors) again in
    absurd (none_proposed c.in_ok-found.found (b, value) found c.in_default.is)

pub returns-in_default-voted : goal.returns-in_default-voted
returns-in_default-voted c = λ x b own value acceptors s e h.
    let of_spec : has (spec_decided x.replica.n (decision x.replica.log)) c.args.k ≡ true = ap (λ ks. has ks c.args.k) (sym (spec_is x.replica)) ∙ h in
    let few = sym (c.is_last_vote-is_last.ensures x.replica.me x.replica.n (decision x.replica.log) b own value acceptors
    (subst (λ z. CoordinatorStands c.coordinator.result.now x.replica.me x.replica.n (decision x.replica.log) z) e (c.coordinator.ensures x s)) of_spec) ∙ c.if-is_last.false in
    let taken = subst (λ z. CoordinatorStands c.take_coordinator-coordinator.result x.replica.me x.replica.n (decision x.replica.log) z) e (c.take_coordinator-coordinator.ensures.coordinator x s) in
    let voted = c.in_ok-voted.ensures x.replica.me x.replica.n (decision x.replica.log) b own value acceptors taken of_spec in
    absurd (voted_not_more c.in_ok-voted.voted x.replica.me x.replica.n (decision x.replica.log) b own value (c.args.k ∷ acceptors) voted few c.in_default-voted.not-More)
