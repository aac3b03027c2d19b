use Rattle.std.proofs.Common.{◌∙◌, ◌++◌, ◌∷◌, [], subst, ap}
use Rattle.crsm_base.specs.Messages.{FitsVote}
use Rattle.crsm_base.specs.Spelling.{FitsOption}
use Rattle.crsm_spec.specs.Types.{Decision}
use Rattle.crsm_spec.specs.Log.{decision}
use Rattle.crsm_spec.specs.Paxos.{Answer, value_of}
use Rattle.crsm_spec.specs.Replica.{Coordinator}
use Rattle.crsm_spec.specs.Coordinate.{accept_own}
use Rattle.crsm_replica_coordinator.specs.Coordinator.{CoordinatorStands}
use Rattle.crsm_replica_reconfigure.proofs.AnswerLemmas.{last_fitting, proposes_with}
use Rattle.crsm_replica_reconfigure.proofs.ChoiceLemmas.{same_value, same_round}
use Rattle.crsm_replica_reconfigure.proofs.ProposeLemmas.{none_proposed}
use Rattle.crsm_replica_reconfigure.proofs.answering.may_propose_with.Goals as goal

pub returns-in_default : goal.returns-in_default
returns-in_default c = λ x b own answers s e h.
    let a : Answer Decision = record { replica = c.args.k; accepted = c.args.accepted.now } in
    let stands = subst (λ z. CoordinatorStands c.coordinator.result.now x.replica.me x.replica.n (decision x.replica.log) z) e (c.coordinator.ensures x s) in
    let found = c.in_ok-found.ensures.value x.replica.me x.replica.n (decision x.replica.log) (Coordinator.Preparing b own answers) stands ∙ proposes_with b own answers a in
    absurd (none_proposed c.in_ok-found.found (b, value_of own (answers ++ a ∷ [])) found c.in_default.is)

pub returns : goal.returns
returns c = λ x b own answers s e h.
    let a : Answer Decision = record { replica = c.args.k; accepted = c.args.accepted.now } in
    let v = value_of own (answers ++ a ∷ []) in
    let stands = subst (λ z. CoordinatorStands c.coordinator.result.now x.replica.me x.replica.n (decision x.replica.log) z) e (c.coordinator.ensures x s) in
    let found = c.in_ok-found.ensures.value x.replica.me x.replica.n (decision x.replica.log) (Coordinator.Preparing b own answers) stands ∙ proposes_with b own answers a in
    let spelt = subst (λ o. FitsOption FitsVote o) c.in-Some.is c.in_ok-found.ensures.fits in
    let ballot = same_round c.in_ok-found.found c.in-Some.ballot b c.in-Some.value v c.in-Some.is found in
    let decided = same_value c.in_ok-found.found c.in-Some.ballot b c.in-Some.value v c.in-Some.is found in
    c.in-Ok-fits_own.ensures x own [] s spelt.1 (c.in-Ok.ensures x s)
    ∙ ap (λ q. (accept_own q own c.in-Some.value [] x).fitting) ballot ∙ ap (λ d. (accept_own b own d [] x).fitting) decided ∙ last_fitting b own answers a x h
