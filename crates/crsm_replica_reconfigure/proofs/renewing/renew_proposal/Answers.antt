use Rattle.std.proofs.Common.{◌≡◌, ◌∙◌, ◌∷◌, sym, subst, ap, true}
use Rattle.std.specs.Prelude.{Some}
use Rattle.crsm_base.specs.Spelling.{FitsDecision}
use Rattle.crsm_spec.specs.Lists.{has}
use Rattle.crsm_spec.specs.Log.{decision}
use Rattle.crsm_spec.specs.Quorum.{spec_decided, has_majority}
use Rattle.crsm_spec.specs.Replica.{Coordinator}
use Rattle.crsm_spec.specs.Coordinate.{accept_own}
use Rattle.crsm_replica_coordinator.specs.Coordinator.{CoordinatorStands, proposal_of}
use Rattle.crsm_replica_coordinator.proofs.Coordinators.{proposing_mine}
use Rattle.crsm_replica_reconfigure.proofs.OwnLemmas.{renewed_fitting, spec_as}
use Rattle.crsm_replica_reconfigure.proofs.ChoiceLemmas.{same_value, same_round}
use Rattle.crsm_replica_reconfigure.proofs.DraftLemmas.{is_whole, is_ignored}
use Rattle.crsm_replica_reconfigure.proofs.ProposeLemmas.{none_proposed}
use Rattle.crsm_replica_reconfigure.proofs.renewing.renew_proposal.Goals as goal

pub returns-in_default : goal.returns-in_default
unfolding proposal_of
returns-in_default c = λ x b own value acceptors s e.
    let stands = subst (λ z. CoordinatorStands c.coordinator.result.now x.replica.me x.replica.n (decision x.replica.log) z) e (c.coordinator.ensures x s) in
    absurd (none_proposed c.in_ok-found.found (b, value) (c.in_ok-found.ensures.value x.replica.me x.replica.n (decision x.replica.log) (Coordinator.Proposing b own value acceptors) stands) c.in_default.is)

pub returns-then-not-fits : goal.returns-then-not-fits
unfolding proposal_of
returns-then-not-fits c = λ x b own value acceptors s e.
    let m : Coordinator = Coordinator.Proposing b own value acceptors in
    let known = decision x.replica.log in
    let stands = subst (λ z. CoordinatorStands c.coordinator.result.now x.replica.me x.replica.n known z) e (c.coordinator.ensures x s) in
    let again = subst (λ z. CoordinatorStands c.coordinator-2.result.now x.replica.me x.replica.n known z) e (c.coordinator-2.ensures x s) in
    let found : c.in_ok-found.found ≡ Some (b, value) = c.in_ok-found.ensures.value x.replica.me x.replica.n known m stands in
    let ballot = same_round c.in_ok-found.found c.in-Some.ballot b c.in-Some.value value c.in-Some.is found in
    let decided = same_value c.in_ok-found.found c.in-Some.ballot b c.in-Some.value value c.in-Some.is found in
    let me = c.me-me.ensures.value x s in
    let mine = proposing_mine x.replica.me x.replica.n known c.coordinator.result.now b own value acceptors stands in
    let last = c.is_last_vote-is_chosen.ensures x.replica.me x.replica.n known b own value acceptors again (subst (λ k. has (spec_decided x.replica.n known) k ≡ true) (sym me) mine.0.counted) in
    let chosen = last ∙ ap (λ k. has_majority (spec_decided x.replica.n known) (k ∷ acceptors)) me ∙ ap (λ ks. has_majority ks (x.replica.me ∷ acceptors)) (sym (spec_as x)) in
    let fit = c.in-Ok.ensures x own acceptors s (subst (λ d. FitsDecision d) (sym decided) mine.2) chosen in
    let rule = ap (λ q. (accept_own q own c.in-Some.value acceptors x).fitting) ballot ∙ ap (λ d. (accept_own b own d acceptors x).fitting) decided ∙ sym (renewed_fitting b own value acceptors x) in
    let u = sym (sym c.if-not-fits.true ∙ fit ∙ rule) in
    (sym u, is_ignored c.args.state.now x _ u s)

pub returns : goal.returns
unfolding proposal_of
returns c = λ x b own value acceptors s e.
    let m : Coordinator = Coordinator.Proposing b own value acceptors in
    let known = decision x.replica.log in
    let stands = subst (λ z. CoordinatorStands c.coordinator.result.now x.replica.me x.replica.n known z) e (c.coordinator.ensures x s) in
    let again = subst (λ z. CoordinatorStands c.coordinator-2.result.now x.replica.me x.replica.n known z) e (c.coordinator-2.ensures x s) in
    let found : c.in_ok-found.found ≡ Some (b, value) = c.in_ok-found.ensures.value x.replica.me x.replica.n known m stands in
    let ballot = same_round c.in_ok-found.found c.in-Some.ballot b c.in-Some.value value c.in-Some.is found in
    let decided = same_value c.in_ok-found.found c.in-Some.ballot b c.in-Some.value value c.in-Some.is found in
    let me = c.me-me.ensures.value x s in
    let mine = proposing_mine x.replica.me x.replica.n known c.coordinator.result.now b own value acceptors stands in
    let last = c.is_last_vote-is_chosen.ensures x.replica.me x.replica.n known b own value acceptors again (subst (λ k. has (spec_decided x.replica.n known) k ≡ true) (sym me) mine.0.counted) in
    let chosen = last ∙ ap (λ k. has_majority (spec_decided x.replica.n known) (k ∷ acceptors)) me ∙ ap (λ ks. has_majority ks (x.replica.me ∷ acceptors)) (sym (spec_as x)) in
    let fit = c.in-Ok.ensures x own acceptors s (subst (λ d. FitsDecision d) (sym decided) mine.2) chosen in
    let rule = ap (λ q. (accept_own q own c.in-Some.value acceptors x).fitting) ballot ∙ ap (λ d. (accept_own b own d acceptors x).fitting) decided in
    let u : (accept_own b own value acceptors x).fitting ≡ true = sym (sym c.if-not-fits.false ∙ fit ∙ rule) in
    let whole = renewed_fitting b own value acceptors x ∙ u in
    (sym whole, is_whole c.accept_and_send.new.state x _ whole (c.in_ok-accept_and_send.ensures x b own value acceptors s e u))
