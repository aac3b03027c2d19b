use Rattle.std.proofs.Common.{◌∙◌, sym, subst, ap}
use Rattle.std.proofs.lemmas.Option.{same_Some}
use Rattle.crsm_base.specs.Spelling.{FitsOption}
use Rattle.crsm_spec.specs.Types.{Ballot, Decision}
use Rattle.crsm_replica_coordinator.specs.Retries.{FitsRetry}
use Rattle.crsm_spec.specs.Coordinate.{begin_proposing}
use Rattle.crsm_spec.specs.Step.{renew}
use Rattle.crsm_replica.specs.Replica.{ReplicaStands}
use Rattle.crsm_replica_reconfigure.specs.Rules.{CanPropose}
use Rattle.crsm_replica_reconfigure.proofs.AlikeLemmas.{alike_self}
use Rattle.crsm_replica_reconfigure.proofs.DraftLemmas.{is_whole, is_ignored}
use Rattle.crsm_replica_reconfigure.proofs.ProposeLemmas.{none_proposed}
use Rattle.crsm_replica_reconfigure.proofs.renewing.renew_over.Goals as goal

pub returns-in_default : goal.returns-in_default
returns-in_default c = λ x own seen s e. absurd (none_proposed c.in_ok-found.found (own, seen) (c.in_ok-found.ensures.value x own seen s e).0 c.in_default.is)

pub returns-then-not-fits : goal.returns-then-not-fits
unfolding renew
returns-then-not-fits c = λ x own seen s e.
    let found = c.in_ok-found.ensures.value x own seen s e in
    let same = same_Some _ _ (sym c.in-Some.is ∙ found.0) in
    let fit = c.in-Ok.ensures x x s (subst (λ (q : Decision × Ballot). CanPropose q.0 q.1 x) (sym same) found.1) (alike_self x (c.states_are_sound.ensures c.args.state.now x s)) in
    let rule = ap (λ (q : Decision × Ballot). (begin_proposing q.0 q.1 x).fitting) same in
    let u = sym (sym c.if-not-fits.true ∙ fit ∙ rule) in
    (sym u, is_ignored c.args.state.now x _ u s)

pub begin_proposing-requires : goal.begin_proposing-requires
begin_proposing-requires c = (subst (FitsOption FitsRetry) c.in-Some.is c.in_ok-found.ensures.fits).0

pub returns : goal.returns
unfolding renew
returns c = λ x own seen s e.
    let found = c.in_ok-found.ensures.value x own seen s e in
    let same = same_Some _ _ (sym c.in-Some.is ∙ found.0) in
    let can = subst (λ (q : Decision × Ballot). CanPropose q.0 q.1 x) (sym same) found.1 in
    let fit = c.in-Ok.ensures x x s can (alike_self x (c.states_are_sound.ensures c.args.state.now x s)) in
    let u = sym fit ∙ c.if-not-fits.false in
    let made = subst (λ (q : Decision × Ballot). ReplicaStands c.begin_proposing.new.state (begin_proposing q.0 q.1 x)) same (c.in_ok-begin_proposing.ensures x s (can, u)) in
    let whole = ap (λ (q : Decision × Ballot). (begin_proposing q.0 q.1 x).fitting) (sym same) ∙ u in
    (sym whole, is_whole c.begin_proposing.new.state x _ whole made)
