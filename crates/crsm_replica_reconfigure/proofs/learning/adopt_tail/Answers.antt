use Rattle.std.proofs.Common.{◌≡◌, ◌∙◌, sym, subst, ap}
use Rattle.std.specs.Prelude.{Some, ◌-◌, drop}
use Rattle.crsm_base.specs.Spelling.{FitsDecision, FitsEntries, FitsOption}
use Rattle.crsm_spec.specs.Log.{decision}
use Rattle.crsm_replica.specs.Replica.{ReplicaStands}
use Rattle.crsm_replica_reconfigure.proofs.DraftLemmas.{no_tail, past_tail, some_tail, was_whole}
use Rattle.crsm_fact_log.proofs.EntriesFit.{drop_fits}
use Rattle.crsm_replica_reconfigure.proofs.learning.adopt_tail.Goals as goal

pub returns-in_default : goal.returns-in_default
returns-in_default c = λ x s f. subst (λ y. ReplicaStands c.args.state.now y) (sym (no_tail x (sym (c.in_ok-decision.ensures.value x s) ∙ c.in_default.is))) s

pub returns-then-not-is_left : goal.returns-then-not-is_left
returns-then-not-is_left c = λ x s f.
    subst (λ y. ReplicaStands c.args.state.now y)
    (sym (past_tail x c.in-Some.decision c.executed_len-place.result c.start.result (sym (c.in_ok-decision.ensures.value x s) ∙ c.in-Some.is) (c.executed_len-place.ensures x s) (c.start.ensures x s)
    (sym c.is_left.ensures ∙ c.if-not-is_left.true))) s

pub adopt-requires : goal.adopt-requires
adopt-requires c =
    let spelt : FitsDecision c.in-Some.decision = subst (λ o. FitsOption FitsDecision o) c.in-Some.is c.in_ok-decision.ensures.fits in
    let rest = c.behind-rest.ensures ∙ ap (λ es. drop (c.executed_len-place.result - c.in-Some.decision.base_len) es) c.as_slice.ensures in
    subst FitsEntries (sym rest) (drop_fits (c.executed_len-place.result - c.in-Some.decision.base_len) c.in-Some.decision.tail spelt.tail)

pub returns : goal.returns
returns c = λ x s f.
    let known : decision x.replica.log ≡ Some c.in-Some.decision = sym (c.in_ok-decision.ensures.value x s) ∙ c.in-Some.is in
    let rest : c.behind-rest.result.now ≡ drop (c.executed_len-place.result - c.in-Some.decision.base_len) c.in-Some.decision.tail = c.behind-rest.ensures ∙ ap (λ es. drop (c.executed_len-place.result - c.in-Some.decision.base_len) es) c.as_slice.ensures in
    let is = some_tail x c.in-Some.decision c.executed_len-place.result c.start.result c.behind-rest.result.now known (c.executed_len-place.ensures x s) (c.start.ensures x s)
    (sym c.is_left.ensures ∙ c.if-not-is_left.false) rest in
    let k = c.in-Ok.ensures x s in
    subst (λ y. ReplicaStands c.adopt.new.state y) is (was_whole c.adopt.new.state x _ (ap (λ y. y.fitting) is ∙ f) k.1)
