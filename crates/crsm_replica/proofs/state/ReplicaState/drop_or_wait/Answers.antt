use Rattle.std.proofs.Common.{◌∙◌, ◌++◌, ◌∷◌, [], sym, subst, ap, map}
use Rattle.std.proofs.lemmas.Result.{IfOk-weaker}
use Rattle.crsm_fact_log.proofs.Lists.{all-push, map-push}
use Rattle.crsm_spec.specs.Draft.{Draft}
use Rattle.crsm_replica.specs.Sound.{FitsWaiting}
use Rattle.crsm_replica.specs.Replica.{ReplicaStands, on_paper}
use Rattle.crsm_replica.proofs.Rebuilt.{awaits}
use Rattle.crsm_replica.proofs.Replying.{none-dropped, none-waits}
use Rattle.crsm_replica.proofs.state.ReplicaState.drop_or_wait.Goals as goal

pub returns-then-has_dropped : goal.returns-then-has_dropped
unfolding ReplicaStands on_paper
returns-then-has_dropped c =
    IfOk-weaker c.end_dropped.result _ _ (λ _ is x s fit.
    subst (λ (y : Draft). ReplicaStands c.end_dropped.new.self y)
    (sym (none-dropped (on_paper c.args.client) x (sym (c.has_dropped.ensures x.replica s.ledger) ∙ c.if-has_dropped.true))) (is x s fit)) c.end_dropped.ensures

pub returns : goal.returns
unfolding ReplicaStands on_paper
returns c x s fit =
    let w = on_paper c.args.client in
    subst (λ (y : Draft). ReplicaStands (record c.args.self.now { waiting = c.push.new.self }) y)
    (sym (none-waits w x (sym (c.has_dropped.ensures x.replica s.ledger) ∙ c.if-has_dropped.false)))
    (awaits c.args.self.now x c.push.new.self (x.replica.waiting ++ w ∷ []) s
    (ap (map on_paper) c.in_ok-push.ensures.items ∙ map-push on_paper c.args.self.now.waiting.items c.args.client ∙ ap (λ ws. ws ++ w ∷ []) s.waiting)
    (all-push FitsWaiting x.replica.waiting w s.sound.waiting fit))
