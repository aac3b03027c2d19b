use Rattle.std.proofs.Common.{◌∙◌, sym, subst}
use Rattle.std.specs.List.{AllByRecursion}
use Rattle.std.proofs.lemmas.Result.{IfOk-weaker}
use Rattle.crsm_replica_results.specs.Answering.{IsTrueOf}
use Rattle.crsm_replica_output.specs.Made.{made_of}
use Rattle.crsm_spec.specs.Log.{executed}
use Rattle.crsm_spec.specs.Draft.{Draft}
use Rattle.crsm_replica.specs.Replica.{ReplicaStands, on_paper}
use Rattle.crsm_fact_log.proofs.LogsFit.{executed_fits}
use Rattle.crsm_replica.proofs.Replying.{answered-fits, found-some, found-none}
use Rattle.crsm_replica.proofs.state.ReplicaState.answer_client.Goals as goal

pub returns-in-Some : goal.returns-in-Some
unfolding ReplicaStands on_paper
returns-in-Some c =
    IfOk-weaker c.end_answered.result _ _ (λ _ ends x s fit.
    let r = x.replica in
    let told = subst (AllByRecursion (IsTrueOf (executed r.log))) (sym (c.lines.ensures (made_of x) s.output)) s.told in
    let is = c.in-Ok.ensures r.me r.n r.log s.ledger s.sound.rises told in
    subst (λ (y : Draft). ReplicaStands c.end_answered.new.self y) (sym (found-some (on_paper c.args.client) x c.in-Some.place c.in-Some.answer (sym c.in-Some.is ∙ is)))
    (ends x s fit
    (answered-fits (executed r.log) c.args.client.entry c.in-Some.place c.in-Some.answer (executed_fits r.log s.sound.spelt) (sym c.in-Some.is ∙ is)))) c.end_answered.ensures

pub returns-in-None : goal.returns-in-None
unfolding ReplicaStands on_paper
returns-in-None c =
    IfOk-weaker c.drop_or_wait.result _ _ (λ _ ends x s fit.
    let r = x.replica in
    let told = subst (AllByRecursion (IsTrueOf (executed r.log))) (sym (c.lines.ensures (made_of x) s.output)) s.told in
    let is = c.in-Ok.ensures r.me r.n r.log s.ledger s.sound.rises told in
    subst (λ (y : Draft). ReplicaStands c.drop_or_wait.new.self y) (sym (found-none (on_paper c.args.client) x (sym c.in-None.is ∙ is)))
    (ends x s fit)) c.drop_or_wait.ensures
