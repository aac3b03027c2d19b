use Rattle.std.proofs.Common.{◌∙◌, sym, subst, ap}
use Rattle.std.specs.Prelude.{Option}
use Rattle.std.specs.Option.{IfSome}
use Rattle.std.proofs.lemmas.Result.{IfOk-weaker}
use Rattle.crsm_base.specs.Messages.{FitsControl}
use Rattle.crsm_spec.specs.Types.{Control}
use Rattle.crsm_spec.specs.Draft.{send_control}
use Rattle.crsm_fact_log.proofs.LogsFit.{executed_rises}
use Rattle.crsm_replica.specs.Replica.{ReplicaStands}
use Rattle.crsm_replica_reconfigure.proofs.PageLemmas.{page_gone, page_there}
use Rattle.crsm_replica_reconfigure.proofs.paging.send_page.Goals as goal

pub returns-in_default : goal.returns-in_default
returns-in_default c = λ x s.
    let sound = c.states_are_sound.ensures c.args.state.now x s in
    let rise = executed_rises x.replica.me x.replica.n x.replica.log sound.kept sound.spelt in
    subst (λ y. ReplicaStands c.args.state.now y)
    (sym (page_gone c.args.k c.args.from x (sym c.in_default.is ∙ c.in_ok-found.ensures.value x.replica.me x.replica.n x.replica.log (c.ledger.ensures.stands x s) rise))) s

pub tell-requires-clause-spelt : goal.tell-requires-clause-spelt
tell-requires-clause-spelt c = subst (λ (o : Option Control). IfSome o FitsControl) c.in-Some.is c.in_ok-found.ensures.fits

pub returns : goal.returns
returns c =
    IfOk-weaker c.tell.result _ _ (λ _ made x s.
    let sound = c.states_are_sound.ensures c.args.state.now x s in
    let rise = executed_rises x.replica.me x.replica.n x.replica.log sound.kept sound.spelt in
    let p = page_there c.args.k c.args.from x c.in-Some.control (sym c.in-Some.is ∙ c.in_ok-found.ensures.value x.replica.me x.replica.n x.replica.log (c.ledger.ensures.stands x s) rise) in
    subst (λ y. ReplicaStands c.tell.new.state y) (ap (λ m. send_control m x c.args.k) p.0 ∙ sym p.1) (made x s)) c.tell.ensures
