use Rattle.std.proofs.Common.{◌∙◌, sym, subst, ap}
use Rattle.std.proofs.lemmas.Result.{IfOk-weaker}
use Rattle.crsm_spec.specs.Log.{no_ballot}
use Rattle.crsm_replica_reconfigure.specs.Reports.{CanBegin, begins_fitting}
use Rattle.crsm_replica_reconfigure.proofs.reconfiguring.may_go_on.Goals as goal

pub returns-in-Complete : goal.returns-in-Complete
unfolding begins_fitting no_ballot
returns-in-Complete c =
    IfOk-weaker c.may_begin.result _ _ (λ _ made x y s can alike.
    made x y s (subst (λ r. CanBegin r x) c.in-Complete.is can) alike ∙ ap (λ r. begins_fitting r y) (sym c.in-Complete.is)) c.may_begin.ensures
