use Rattle.std.proofs.lemmas.Result.{IfOk-weaker}
use Rattle.crsm_spec.specs.Coordinate.{suspend_once}
use Rattle.crsm_replica_reconfigure.proofs.AlikeLemmas.{alike_suspended}
use Rattle.crsm_replica_reconfigure.proofs.DraftLemmas.{was_whole}
use Rattle.crsm_replica_reconfigure.proofs.reconfiguring.suspend_all.Goals as goal

pub returns : goal.returns
returns c =
    IfOk-weaker c.send_suspend.result _ _ (λ _ made x s.
    let sound = c.states_are_sound.ensures c.args.state.now x s in
    let suspended = was_whole c.suspend_once.new.state x _ (alike_suspended x sound).fitting ((c.in_ok-suspend_once.ensures x s).1) in
    made (suspend_once x) suspended) c.send_suspend.ensures
