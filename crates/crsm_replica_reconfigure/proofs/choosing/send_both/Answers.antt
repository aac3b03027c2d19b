use Rattle.std.proofs.Common.{◌≡◌, sym, subst}
use Rattle.std.specs.Prelude.{◌&&◌}
use Rattle.crsm_base.specs.Spelling.{FitsDecision}
use Rattle.crsm_spec.specs.Types.{Control}
use Rattle.crsm_spec.specs.Draft.{send_to_each}
use Rattle.crsm_spec.specs.Lists.{has, numbers_below}
use Rattle.std.specs.Prelude.{◌==◌, ◌||◌, not, filter}
use Rattle.std.proofs.lemmas.Result.{IfOk-weaker}
use Rattle.crsm_replica.specs.Replica.{ReplicaStands}
use Rattle.crsm_replica_reconfigure.proofs.choosing.send_both.Goals as goal

pub tell_each-requires-clause-spelt : goal.tell_each-requires-clause-spelt
tell_each-requires-clause-spelt c = subst FitsDecision (sym c.in_ok-decision.ensures) c.requires

pub returns : goal.returns
returns c =
    IfOk-weaker c.tell_each.result _ _ (λ _ made x s.
    let copy : c.in_ok-decision.decision ≡ c.args.decision.now = c.in_ok-decision.ensures in
    subst (λ d. ReplicaStands c.tell_each.new.state (send_to_each (filter (λ k. (has c.args.old.now k || has c.args.new.now k) && not (k == c.args.me)) (numbers_below 15)) (Control.Decide d) x)) copy
    (subst (λ ks. ReplicaStands c.tell_each.new.state (send_to_each ks (Control.Decide c.in_ok-decision.decision) x)) c.in_ok-replicas.ensures.value (made x s))) c.tell_each.ensures
