use Rattle.std.proofs.Common.{◌≡◌, ◌∙◌, sym, subst, true, false}
use Rattle.crsm_spec.specs.Draft.{Draft}
use Rattle.crsm_spec.specs.Coordinate.{learn}
use Rattle.crsm_spec.specs.Coordinate.{on_chosen}
use Rattle.crsm_replica.specs.Replica.{ReplicaStands}
use Rattle.crsm_replica_reconfigure.proofs.ChoiceLemmas.{chosen_fitting, chosen_as}
use Rattle.crsm_replica_reconfigure.proofs.DraftLemmas.{is_whole, is_ignored, was_whole, was_ignored}
use Rattle.crsm_replica_reconfigure.proofs.choosing.choose.Goals as goal

pub returns-then-not-fits : goal.returns-then-not-fits
returns-then-not-fits c = λ x s.
    let k = c.in_ok-fits.ensures x s in
    let u : (learn c.args.decision.now x).fitting ≡ false = sym k.0 ∙ c.if-not-fits.true in
    let e : (on_chosen c.args.decision.now x).fitting ≡ false = chosen_fitting c.args.decision.now x ∙ u in
    (sym e, is_ignored c.learn.new.state x _ e (was_ignored c.learn.new.state x _ u k.1))

pub returns : goal.returns
returns c = λ x s.
    let k = c.in_ok-fits.ensures x s in
    let y : Draft = learn c.args.decision.now x in
    let u : y.fitting ≡ true = sym k.0 ∙ c.if-not-fits.false in
    let l = was_whole c.learn.new.state x y u k.1 in
    let e : (on_chosen c.args.decision.now x).fitting ≡ true = chosen_fitting c.args.decision.now x ∙ u in
    let is = chosen_as c.args.decision.now x c.in_ok-old.old c.in_ok-new.new c.me-me.result (c.in_ok-old.ensures x s) (c.me-me.ensures.value x s) (c.in_ok-new.ensures y l) in
    (sym e, is_whole c.send_both.new.state x _ e (subst (λ z. ReplicaStands c.send_both.new.state z) is (c.in_ok-send_both.ensures y l)))
