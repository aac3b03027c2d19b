use Rattle.std.proofs.Common.{◌≡◌, ◌∙◌, sym, subst, ap, arith, true, false}
use Rattle.std.proofs.lemmas.Result.{IfOk-weaker}
use Rattle.crsm_spec.specs.Draft.{Draft}
use Rattle.crsm_replica.specs.Replica.{ReplicaStands}
use Rattle.crsm_replica_reconfigure.proofs.SuspendLemmas.{suspend_old, suspend_later, suspend_now}
use Rattle.crsm_replica_reconfigure.proofs.DraftLemmas.{is_whole, is_ignored, was_whole, was_ignored, send_fitting, decision_fitting, retrieve_fitting}
use Rattle.crsm_spec.specs.Coordinate.{suspend_once}
use Rattle.crsm_replica_reconfigure.proofs.suspending.on_suspend.Goals as goal

pub returns-then-epoch-known : goal.returns-then-epoch-known
returns-then-epoch-known c =
    IfOk-weaker c.send_decision.result _ _ (λ _ made x s.
    let is = suspend_old c.args.k c.args.epoch c.args.after x (let e = c.known-known.ensures x s in let l = c.if-epoch-known.true in omega (arith, e, l)) in
    is_whole c.send_decision.new.self x _ (ap (λ y. y.fitting) is ∙ decision_fitting c.args.k x ∙ (c.states_are_sound.ensures c.args.state.now x s).fitting)
    (subst (λ y. ReplicaStands c.send_decision.new.self y) (sym is) (made x s))) c.send_decision.ensures

pub returns-then-known-epoch : goal.returns-then-known-epoch
returns-then-known-epoch c =
    IfOk-weaker c.send_retrieve.result _ _ (λ _ made x s.
    let is = suspend_later c.args.k c.args.epoch c.args.after x (let e = c.known-known.ensures x s in let l = c.if-known-epoch.true in omega (arith, e, l)) in
    is_whole c.send_retrieve.new.self x _ (ap (λ y. y.fitting) is ∙ retrieve_fitting c.args.k x ∙ (c.states_are_sound.ensures c.args.state.now x s).fitting)
    (subst (λ y. ReplicaStands c.send_retrieve.new.self y) (sym is) (made x s))) c.send_retrieve.ensures

pub returns-then-not-fits : goal.returns-then-not-fits
returns-then-not-fits c = λ x s.
    let is = suspend_now c.args.k c.args.epoch c.args.after x (let e = c.known-known.ensures x s in let l = c.if-known-epoch.false in let m = c.if-epoch-known.false in omega (arith, e, l, m)) in
    let k = c.in_ok-fits.ensures x s in
    let u : (suspend_once x).fitting ≡ false = sym k.0 ∙ c.if-not-fits.true in
    is_ignored c.suspend_once.new.state x _ (ap (λ y. y.fitting) is ∙ send_fitting _ _ c.args.k ∙ u) (was_ignored c.suspend_once.new.state x _ u k.1)

pub returns : goal.returns
returns c =
    IfOk-weaker c.send_frozen.result _ _ (λ _ made x s.
    let is = suspend_now c.args.k c.args.epoch c.args.after x (let e = c.known-known.ensures x s in let l = c.if-known-epoch.false in let m = c.if-epoch-known.false in omega (arith, e, l, m)) in
    let k = c.in_ok-fits.ensures x s in
    let z : Draft = suspend_once x in
    let u : z.fitting ≡ true = sym k.0 ∙ c.if-not-fits.false in
    is_whole c.send_frozen.new.state x _ (ap (λ y. y.fitting) is ∙ send_fitting _ z c.args.k ∙ u)
    (subst (λ y. ReplicaStands c.send_frozen.new.state y) (sym is) (made z (was_whole c.suspend_once.new.state x z u k.1)))) c.send_frozen.ensures
