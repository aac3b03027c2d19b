use Rattle.std.proofs.Common.{◌≡◌, ◌∙◌, sym, subst, ap, arith, true, false}
use Rattle.std.proofs.lemmas.Result.{IfOk-weaker}
use Rattle.crsm_spec.specs.Coordinate.{learn}
use Rattle.crsm_spec.specs.Controls.{on_decide, retrieve_base}
use Rattle.crsm_replica.specs.Replica.{ReplicaStands}
use Rattle.crsm_replica_reconfigure.proofs.DraftLemmas.{learn_later, learn_no, base_fitting, is_whole, is_ignored, was_whole, was_ignored, does_nothing}
use Rattle.crsm_replica_reconfigure.proofs.learning.on_decide.Goals as goal

pub returns-then-decision-known : goal.returns-then-decision-known
returns-then-decision-known c = λ x s.
    does_nothing c.args.state.now x _ (learn_no c.args.k c.args.decision.now x (let e = c.known-known.ensures x s in let l = c.if-decision-known.true in omega (arith, e, l))) s

pub returns-then-not-fits : goal.returns-then-not-fits
returns-then-not-fits c = λ x s.
    let later : on_decide c.args.k c.args.decision.now x ≡ retrieve_base c.args.k (learn c.args.decision.now x) =
    learn_later c.args.k c.args.decision.now x (let e = c.known-known.ensures x s in let l = c.if-decision-known.false in omega (arith, e, l)) in
    let k = c.in_ok-fits.ensures x s in
    let u : (learn c.args.decision.now x).fitting ≡ false = sym k.0 ∙ c.if-not-fits.true in
    is_ignored c.learn.new.state x _ (ap (λ y. y.fitting) later ∙ base_fitting c.args.k (learn c.args.decision.now x) ∙ u) (was_ignored c.learn.new.state x (learn c.args.decision.now x) u k.1)

pub returns : goal.returns
returns c =
    IfOk-weaker c.retrieve_base.result _ _ (λ _ made x s.
    let later : on_decide c.args.k c.args.decision.now x ≡ retrieve_base c.args.k (learn c.args.decision.now x) =
    learn_later c.args.k c.args.decision.now x (let e = c.known-known.ensures x s in let l = c.if-decision-known.false in omega (arith, e, l)) in
    let k = c.in_ok-fits.ensures x s in
    let u : (learn c.args.decision.now x).fitting ≡ true = sym k.0 ∙ c.if-not-fits.false in
    is_whole c.retrieve_base.new.state x _ (ap (λ y. y.fitting) later ∙ base_fitting c.args.k (learn c.args.decision.now x) ∙ u)
    (subst (λ y. ReplicaStands c.retrieve_base.new.state y) (sym later) (made (learn c.args.decision.now x) (was_whole c.learn.new.state x (learn c.args.decision.now x) u k.1)))) c.retrieve_base.ensures
