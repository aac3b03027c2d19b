use Rattle.std.proofs.Common.{◌≡◌, ◌∙◌, sym, subst, true, false}
use Rattle.crsm_spec.specs.Log.{executed}
use Rattle.crsm_spec.specs.Coordinate.{learn}
use Rattle.crsm_replica.specs.Replica.{ReplicaStands, learnt}
use Rattle.crsm_replica_reconfigure.specs.Rules.{tail_goes_on}
use Rattle.crsm_replica_reconfigure.proofs.DraftLemmas.{learn_fits, and_yes, and_no, and_none, is_whole, is_ignored, was_whole, was_ignored, learn_as}
use Rattle.crsm_replica_reconfigure.proofs.learning.learn.Goals as goal

pub returns-then-not-goes_on : goal.returns-then-not-goes_on
returns-then-not-goes_on c = λ x s.
    let e : (learn c.args.decision.now x).fitting ≡ false =
    learn_fits c.args.decision.now x (c.states_are_sound.ensures c.args.state.now x s).on_record c.requires
    ∙ and_no _ _ (sym (c.in_ok-goes_on.ensures x s) ∙ c.if-not-goes_on.true) in
    (sym e, is_ignored c.args.state.now x (learn c.args.decision.now x) e s)

pub returns-then-not-fits : goal.returns-then-not-fits
returns-then-not-fits c = λ x s.
    let k = c.in_ok-fits.ensures x s in
    let u : (learnt c.args.decision.now x).fitting ≡ false = sym k.0 ∙ c.if-not-fits.true in
    let e : (learn c.args.decision.now x).fitting ≡ false =
    learn_fits c.args.decision.now x (c.states_are_sound.ensures c.args.state.now x s).on_record c.requires ∙ and_none _ _ u in
    (sym e, is_ignored c.learn_decision.new.self x (learn c.args.decision.now x) e (was_ignored c.learn_decision.new.self x (learnt c.args.decision.now x) u k.1))

pub returns : goal.returns
returns c = λ x s.
    let k = c.in_ok-fits.ensures x s in
    let u : (learnt c.args.decision.now x).fitting ≡ true = sym k.0 ∙ c.if-not-fits.false in
    let t : tail_goes_on c.args.decision.now (executed x.replica.log) ≡ true = sym (c.in_ok-goes_on.ensures x s) ∙ c.if-not-goes_on.false in
    let e : (learn c.args.decision.now x).fitting ≡ true =
    learn_fits c.args.decision.now x (c.states_are_sound.ensures c.args.state.now x s).on_record c.requires ∙ and_yes _ _ t ∙ u in
    let l = learn_as c.args.decision.now x in (
      sym e,
      is_whole c.advance.new.state x (learn c.args.decision.now x) e
          (subst (λ y. ReplicaStands c.advance.new.state y) (sym l.0) (c.in_ok-advance.ensures (learnt c.args.decision.now x) (was_whole c.learn_decision.new.self x (learnt c.args.decision.now x) u k.1) (sym l.1 ∙ e))),
    )
