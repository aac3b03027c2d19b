use Rattle.std.proofs.Common.{◌≡◌, ◌∙◌, sym, subst, ap, true, false}
use Rattle.std.proofs.lemmas.Result.{IfOk-weaker}
use Rattle.crsm_spec.specs.Types.{Rec}
use Rattle.crsm_spec.specs.Draft.{Draft, keep}
use Rattle.crsm_spec.specs.Controls.{on_p1a}
use Rattle.crsm_replica.specs.Replica.{ReplicaStands}
use Rattle.crsm_replica_reconfigure.proofs.PromiseLemmas.{p1a_promises, p1a_repeats, p1a_refuses, promise_fitting, other_fitting}
use Rattle.crsm_replica_reconfigure.proofs.DraftLemmas.{is_whole, is_ignored, was_whole, was_ignored, send_fitting}
use Rattle.crsm_replica_reconfigure.proofs.promising.on_p1a.Goals as goal

pub returns-then-not-is_next : goal.returns-then-not-is_next
unfolding on_p1a
returns-then-not-is_next c = λ x s.
    let n = (c.in_ok-is_next.ensures x s).other c.if-not-is_next.true in
    is_whole c.if_next.new.state x _ (other_fitting c.args.k c.args.instance x _ n.0 ∙ (c.states_are_sound.ensures c.args.state.now x s).fitting) (n.1 _)

pub returns-then-not-fits : goal.returns-then-not-fits
returns-then-not-fits c = λ x s.
    let n = (c.in_ok-is_next.ensures x s).here c.if-not-is_next.false in
    let sound = c.states_are_sound.ensures c.args.state.now x s in
    let t = c.promised-top.ensures.value x n.1 in
    let is = p1a_promises c.args.k c.args.instance c.args.ballot c.promised-top.result x n.0 t (sym c.ballot_precedes.ensures ∙ c.if-ballot_precedes.true) in
    let k = c.in_ok-fits.ensures x n.1 in
    let u : (keep (Rec.Promise c.args.instance c.args.ballot) x).fitting ≡ false = sym k.0 ∙ c.if-not-fits.true in
    is_ignored c.promise.new.state x _ (ap (λ y. y.fitting) is ∙ promise_fitting c.args.k c.args.instance c.args.ballot _ ∙ u) (was_ignored c.promise.new.state x _ u k.1)

pub returns-then-ballot_precedes : goal.returns-then-ballot_precedes
returns-then-ballot_precedes c =
    IfOk-weaker c.send_promise.result _ _ (λ _ made x s.
    let n = (c.in_ok-is_next.ensures x s).here c.if-not-is_next.false in
    let sound = c.states_are_sound.ensures c.args.state.now x s in
    let t = c.promised-top.ensures.value x n.1 in
    let is = p1a_promises c.args.k c.args.instance c.args.ballot c.promised-top.result x n.0 t (sym c.ballot_precedes.ensures ∙ c.if-ballot_precedes.true) in
    let k = c.in_ok-fits.ensures x n.1 in
    let z : Draft = keep (Rec.Promise c.args.instance c.args.ballot) x in
    let u : z.fitting ≡ true = sym k.0 ∙ c.if-not-fits.false in
    is_whole c.send_promise.new.state x _ (ap (λ y. y.fitting) is ∙ promise_fitting c.args.k c.args.instance c.args.ballot z ∙ u)
    (subst (λ y. ReplicaStands c.send_promise.new.state y) (sym is) (made z (was_whole c.promise.new.state x z u k.1)))) c.send_promise.ensures

pub returns-then-is_same_ballot : goal.returns-then-is_same_ballot
returns-then-is_same_ballot c =
    IfOk-weaker c.send_promise-then-is_same_ballot.result _ _ (λ _ made x s.
    let n = (c.in_ok-is_next.ensures x s).here c.if-not-is_next.false in
    let sound = c.states_are_sound.ensures c.args.state.now x s in
    let t = c.promised-top.ensures.value x n.1 in
    let is = p1a_repeats c.args.k c.args.instance c.args.ballot c.promised-top.result x n.0 t (sym c.ballot_precedes.ensures ∙ c.if-ballot_precedes.false) (sym c.is_same_ballot.ensures ∙ c.if-is_same_ballot.true) in
    is_whole c.send_promise-then-is_same_ballot.new.state x _ (ap (λ y. y.fitting) is ∙ promise_fitting c.args.k c.args.instance c.args.ballot x ∙ sound.fitting)
    (subst (λ y. ReplicaStands c.send_promise-then-is_same_ballot.new.state y) (sym is) (made x n.1))) c.send_promise-then-is_same_ballot.ensures

pub returns : goal.returns
returns c =
    IfOk-weaker c.refuse.result _ _ (λ _ made x s.
    let n = (c.in_ok-is_next.ensures x s).here c.if-not-is_next.false in
    let sound = c.states_are_sound.ensures c.args.state.now x s in
    let t = c.promised-top.ensures.value x n.1 in
    let is = p1a_refuses c.args.k c.args.instance c.args.ballot c.promised-top.result x n.0 t (sym c.ballot_precedes.ensures ∙ c.if-ballot_precedes.false) (sym c.is_same_ballot.ensures ∙ c.if-is_same_ballot.false) in
    is_whole c.refuse.new.state x _ (ap (λ y. y.fitting) is ∙ send_fitting _ x c.args.k ∙ sound.fitting)
    (subst (λ y. ReplicaStands c.refuse.new.state y) (sym is) (made x n.1))) c.refuse.ensures
