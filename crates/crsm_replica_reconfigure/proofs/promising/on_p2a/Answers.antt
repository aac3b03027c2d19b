use Rattle.std.proofs.Common.{◌≡◌, ◌∙◌, sym, subst, ap, true, false}
use Rattle.std.proofs.lemmas.Result.{IfOk-weaker}
use Rattle.crsm_spec.specs.Types.{Rec}
use Rattle.crsm_spec.specs.Draft.{Draft, keep}
use Rattle.crsm_spec.specs.Controls.{on_p2a}
use Rattle.crsm_replica.specs.Replica.{ReplicaStands}
use Rattle.crsm_replica_reconfigure.proofs.PromiseLemmas.{p2a_refuses, p2a_repeats, p2a_lacks, p2a_accepts, other_fitting}
use Rattle.crsm_replica_reconfigure.proofs.DraftLemmas.{is_whole, is_ignored, was_whole, was_ignored, send_fitting, retrieve_fitting}
use Rattle.crsm_replica_reconfigure.proofs.promising.on_p2a.Goals as goal

pub returns-then-not-is_next : goal.returns-then-not-is_next
unfolding on_p2a
returns-then-not-is_next c = λ x s.
    let n = (c.in_ok-is_next.ensures x s).other c.if-not-is_next.true in
    is_whole c.if_next.new.state x _ (other_fitting c.args.k c.args.instance x _ n.0 ∙ (c.states_are_sound.ensures c.args.state.now x s).fitting) (n.1 _)

pub returns-then-ballot_precedes : goal.returns-then-ballot_precedes
returns-then-ballot_precedes c =
    IfOk-weaker c.refuse.result _ _ (λ _ made x s.
    let n = (c.in_ok-is_next.ensures x s).here c.if-not-is_next.false in
    let sound = c.states_are_sound.ensures c.args.state.now x s in
    let t = c.promised-top.ensures.value x n.1 in
    let is = p2a_refuses c.args.k c.args.instance c.args.ballot c.promised-top.result c.args.decision.now x n.0 t (sym c.ballot_precedes.ensures ∙ c.if-ballot_precedes.true) in
    is_whole c.refuse.new.state x _ (ap (λ y. y.fitting) is ∙ send_fitting _ x c.args.k ∙ sound.fitting)
    (subst (λ y. ReplicaStands c.refuse.new.state y) (sym is) (made x n.1))) c.refuse.ensures

pub returns-then-has_accepted : goal.returns-then-has_accepted
returns-then-has_accepted c =
    IfOk-weaker c.vote.result _ _ (λ _ made x s.
    let n = (c.in_ok-is_next.ensures x s).here c.if-not-is_next.false in
    let sound = c.states_are_sound.ensures c.args.state.now x s in
    let t = c.promised-top.ensures.value x n.1 in
    let is = p2a_repeats c.args.k c.args.instance c.args.ballot c.promised-top.result c.args.decision.now x n.0 t (sym c.ballot_precedes.ensures ∙ c.if-ballot_precedes.false)
    (sym (c.has_accepted-has_accepted.ensures x n.1) ∙ c.if-has_accepted.true) in
    is_whole c.vote.new.state x _ (ap (λ y. y.fitting) is ∙ send_fitting _ x c.args.k ∙ sound.fitting)
    (subst (λ y. ReplicaStands c.vote.new.state y) (sym is) (made x n.1))) c.vote.ensures

pub returns-then-done-base_len : goal.returns-then-done-base_len
returns-then-done-base_len c =
    IfOk-weaker c.send_retrieve.result _ _ (λ _ made x s.
    let n = (c.in_ok-is_next.ensures x s).here c.if-not-is_next.false in
    let sound = c.states_are_sound.ensures c.args.state.now x s in
    let t = c.promised-top.ensures.value x n.1 in
    let is = p2a_lacks c.args.k c.args.instance c.args.ballot c.promised-top.result c.args.decision.now x c.executed_len-done.result n.0 t (sym c.ballot_precedes.ensures ∙ c.if-ballot_precedes.false)
    (sym (c.has_accepted-has_accepted.ensures x n.1) ∙ c.if-has_accepted.false) (c.executed_len-done.ensures x n.1) c.if-done-base_len.true in
    is_whole c.send_retrieve.new.self x _ (ap (λ y. y.fitting) is ∙ retrieve_fitting c.args.k x ∙ sound.fitting)
    (subst (λ y. ReplicaStands c.send_retrieve.new.self y) (sym is) (made x n.1))) c.send_retrieve.ensures

pub returns-then-not-fits : goal.returns-then-not-fits
returns-then-not-fits c = λ x s.
    let n = (c.in_ok-is_next.ensures x s).here c.if-not-is_next.false in
    let sound = c.states_are_sound.ensures c.args.state.now x s in
    let t = c.promised-top.ensures.value x n.1 in
    let is = p2a_accepts c.args.k c.args.instance c.args.ballot c.promised-top.result c.args.decision.now x c.executed_len-done.result n.0 t (sym c.ballot_precedes.ensures ∙ c.if-ballot_precedes.false)
    (sym (c.has_accepted-has_accepted.ensures x n.1) ∙ c.if-has_accepted.false) (c.executed_len-done.ensures x n.1) c.if-done-base_len.false in
    let k = c.in_ok-fits.ensures x n.1 in
    let u : (keep (Rec.Accept c.args.instance c.args.ballot c.args.decision.now) x).fitting ≡ false = sym k.0 ∙ c.if-not-fits.true in
    is_ignored c.accept.new.state x _ (ap (λ y. y.fitting) is ∙ send_fitting _ _ c.args.k ∙ u) (was_ignored c.accept.new.state x _ u k.1)

pub returns : goal.returns
returns c =
    IfOk-weaker c.vote-2.result _ _ (λ _ made x s.
    let n = (c.in_ok-is_next.ensures x s).here c.if-not-is_next.false in
    let sound = c.states_are_sound.ensures c.args.state.now x s in
    let t = c.promised-top.ensures.value x n.1 in
    let is = p2a_accepts c.args.k c.args.instance c.args.ballot c.promised-top.result c.args.decision.now x c.executed_len-done.result n.0 t (sym c.ballot_precedes.ensures ∙ c.if-ballot_precedes.false)
    (sym (c.has_accepted-has_accepted.ensures x n.1) ∙ c.if-has_accepted.false) (c.executed_len-done.ensures x n.1) c.if-done-base_len.false in
    let k = c.in_ok-fits.ensures x n.1 in
    let z : Draft = keep (Rec.Accept c.args.instance c.args.ballot c.args.decision.now) x in
    let u : z.fitting ≡ true = sym k.0 ∙ c.if-not-fits.false in
    is_whole c.vote-2.new.state x _ (ap (λ y. y.fitting) is ∙ send_fitting _ z c.args.k ∙ u)
    (subst (λ y. ReplicaStands c.vote-2.new.state y) (sym is) (made z (was_whole c.accept.new.state x z u k.1)))) c.vote-2.ensures
