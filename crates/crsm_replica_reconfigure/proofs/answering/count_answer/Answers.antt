use Rattle.std.proofs.Common.{◌≡◌, ◌∙◌, ◌++◌, ◌∷◌, [], sym, subst, ap, true, map}
use Rattle.std.proofs.lemmas.Result.{IfOk-weaker}
use Rattle.crsm_spec.specs.Types.{Decision}
use Rattle.crsm_spec.specs.Lists.{has}
use Rattle.crsm_spec.specs.Log.{decision}
use Rattle.crsm_spec.specs.Paxos.{Answer, value_of}
use Rattle.crsm_spec.specs.Quorum.{has_majority}
use Rattle.crsm_spec.specs.Replica.{Coordinator, spec_of}
use Rattle.crsm_spec.specs.Draft.{Draft, noting}
use Rattle.crsm_spec.specs.Coordinate.{accept_own}
use Rattle.crsm_replica_coordinator.specs.Coordinator.{CoordinatorStands}
use Rattle.crsm_replica.specs.Replica.{ReplicaStands}
use Rattle.crsm_replica_reconfigure.proofs.BeginLemmas.{count_more, count_last, answered_more, answered_last}
use Rattle.crsm_replica_reconfigure.proofs.OwnLemmas.{spec_as, renewed_fitting, noted}
use Rattle.crsm_replica_reconfigure.proofs.ChoiceLemmas.{noted_fitting}
use Rattle.crsm_replica_reconfigure.proofs.DraftLemmas.{is_whole, is_ignored}
use Rattle.crsm_replica_reconfigure.proofs.answering.count_answer.Goals as goal

pub returns-then-not-fits : goal.returns-then-not-fits
returns-then-not-fits c = λ x b own answers s e h n.
    let a : Answer Decision = record { replica = c.args.k; accepted = c.args.accepted.now } in
    let of_spec = ap (λ ks. has ks c.args.k) (sym (spec_as x)) ∙ h in
    let stands = subst (λ z. CoordinatorStands c.coordinator.result.now x.replica.me x.replica.n (decision x.replica.log) z) e (c.coordinator.ensures x s) in
    let last = sym (c.is_last_answer-is_last.ensures x.replica.me x.replica.n (decision x.replica.log) b own answers a stands of_spec n) ∙ c.if-is_last.true in
    let many = ap (λ ks. has_majority ks (map (λ (g : Answer Decision). g.replica) (answers ++ a ∷ []))) (spec_as x) ∙ last in
    is_ignored c.args.state.now x _ (sym (c.in_ok-fits.ensures x b own answers s e many) ∙ c.if-not-fits.true) s

pub returns-then-is_last : goal.returns-then-is_last
returns-then-is_last c =
    IfOk-weaker c.accept_and_send.result _ _ (λ _ made x b own answers s e h n.
    let a : Answer Decision = record { replica = c.args.k; accepted = c.args.accepted.now } in
    let of_spec = ap (λ ks. has ks c.args.k) (sym (spec_as x)) ∙ h in
    let stands = subst (λ z. CoordinatorStands c.coordinator.result.now x.replica.me x.replica.n (decision x.replica.log) z) e (c.coordinator.ensures x s) in
    let last = sym (c.is_last_answer-is_last.ensures x.replica.me x.replica.n (decision x.replica.log) b own answers a stands of_spec n) ∙ c.if-is_last.true in
    let many = ap (λ ks. has_majority ks (map (λ (g : Answer Decision). g.replica) (answers ++ a ∷ []))) (spec_as x) ∙ last in
    let fit = sym (c.in_ok-fits.ensures x b own answers s e many) ∙ c.if-not-fits.false in
    let v = value_of own (answers ++ a ∷ []) in
    let y : Draft = noting (Coordinator.Proposing b own v []) x in
    let rule = count_last b own answers a x many in
    let put = subst (λ m. ReplicaStands c.put_answer.new.state (noting m x)) (answered_last (spec_of x.replica) b own (answers ++ a ∷ []) many) (c.in_ok-put_answer.ensures x b own answers s e h n) in
    let whole : (accept_own b own v [] y).fitting ≡ true = sym (renewed_fitting b own v [] y) ∙ ap (λ z. z.fitting) (sym rule) ∙ fit in
    is_whole c.accept_and_send.new.state x _ fit (subst (λ z. ReplicaStands c.accept_and_send.new.state z) (sym rule) (made y b own v [] put (noted (Coordinator.Proposing b own v []) x) whole))) c.accept_and_send.ensures

pub returns : goal.returns
returns c =
    IfOk-weaker c.put_answer-2.result _ _ (λ _ made x b own answers s e h n.
    let a : Answer Decision = record { replica = c.args.k; accepted = c.args.accepted.now } in
    let of_spec = ap (λ ks. has ks c.args.k) (sym (spec_as x)) ∙ h in
    let stands = subst (λ z. CoordinatorStands c.coordinator.result.now x.replica.me x.replica.n (decision x.replica.log) z) e (c.coordinator.ensures x s) in
    let last = sym (c.is_last_answer-is_last.ensures x.replica.me x.replica.n (decision x.replica.log) b own answers a stands of_spec n) ∙ c.if-is_last.false in
    let few = ap (λ ks. has_majority ks (map (λ (g : Answer Decision). g.replica) (answers ++ a ∷ []))) (spec_as x) ∙ last in
    let m : Coordinator = Coordinator.Preparing b own (answers ++ a ∷ []) in
    let rule = count_more b own answers a x few in
    let put = subst (λ q. ReplicaStands c.put_answer-2.new.state (noting q x)) (answered_more (spec_of x.replica) b own (answers ++ a ∷ []) few) (made x b own answers s e h n) in
    is_whole c.put_answer-2.new.state x _ (ap (λ z. z.fitting) rule ∙ noted_fitting m x ∙ (c.states_are_sound.ensures c.args.state.now x s).fitting) (subst (λ z. ReplicaStands c.put_answer-2.new.state z) (sym rule) put)) c.put_answer-2.ensures
