use Rattle.std.proofs.Common.{◌≡◌, ◌∙◌, ◌+◌, [], ◌∷◌, sym, subst, ap, true}
use Rattle.std.specs.Prelude.{◌==◌}
use Rattle.std.proofs.lemmas.Bool.{eq-eqb}
use Rattle.std.proofs.lemmas.Result.{IfOk-weaker}
use Rattle.crsm_spec.specs.Types.{Ballot, Rec}
use Rattle.crsm_spec.specs.Clock.{u64_max}
use Rattle.crsm_spec.specs.Log.{decision, promised}
use Rattle.crsm_spec.specs.Paxos.{value_of}
use Rattle.crsm_spec.specs.Replica.{Coordinator, spec_of}
use Rattle.crsm_spec.specs.Draft.{Draft, keep, noting}
use Rattle.crsm_spec.specs.Coordinate.{instance, greater_ballot, accept_own}
use Rattle.crsm_replica_coordinator.specs.Coordinator.{answered}
use Rattle.crsm_replica.specs.Replica.{ReplicaStands}
use Rattle.crsm_replica_reconfigure.proofs.DraftLemmas.{was_whole}
use Rattle.crsm_replica_reconfigure.proofs.BeginLemmas.{mine, after, round_left, begin_spent, begin_asks, ask_more, ask_last, answered_more, answered_last, promise_kept, kept_stands, kept_instance}
use Rattle.crsm_replica_reconfigure.proofs.OwnLemmas.{renewed_fitting, noted}
use Rattle.crsm_replica_reconfigure.proofs.ProposeLemmas.{own_next}
use Rattle.crsm_replica_reconfigure.proofs.beginning.begin_proposing.Goals as goal

pub returns-then-top : goal.returns-then-top
returns-then-top c = λ x s p.
    let top = c.greater-top.ensures ∙ ap (λ b. greater_ballot b c.args.seen) (c.promised.ensures.value x s) in
    let is = begin_spent c.args.own c.args.seen x (ap (λ (b : Ballot). b.round == u64_max) (sym top) ∙ eq-eqb c.greater-top.result.round u64_max c.if-top.true) in
    subst (λ y. ReplicaStands c.set_coordinator.new.self y) (sym is) (c.set_coordinator.ensures x Coordinator.Idle s (c.quiet.ensures x.replica.me x.replica.n (decision x.replica.log)))

pub returns-then-is_alone : goal.returns-then-is_alone
returns-then-is_alone c =
    IfOk-weaker c.accept_and_send.result _ _ (λ _ made x s p.
    let sound = c.states_are_sound.ensures c.args.state.now x s in
    let top = c.greater-top.ensures ∙ ap (λ b. greater_ballot b c.args.seen) (c.promised.ensures.value x s) in
    let left = round_left c.greater-top.result c.if-top.false in
    let b : Ballot = after (greater_ballot (promised x.replica.log) c.args.seen) x.replica.me in
    let round : b.round ≡ c.greater-top.result.round + 1 = ap (λ (q : Ballot). q.round + 1) (sym top) in
    let ballot : c.above-ballot.result ≡ b = c.above-ballot.ensures.value ∙ ap (after c.greater-top.result) (c.me.ensures.value x s) ∙ ap (λ q. after q x.replica.me) top in
    let many = sym (c.in-Ok.ensures x s) ∙ c.if-is_alone.true in
    let z : Draft = keep (Rec.Promise (instance x) b) x in
    let same = kept_instance x c.args.own.epoch c.above-ballot.result b (own_next x x.replica.me x.replica.n c.args.own p.0.0) ballot in
    let kept = (c.in-Ok-promise.ensures x s).1 in
    let fit : z.fitting ≡ true = promise_kept c.args.seen x sound.fitting sound.on_record in
    let mid = subst (λ y. ReplicaStands c.promise.new.state y) same (was_whole c.promise.new.state x _ (ap (λ y. y.fitting) same ∙ fit) kept) in
    let stands = kept_stands c.in_ok-coordinator.coordinator (instance x) b (answered (spec_of x.replica) b c.args.own (mine x ∷ [])) x (c.in_ok-coordinator.ensures x b.round s p.0.0 round) in
    let v = value_of c.args.own (mine x ∷ []) in
    let m : Coordinator = Coordinator.Proposing b c.args.own v [] in
    let set = subst (λ q. ReplicaStands c.set_coordinator-2.new.self (noting q z)) (answered_last (spec_of x.replica) b c.args.own (mine x ∷ []) many) (c.set_coordinator-2.ensures z (answered (spec_of x.replica) b c.args.own (mine x ∷ [])) mid stands) in
    let is = begin_asks c.args.own c.args.seen x (ap (λ (q : Ballot). q.round == u64_max) (sym top) ∙ left) ∙ ask_last b c.args.own x many in
    let whole : (accept_own b c.args.own v [] (noting m z)).fitting ≡ true = sym (renewed_fitting b c.args.own v [] (noting m z)) ∙ ap (λ y. y.fitting) (sym is) ∙ p.1 in
    subst (λ y. ReplicaStands c.accept_and_send.new.state y) (sym is) (made (noting m z) b c.args.own v [] set (noted m z) whole)) c.accept_and_send.ensures

pub returns : goal.returns
returns c =
    IfOk-weaker c.send_ask.result _ _ (λ _ made x s p.
    let sound = c.states_are_sound.ensures c.args.state.now x s in
    let top = c.greater-top.ensures ∙ ap (λ b. greater_ballot b c.args.seen) (c.promised.ensures.value x s) in
    let left = round_left c.greater-top.result c.if-top.false in
    let b : Ballot = after (greater_ballot (promised x.replica.log) c.args.seen) x.replica.me in
    let round : b.round ≡ c.greater-top.result.round + 1 = ap (λ (q : Ballot). q.round + 1) (sym top) in
    let ballot : c.above-ballot.result ≡ b = c.above-ballot.ensures.value ∙ ap (after c.greater-top.result) (c.me.ensures.value x s) ∙ ap (λ q. after q x.replica.me) top in
    let few = sym (c.in-Ok.ensures x s) ∙ c.if-is_alone.false in
    let z : Draft = keep (Rec.Promise (instance x) b) x in
    let same = kept_instance x c.args.own.epoch c.above-ballot.result b (own_next x x.replica.me x.replica.n c.args.own p.0.0) ballot in
    let kept = (c.in-Ok-promise.ensures x s).1 in
    let fit : z.fitting ≡ true = promise_kept c.args.seen x sound.fitting sound.on_record in
    let mid = subst (λ y. ReplicaStands c.promise.new.state y) same (was_whole c.promise.new.state x _ (ap (λ y. y.fitting) same ∙ fit) kept) in
    let stands = kept_stands c.in_ok-coordinator.coordinator (instance x) b (answered (spec_of x.replica) b c.args.own (mine x ∷ [])) x (c.in_ok-coordinator.ensures x b.round s p.0.0 round) in
    let m : Coordinator = Coordinator.Preparing b c.args.own (mine x ∷ []) in
    let set = subst (λ q. ReplicaStands c.set_coordinator-2.new.self (noting q z)) (answered_more (spec_of x.replica) b c.args.own (mine x ∷ []) few) (c.set_coordinator-2.ensures z (answered (spec_of x.replica) b c.args.own (mine x ∷ [])) mid stands) in
    let is = begin_asks c.args.own c.args.seen x (ap (λ (q : Ballot). q.round == u64_max) (sym top) ∙ left) ∙ ask_more b c.args.own x few in
    subst (λ y. ReplicaStands c.send_ask.new.state y) (sym is) (made (noting m z) b c.args.own (mine x ∷ []) set (noted m z))) c.send_ask.ensures
