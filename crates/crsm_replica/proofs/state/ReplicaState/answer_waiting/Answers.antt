use Rattle.std.proofs.Common.{◌≡◌, ◌∙◌, ◌++◌, ◌∷◌, [], length, ap, sym, subst, map, rules}
use Rattle.std.proofs.lemmas.List.{nil_from_length}
use Rattle.std.specs.List.{AllByRecursion}
use Rattle.std.proofs.lemmas.List.{map-append, append-nil, append_assoc}
use Rattle.crsm_spec.specs.Clients.{answer_each, replies}
use Rattle.crsm_spec.specs.Draft.{Draft}
use Rattle.crsm_spec.specs.Replica.{Waiting}
use Rattle.crsm_replica.specs.Sound.{FitsWaiting}
use Rattle.crsm_replica.specs.Replica.{ReplicaStands, on_paper}
use Rattle.crsm_replica.proofs.Rebuilt.{awaits}
use Rattle.crsm_replica.proofs.Replying.{answer-more, middle-fits, waiting-fits}
use Rattle.crsm_replica.proofs.state.ReplicaState.answer_waiting.Goals as goal

pub loop-client-init : goal.loop-client-init
unfolding ReplicaStands answer_each
loop-client-init c x s =
    let none : c.replace-clients.new.dest.items ≡ [] = ap (λ v. v.items) c.replace-clients.ensures.after ∙ c.new.ensures.items in
    let all : c.into_iter-client-iterator.result.rest.items ≡ c.args.self.now.waiting.items =
    c.into_iter-client-iterator.ensures.into_iter_gives.0 ∙ ap (λ v. v.items) c.replace-clients.ensures.value in
    (awaits c.args.self.now x c.replace-clients.new.dest [] s (ap (map on_paper) none) tt, ap (map on_paper) all ∙ s.waiting)

pub loop-client-preserved : goal.loop-client-preserved
unfolding on_paper
loop-client-preserved c x s =
    let now = c.loop-client.invariant x s in
    let w : Waiting = on_paper c.in-Some.client in
    let step : c.loop-client.client-iterator.rest.items ≡ c.in-Some.client ∷ c.next.new.self.rest.items = search rules in
    let split : map on_paper c.loop-client.yielded ++ w ∷ map on_paper c.next.new.self.rest.items ≡ x.replica.waiting =
    sym (ap (λ vs. map on_paper c.loop-client.yielded ++ map on_paper vs) step) ∙ now.1 in
    let fit : FitsWaiting w = middle-fits FitsWaiting (map on_paper c.loop-client.yielded) w (map on_paper c.next.new.self.rest.items)
    (subst (AllByRecursion FitsWaiting) (sym split) (waiting-fits c.args.self.now x s)) in
    let y : Draft = record x { replica = record x.replica { waiting = [] } } in (
      subst (λ ws. ReplicaStands c.answer_client.new.self (answer_each ws y)) (sym (map-append on_paper c.loop-client.yielded (c.in-Some.client ∷ [])))
          (subst (λ (z : Draft). ReplicaStands c.answer_client.new.self z) (sym (answer-more (map on_paper c.loop-client.yielded) w y))
          (c.in_ok-answer_client.ensures (answer_each (map on_paper c.loop-client.yielded) y) now.0 fit)),
      ap (λ ws. ws ++ map on_paper c.next.new.self.rest.items) (map-append on_paper c.loop-client.yielded (c.in-Some.client ∷ []))
          ∙ append_assoc (map on_paper c.loop-client.yielded) (w ∷ []) (map on_paper c.next.new.self.rest.items) ∙ split,
    )

pub returns : goal.returns
unfolding replies
returns c x s =
    let now = c.loop-client.invariant x s in
    let count : length c.loop-client.client-iterator.rest.items ≡ 0 = search rules in
    let none : c.loop-client.client-iterator.rest.items ≡ [] = nil_from_length c.loop-client.client-iterator.rest.items count in
    let all : map on_paper c.loop-client.yielded ≡ x.replica.waiting =
    sym (append-nil (map on_paper c.loop-client.yielded)) ∙ sym (ap (λ vs. map on_paper c.loop-client.yielded ++ map on_paper vs) none) ∙ now.1 in
    subst (λ ws. ReplicaStands c.loop-client.self (answer_each ws (record x { replica = record x.replica { waiting = [] } }))) all now.0
