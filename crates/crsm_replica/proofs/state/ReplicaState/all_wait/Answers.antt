use Rattle.std.proofs.Common.{◌≡◌, ◌+◌, ◌++◌, ◌∷◌, [], arith, rules, sym, subst, take, ◌∙◌}
use Rattle.std.proofs.lemmas.Grind.{common_steps}
use Rattle.std.proofs.lemmas.List.{take_all}
use Rattle.std.specs.List.{AllByRecursion}
use Rattle.crsm_fact_log.proofs.Lists.{all-push}
use Rattle.crsm_replica.specs.Replica.{ReplicaStands, on_paper}
use Rattle.crsm_replica.proofs.Replying.{Waits, replies-wait, waits-paper}
use Rattle.crsm_replica.proofs.state.ReplicaState.all_wait.Goals as goal

pub loop-client-preserved : goal.loop-client-preserved
unfolding on_paper
loop-client-preserved c x s =
    let clients = c.as_slice-client-items.result.now in
    let more : take (c.loop-client.client-index + 1) clients ≡ take c.loop-client.client-index clients ++ c.client-item.result ∷ [] = grind (arith, common_steps) in
    subst (AllByRecursion (λ w. Waits x (on_paper w))) (sym more)
    (all-push (λ w. Waits x (on_paper w)) (take c.loop-client.client-index clients) c.client-item.result (c.loop-client.invariant x s) (c.waits_on.ensures (search rules) x s))

pub returns : goal.returns
unfolding ReplicaStands
returns c is x s =
    let all : take c.loop-client.client-index c.as_slice-client-items.result.now ≡ c.args.self.now.waiting.items =
    take_all c.loop-client.client-index c.as_slice-client-items.result.now (omega arith) ∙ c.as_slice-client-items.ensures.value in
    replies-wait x
    (subst (AllByRecursion (Waits x)) s.waiting (waits-paper x c.args.self.now.waiting.items
    (subst (AllByRecursion (λ w. Waits x (on_paper w))) all (c.loop-client.invariant x s))))
