use Rattle.std.proofs.Common.{◌≡◌, [], ◌∷◌, ◌++◌, map, ap, ◌∙◌, rules}
use Rattle.crsm_replica.specs.Replica.{ReplicaStands}
use Rattle.crsm_fact_log.proofs.Lists.{all-push, map-push}
use Rattle.crsm_spec.specs.Replica.{Waiting}
use Rattle.crsm_spec.specs.Clients.{await}
use Rattle.crsm_replica.specs.declared.state.Waiting.{Waiting as WaitingInMemory}
use Rattle.crsm_replica.specs.Sound.{FitsWaiting}
use Rattle.crsm_replica.specs.Replica.{on_paper}
use Rattle.crsm_replica.proofs.Rebuilt.{awaits}
use Rattle.crsm_replica.proofs.state.ReplicaState.await_entry.Goals as goal

pub returns : goal.returns
unfolding ReplicaStands await on_paper
returns c x s =
    let one : WaitingInMemory = record { address = c.args.address; entry = c.args.entry } in
    let more : c.push.new.self.items ≡ c.args.self.now.waiting.items ++ one ∷ [] = search rules in
    let w : Waiting = record { address = c.args.address; entry = c.args.entry } in
    awaits c.args.self.now x c.push.new.self (x.replica.waiting ++ w ∷ []) s
    (ap (map on_paper) more ∙ map-push on_paper c.args.self.now.waiting.items one ∙ ap (λ ws. ws ++ w ∷ []) s.waiting)
    (all-push FitsWaiting x.replica.waiting w s.sound.waiting (search rules, c.requires))
