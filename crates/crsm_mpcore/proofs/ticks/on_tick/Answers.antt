use Rattle.std.proofs.Common.{◌≡◌, ◌∙◌, ℕ, length, ap, subst}
use Rattle.crsm_mpspec.specs.declared.message.MpMessage.{MpMessage}
use Rattle.crsm_mpspec.specs.Log.{executed}
use Rattle.crsm_mpspec.specs.Replica.{Replica}
use Rattle.crsm_mpspec.specs.Draft.{Draft, send_to_others}
use Rattle.crsm_mpspec.specs.Step.{on_tick}
use Rattle.crsm_mpreplica.specs.State.{MpReplicaStands}
use Rattle.crsm_mpcore.specs.Ticks.{ask_again, propose_all_again}
use Rattle.crsm_mpcore.proofs.TickLemmas.{renews, ask-replica, again-replica}
use Rattle.crsm_mpcore.proofs.ticks.on_tick.Goals as goal

pub returns : goal.returns
unfolding on_tick
returns c x s =
    let y = ask_again x in
    let z = propose_all_again y in
    let stands = c.in_ok-propose_all_again.ensures y (c.in_ok-ask_again.ensures x s) in
    let same = again-replica y ∙ ask-replica x in
    let start : c.executed_len-start.result ≡ length (executed x.replica.log) = c.executed_len-start.ensures.value z.replica.log (c.ledger.ensures z stands) ∙ ap (λ (r : Replica). length (executed r.log)) same in
    let sent = c.in_ok-send_to_others.ensures z stands tt in
    subst (λ (w : Draft). MpReplicaStands c.send_to_others.new.self (send_to_others (MpMessage.Ask (length (executed x.replica.log))) w)) (renews x)
    (subst (λ (k : ℕ). MpReplicaStands c.send_to_others.new.self (send_to_others (MpMessage.Ask k) z)) start sent)
