use Rattle.std.proofs.Common.{ℕ, ◌++◌, ◌∷◌, [], subst}
use Rattle.std.proofs.lemmas.Result.{IfOk-weaker}
use Rattle.crsm_fact_log.proofs.Lists.{all-push}
use Rattle.crsm_replica_output.specs.Made.{made_of, OutputStands, on_paper as on_paper_too}
use Rattle.crsm_spec.specs.Types.{Line, Outcome, Refusal}
use Rattle.crsm_spec.specs.Clients.{reply_dropped}
use Rattle.crsm_spec.specs.Draft.{Reply, reply}
use Rattle.crsm_replica.specs.Sound.{FitsReply}
use Rattle.crsm_replica.specs.Replica.{ReplicaStands, on_paper}
use Rattle.crsm_replica.proofs.Rebuilt.{sent}
use Rattle.crsm_replica.proofs.state.ReplicaState.reply_dropped.Goals as goal

pub returns : goal.returns
unfolding ReplicaStands on_paper on_paper_too reply_dropped reply
returns c =
    IfOk-weaker c.reply.result _ _ (λ _ is x s fit.
    let e = c.args.client.now.entry in
    let command = e.command in
    let told : ℕ → Reply = λ me. record { address = c.args.client.now.address; client = command.client; number = command.number; says = Outcome.Refused Refusal.Dropped; line = Line.ReplyDropped me command.client command.number e.epoch e.stamp } in
    sent c.args.self.now x c.reply.new.self x.excess x.sends (x.replies ++ told x.replica.me ∷ []) s
    (subst (λ (m : ℕ). OutputStands c.reply.new.self (record (made_of x) { replies = x.replies ++ told m ∷ [] })) s.me (is (made_of x) s.output))
    s.sound.sends
    (all-push FitsReply x.replies (told x.replica.me) s.sound.replies (fit.0, (fit.1.command.client, fit.1.command.number, tt)))) c.reply.ensures
