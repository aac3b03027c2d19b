use Rattle.std.proofs.Common.{ℕ, ◌++◌, ◌∷◌, [], subst}
use Rattle.std.proofs.lemmas.Result.{IfOk-weaker}
use Rattle.crsm_fact_log.proofs.Lists.{all-push}
use Rattle.crsm_replica_output.specs.Made.{made_of, OutputStands, on_paper as on_paper_too}
use Rattle.crsm_spec.specs.Types.{Line, Outcome, Answer}
use Rattle.crsm_spec.specs.Clients.{reply_ok}
use Rattle.crsm_spec.specs.Draft.{Reply, reply}
use Rattle.crsm_replica.specs.Sound.{FitsReply}
use Rattle.crsm_replica.specs.Replica.{ReplicaStands, on_paper}
use Rattle.crsm_replica.proofs.Rebuilt.{sent}
use Rattle.crsm_replica.proofs.state.ReplicaState.reply_ok.Goals as goal

pub returns : goal.returns
unfolding ReplicaStands on_paper on_paper_too reply_ok reply
returns c =
    IfOk-weaker c.reply.result _ _ (λ _ is x s fit spelt.
    let command = c.args.client.now.entry.command in
    let told : ℕ → Answer → Reply = λ me a. record { address = c.args.client.now.address; client = command.client; number = command.number; says = Outcome.Answered a; line = Line.ReplyOk me command.client command.number c.args.place c.args.answer } in
    sent c.args.self.now x c.reply.new.self x.excess x.sends (x.replies ++ told x.replica.me c.args.answer ∷ []) s
    (subst (λ (a : Answer). OutputStands c.reply.new.self (record (made_of x) { replies = x.replies ++ told x.replica.me a ∷ [] })) c.in-Ok.ensures
    (subst (λ (m : ℕ). OutputStands c.reply.new.self (record (made_of x) { replies = x.replies ++ told m c.in-Ok.said ∷ [] })) s.me (is (made_of x) s.output)))
    s.sound.sends
    (all-push FitsReply x.replies (told x.replica.me c.args.answer) s.sound.replies (fit.0, (fit.1.command.client, fit.1.command.number, spelt)))) c.reply.ensures
