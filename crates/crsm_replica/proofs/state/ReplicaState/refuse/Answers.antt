use Rattle.std.proofs.Common.{ℕ, [], ◌∷◌, ◌++◌, subst, rules}
use Rattle.std.proofs.lemmas.Result.{IfOk-weaker}
use Rattle.crsm_replica.specs.Replica.{ReplicaStands}
use Rattle.crsm_fact_log.proofs.Lists.{all-push}
use Rattle.crsm_replica_output.specs.Made.{made_of, OutputStands, on_paper}
use Rattle.crsm_base.specs.Spelling.{refusal_number}
use Rattle.crsm_spec.specs.Types.{Line, Outcome}
use Rattle.crsm_spec.specs.Draft.{Reply, reply}
use Rattle.crsm_spec.specs.Clients.{refuse}
use Rattle.crsm_replica.specs.Sound.{FitsReply}
use Rattle.crsm_replica.proofs.Rebuilt.{sent}
use Rattle.crsm_replica.proofs.state.ReplicaState.refuse.Goals as goal

pub returns : goal.returns
unfolding ReplicaStands refuse reply on_paper
returns c =
    IfOk-weaker c.reply.result _ _ (λ _ is x s.
    let command = c.args.command.now in
    let told : ℕ → ℕ → Reply = λ me code. record { address = c.args.address; client = command.client; number = command.number; says = Outcome.Refused c.args.why; line = Line.ReplyNo me command.client command.number code } in
    let one : Reply = told x.replica.me (refusal_number c.args.why) in
    sent c.args.self.now x c.reply.new.self x.excess x.sends (x.replies ++ one ∷ []) s
    (subst (λ (a : Reply). OutputStands c.reply.new.self (record (made_of x) { replies = x.replies ++ a ∷ [] })) (λ j. told (s.me j) (c.code_of.ensures j))
    (is (made_of x) s.output))
    s.sound.sends
    (all-push FitsReply x.replies one s.sound.replies (search rules, (c.requires.client, c.requires.number, tt)))) c.reply.ensures
