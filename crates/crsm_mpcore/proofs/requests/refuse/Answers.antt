use Rattle.std.proofs.Common.{subst}
use Rattle.crsm_mpspec.specs.declared.line.MpLine.{MpLine}
use Rattle.crsm_mpspec.specs.Deciding.{refuse}
use Rattle.crsm_mpspec.specs.Draft.{reply}
use Rattle.crsm_mpreplica.specs.State.{MpReplicaStands}
use Rattle.crsm_mpcore.proofs.requests.refuse.Goals as goal

pub returns : goal.returns
unfolding refuse
returns c x s =
    let d = c.args.command.now in
    subst (λ k. MpReplicaStands c.reply.new.self (reply (MpLine.ReplyNo x.replica.me d.client d.number k) x)) c.code_of.ensures
    (subst (λ me. MpReplicaStands c.reply.new.self (reply (MpLine.ReplyNo me d.client d.number c.code_of.result) x)) (c.me.ensures.is x s) (c.in_ok-reply.ensures x s))
