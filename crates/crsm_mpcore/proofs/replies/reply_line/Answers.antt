use Rattle.std.proofs.Common.{◌∙◌, sym}
use Rattle.crsm_mpspec.specs.Log.{executed}
use Rattle.crsm_mpcore.proofs.ReplyLemmas.{replied-other, replied-same}
use Rattle.crsm_mpcore.proofs.replies.reply_line.Goals as goal

pub returns-in-Some : goal.returns-in-Some
returns-in-Some c x v s found =
    replied-same c.me-replica.result x.replica.me (executed x.replica.log) c.args.slot c.args.command.now v (c.me-replica.ensures.is x s) c.in-Some.answer
    (sym c.in-Some.is ∙ c.in_ok-answer.ensures x v s found)

pub returns-in-None : goal.returns-in-None
returns-in-None c x v s found =
    replied-other c.me-replica.result x.replica.me (executed x.replica.log) c.args.slot c.args.command.now v (c.me-replica.ensures.is x s)
    (sym c.in-None.is ∙ c.in_ok-answer.ensures x v s found)
