use Rattle.std.proofs.Common.{◌∙◌, refl, ap, sym}
use Rattle.std.specs.Prelude.{take}
use Rattle.crsm_spec.specs.Choice.{when◌then◌otherwise◌}
use Rattle.crsm_mpspec.specs.Log.{executed}
use Rattle.crsm_mpspec.specs.Values.{is_command}
use Rattle.crsm_mpcore.proofs.ReplyLemmas.{answer-is, one_some}
use Rattle.crsm_mpcore.proofs.replies.answer_to.Goals as goal

pub returns-then-not-is_command : goal.returns-then-not-is_command
unfolding when◌then◌otherwise◌
returns-then-not-is_command c x v s found =
    let value = one_some c.in-Some.value.now v (c.in-Some.ensures x.replica.log (c.ledger.ensures x s) ∙ found) in
    let other = ap (is_command c.args.command.now) (sym value) ∙ sym c.is_command.ensures ∙ c.if-not-is_command.true in
    rw (other) refl

pub returns : goal.returns
unfolding when◌then◌otherwise◌
returns c x v s found =
    let log = x.replica.log in
    let d = c.args.command.now in
    let value = one_some c.in-Some.value.now v (c.in-Some.ensures log (c.ledger.ensures x s) ∙ found) in
    let same = ap (is_command d) (sym value) ∙ sym c.is_command.ensures ∙ c.if-not-is_command.false in
    rw (same) (c.in_ok-answer.ensures log (c.ledger-2.ensures x s) v found ∙ answer-is d (take c.args.slot (executed log)) v same)
