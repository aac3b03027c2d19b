use Rattle.std.proofs.Common.{◌∙◌, sym}
use Rattle.crsm_spec.specs.Choice.{when◌then◌otherwise◌}
use Rattle.crsm_mpreplica.proofs.VoteLemmas.{awaited-counts}
use Rattle.crsm_mpreplica.proofs.state.MpReplica.take_vote.Goals as goal

pub returns-then-not-awaits_vote : goal.returns-then-not-awaits_vote
unfolding when◌then◌otherwise◌
returns-then-not-awaits_vote c x s =
    let awaits = sym (c.awaits_vote.ensures x s) ∙ c.if-not-awaits_vote.true in
    (sym awaits, rw (awaits) s)

pub returns : goal.returns
unfolding when◌then◌otherwise◌
returns c x s =
    let awaits = sym (c.awaits_vote.ensures x s) ∙ c.if-not-awaits_vote.false in
    (sym awaits, rw (awaits) (c.in_ok-add_vote.ensures x s (awaited-counts c.args.ballot c.args.slot c.args.from x.replica x.replica.note awaits)))
