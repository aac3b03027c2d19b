use Rattle.std.proofs.Common.{◌∙◌, sym, subst}
use Rattle.crsm_spec.specs.Choice.{when◌then◌otherwise◌}
use Rattle.crsm_mpspec.specs.Draft.{count_vote}
use Rattle.crsm_mpreplica.specs.State.{MpReplicaStands}
use Rattle.crsm_mpcore.proofs.DecidingLemmas.{accd-is}
use Rattle.crsm_mpcore.proofs.deciding.on_accd.Goals as goal

pub returns-in_ok-choose_voted : goal.returns-in_ok-choose_voted
unfolding when◌then◌otherwise◌
returns-in_ok-choose_voted c x s fits =
    let k = c.args.from in
    let slot = c.args.slot in
    let taken = c.in_ok-take_vote.ensures x s in
    let awaits = sym taken.0 ∙ c.if-branch.true in
    let voted = subst (λ b. MpReplicaStands c.take_vote.new.self (when b then count_vote slot k x otherwise x)) awaits taken.1 in
    rw (accd-is k c.args.ballot slot x, awaits) (c.in_ok-choose_voted.ensures (count_vote slot k x) voted)

pub returns-else-branch : goal.returns-else-branch
unfolding when◌then◌otherwise◌
returns-else-branch c x s fits =
    let k = c.args.from in
    let slot = c.args.slot in
    let taken = c.in_ok-take_vote.ensures x s in
    let awaits = sym taken.0 ∙ c.if-branch.false in
    rw (accd-is k c.args.ballot slot x, awaits) (subst (λ b. MpReplicaStands c.take_vote.new.self (when b then count_vote slot k x otherwise x)) awaits taken.1)
