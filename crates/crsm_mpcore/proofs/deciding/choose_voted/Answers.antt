use Rattle.std.proofs.Common.{◌∙◌, sym, subst}
use Rattle.crsm_spec.specs.Choice.{when◌then◌otherwise◌}
use Rattle.crsm_mpspec.specs.declared.message.MpMessage.{MpMessage}
use Rattle.crsm_mpspec.specs.Draft.{send_to_others}
use Rattle.crsm_mpspec.specs.Deciding.{choose, choose_accepted, choose_voted}
use Rattle.crsm_mpreplica.specs.Fitting.{FitsValue}
use Rattle.crsm_mpreplica.specs.State.{MpReplicaStands}
use Rattle.crsm_mpcore.proofs.DecidingLemmas.{choose-unknown, voted-unknown}
use Rattle.crsm_mpcore.proofs.SoundLemmas.{accepted-fits}
use Rattle.crsm_mpcore.proofs.deciding.choose_voted.Goals as goal

pub returns-then-not-is_voted : goal.returns-then-not-is_voted
unfolding choose_voted when◌then◌otherwise◌
returns-then-not-is_voted c x s = rw (sym (c.is_voted.ensures x s) ∙ c.if-not-is_voted.true) s

pub returns-in_default : goal.returns-in_default
unfolding choose_voted choose_accepted when◌then◌otherwise◌
returns-in_default c x s =
    rw (sym (c.is_voted.ensures x s) ∙ c.if-not-is_voted.false, sym (c.in_default.ensures x.replica.log (c.ledger.ensures x s))) s

pub returns : goal.returns
unfolding choose_voted choose_accepted when◌then◌otherwise◌
returns c x s =
    let log = x.replica.log in
    let slot = c.args.slot in
    let a = c.in-Some.field-0.now in
    let voted = sym (c.is_voted.ensures x s) ∙ c.if-not-is_voted.false in
    let held = sym (c.in-Some.ensures log (c.ledger.ensures x s)) in
    let fits = accepted-fits slot log a s.ledger.sound held in
    let same = c.in_ok-value.ensures in
    let spelt = subst FitsValue (sym same) fits.2 in
    let told = c.in_ok-send_to_others.ensures (choose slot c.in_ok-value.value x) (c.in_ok-choose.ensures x s (fits.0, spelt)) (fits.0, spelt) in
    rw (voted, held)
    (subst (λ y. MpReplicaStands c.send_to_others.new.self (send_to_others (MpMessage.Learn slot a.1) y)) (choose-unknown slot a.1 x (voted-unknown slot x.replica voted))
    (subst (λ v. MpReplicaStands c.send_to_others.new.self (send_to_others (MpMessage.Learn slot v) (choose slot v x))) same told))
