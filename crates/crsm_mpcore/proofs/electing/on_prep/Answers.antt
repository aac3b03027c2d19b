use Rattle.std.proofs.Common.{◌≡◌, ◌∙◌, true, false, sym, subst}
use Rattle.crsm_base.specs.Order.{ballot_lt}
use Rattle.crsm_base.specs.Spelling.{FitsBallot}
use Rattle.crsm_spec.specs.Choice.{when◌then◌otherwise◌}
use Rattle.crsm_mpspec.specs.declared.message.MpMessage.{MpMessage}
use Rattle.crsm_mpspec.specs.Types.{Ballot}
use Rattle.crsm_mpspec.specs.Draft.{send}
use Rattle.crsm_mpspec.specs.Electing.{on_prep}
use Rattle.crsm_mpreplica.specs.State.{MpReplicaStands}
use Rattle.crsm_mpcore.specs.Elections.{with_promise, send_report}
use Rattle.crsm_mpcore.proofs.SoundLemmas.{promised-fits}
use Rattle.crsm_mpcore.proofs.electing.on_prep.Goals as goal

pub returns-then-ballot_precedes : goal.returns-then-ballot_precedes
unfolding on_prep when◌then◌otherwise◌
returns-then-ballot_precedes c x s fits =
    let ledger = c.ledger.ensures x s in
    let p = c.promised-promised.ensures x.replica.log ledger in
    let below = subst (λ (q : Ballot). ballot_lt c.args.ballot q ≡ true) p (sym c.ballot_precedes.ensures ∙ c.if-ballot_precedes.true) in
    rw (below)
    (subst (λ (q : Ballot). MpReplicaStands c.send.new.self (send (MpMessage.No q) x c.args.from)) p
    (c.in_ok-send.ensures x s (subst FitsBallot (sym p) (promised-fits x.replica.log ledger.sound))))

pub returns : goal.returns
unfolding on_prep with_promise send_report when◌then◌otherwise◌
returns c x s fits =
    let p = c.promised-promised.ensures x.replica.log (c.ledger.ensures x s) in
    let above = subst (λ (q : Ballot). ballot_lt c.args.ballot q ≡ false) p (sym c.ballot_precedes.ensures ∙ c.if-ballot_precedes.false) in
    rw (above) (c.in_ok-report_to.ensures (with_promise c.args.ballot x) (c.in_ok-promise_above.ensures x s fits) fits)
