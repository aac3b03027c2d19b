use Rattle.std.proofs.Common.{◌∙◌, ap, sym, subst}
use Rattle.crsm_base.specs.Order.{ballot_lt}
use Rattle.crsm_base.specs.Spelling.{FitsBallot}
use Rattle.crsm_spec.specs.Choice.{when◌then◌otherwise◌}
use Rattle.crsm_mpspec.specs.declared.message.MpMessage.{MpMessage}
use Rattle.crsm_mpspec.specs.Draft.{send}
use Rattle.crsm_mpspec.specs.Deciding.{on_acc}
use Rattle.crsm_mpreplica.specs.State.{MpReplicaStands}
use Rattle.crsm_mpcore.specs.Parts.{accept_once}
use Rattle.crsm_mpcore.proofs.SoundLemmas.{promised-fits}
use Rattle.crsm_mpcore.proofs.deciding.on_acc.Goals as goal

pub returns-then-ballot_precedes : goal.returns-then-ballot_precedes
unfolding on_acc when◌then◌otherwise◌
returns-then-ballot_precedes c x s fits =
    let same = c.promised-promised.ensures x.replica.log (c.ledger.ensures x s) in
    let less = ap (ballot_lt c.args.ballot) (sym same) ∙ sym c.ballot_precedes.ensures ∙ c.if-ballot_precedes.true in
    rw (less)
    (subst (λ p. MpReplicaStands c.send.new.self (send (MpMessage.No p) x c.args.from)) same
    (c.in_ok-send.ensures x s (subst FitsBallot (sym same) (promised-fits x.replica.log s.ledger.sound))))

pub returns : goal.returns
unfolding on_acc accept_once when◌then◌otherwise◌
returns c x s fits =
    let same = c.promised-promised.ensures x.replica.log (c.ledger.ensures x s) in
    let less = ap (ballot_lt c.args.ballot) (sym same) ∙ sym c.ballot_precedes.ensures ∙ c.if-ballot_precedes.false in
    rw (less)
    (c.in_ok-send-2.ensures (accept_once c.args.ballot c.args.slot c.args.value.now x) (c.in_ok-accept_once.ensures x s fits) (fits.1, fits.0))
