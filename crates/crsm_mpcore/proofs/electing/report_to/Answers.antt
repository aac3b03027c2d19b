use Rattle.std.proofs.Common.{◌≡◌, sym, subst}
use Rattle.std.specs.Prelude.{List}
use Rattle.std.specs.List.{AllByRecursion}
use Rattle.crsm_mpspec.specs.declared.message.MpMessage.{MpMessage}
use Rattle.crsm_mpspec.specs.declared.accepts.MpAccepted.{MpAccepted}
use Rattle.crsm_mpspec.specs.declared.choices.MpChosen.{MpChosen}
use Rattle.crsm_mpspec.specs.Log.{accepted_from, chosen_from}
use Rattle.crsm_mpspec.specs.Draft.{send}
use Rattle.crsm_mpreplica.specs.Fitting.{FitsAccepted, FitsChosen}
use Rattle.crsm_mpreplica.specs.State.{MpReplicaStands}
use Rattle.crsm_mpcore.specs.Elections.{send_report}
use Rattle.crsm_mpcore.proofs.SoundLemmas.{accepted_from-fits, chosen_from-fits}
use Rattle.crsm_mpcore.proofs.electing.report_to.Goals as goal

pub returns : goal.returns
unfolding send_report
returns c x s fits =
    let log = x.replica.log in
    let ledger = c.ledger.ensures x s in
    let accepted : c.in_ok-accepted_from.field-0 ≡ accepted_from c.args.start log = c.in_ok-accepted_from.ensures log ledger in
    let chosen : c.in_ok-chosen_from.field-0 ≡ chosen_from c.args.start log = c.in_ok-chosen_from.ensures log (c.ledger-2.ensures x s) in
    let sent = c.in_ok-send.ensures x s
    (fits, subst (AllByRecursion FitsAccepted) (sym accepted) (accepted_from-fits c.args.start log ledger.sound), subst (AllByRecursion FitsChosen) (sym chosen) (chosen_from-fits c.args.start log ledger.sound)) in
    subst (λ (cs : List MpChosen). MpReplicaStands c.send.new.self (send (MpMessage.Prom c.args.ballot (accepted_from c.args.start log) cs) x c.args.to)) chosen
    (subst (λ (xs : List MpAccepted). MpReplicaStands c.send.new.self (send (MpMessage.Prom c.args.ballot xs c.in_ok-chosen_from.field-0) x c.args.to)) accepted sent)
