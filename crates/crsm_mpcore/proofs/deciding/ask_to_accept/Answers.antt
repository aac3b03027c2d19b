use Rattle.std.proofs.Common.{sym, subst}
use Rattle.crsm_mpspec.specs.declared.message.MpMessage.{MpMessage}
use Rattle.crsm_mpspec.specs.Draft.{count_vote, send_to_others}
use Rattle.crsm_mpspec.specs.Deciding.{choose_voted}
use Rattle.crsm_mpreplica.specs.Fitting.{FitsValue}
use Rattle.crsm_mpreplica.specs.State.{MpReplicaStands}
use Rattle.crsm_mpcore.specs.Parts.{ask_to_accept}
use Rattle.crsm_mpcore.proofs.deciding.ask_to_accept.Goals as goal

pub returns : goal.returns
unfolding ask_to_accept
returns c x s fits =
    let b = c.args.ballot in
    let slot = c.args.slot in
    let y = count_vote slot x.replica.me x in
    let same = c.in_ok-share.ensures in
    subst (λ v. MpReplicaStands c.choose_voted.new.state (choose_voted slot (send_to_others (MpMessage.Acc b slot v) y))) same
    (c.in_ok-choose_voted.ensures (send_to_others (MpMessage.Acc b slot c.in_ok-share.field-0) y)
    (c.in_ok-send_to_others.ensures y (c.in_ok-open_slot.ensures x s) (fits.1, fits.0, subst FitsValue (sym same) fits.2)))
