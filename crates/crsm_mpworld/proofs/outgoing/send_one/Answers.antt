use Rattle.std.proofs.Common.{sym, subst}
use Rattle.crsm_mpspec.specs.declared.multicast.MpReceivers.{MpReceivers}
use Rattle.crsm_mpspec.specs.Sends.{receivers}
use Rattle.crsm_mpworld.specs.Effects.{HasSent, to_each}
use Rattle.crsm_mpworld.proofs.Marked.{has_last}
use Rattle.crsm_mpworld.proofs.Receivers.{fits_first}
use Rattle.crsm_mpworld.proofs.outgoing.send_one.Goals as goal

pub hold-requires : goal.hold-requires
hold-requires c = fits_first c.args.multicast.message (receivers c.args.multicast.receivers) c.requires.some c.requires.fit

pub send_to-requires : goal.send_to-requires
send_to-requires c = has_last _ _ _ c.in_ok-hold.ensures.last

pub send_to_others-requires : goal.send_to_others-requires
send_to_others-requires c = has_last _ _ _ c.in_ok-hold.ensures.last

pub returns-in_ok-send_to-in-One : goal.returns-in_ok-send_to-in-One
returns-in_ok-send_to-in-One c packets bytes h =
    subst (λ (r : MpReceivers). HasSent c.args.k (to_each c.args.multicast.message (receivers r)) packets bytes c.args.lines.now c.send_to.new.network c.send_to.new.lines) (sym c.in-One.is)
    (c.in_ok-send_to-in-One.ensures.sent c.args.multicast.message c.in_ok-hold.ensures.last c.kind_of-kind.ensures packets bytes (c.hold.ensures.stands packets bytes h))

pub returns-in_ok-send_to_others-in-Others : goal.returns-in_ok-send_to_others-in-Others
returns-in_ok-send_to_others-in-Others c packets bytes h =
    subst (λ (r : MpReceivers). HasSent c.args.k (to_each c.args.multicast.message (receivers r)) packets bytes c.args.lines.now c.send_to_others.new.network c.send_to_others.new.lines) (sym c.in-Others.is)
    (c.in_ok-send_to_others-in-Others.ensures c.args.multicast.message c.in_ok-hold.ensures.last c.kind_of-kind.ensures packets bytes (c.hold.ensures.stands packets bytes h))
