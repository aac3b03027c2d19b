use Rattle.std.proofs.Common.{◌∙◌, ap, sym, Some}
use Rattle.crsm_mpworld.proofs.Reasons.{down_is, receiver_down, no_receiver}
use Rattle.crsm_mpworld.proofs.world.MpWorld.is_receiver_down.Goals as goal

pub returns-in-Some : goal.returns-in-Some
returns-in-Some c v h =
    sym (receiver_down v c.args.number c.from.result (ap Some c.from.ensures ∙ c.in-Some.ensures v.packets v.bytes h.network) ∙ down_is v c.from.result c.is_up.result (c.is_up.ensures.up v.n v.sites h.sites))

pub returns-in-None : goal.returns-in-None
returns-in-None c v h = sym (no_receiver v c.args.number (c.in-None.ensures v.packets v.bytes h.network))
