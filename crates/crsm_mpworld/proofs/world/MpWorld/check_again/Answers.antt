use Rattle.std.proofs.Common.{◌∙◌, ap, sym, true, false, not}
use Rattle.crsm_mpspec.specs.Possible.{causes_of_single}
use Rattle.crsm_mpworld.specs.Doing.{cause_of}
use Rattle.crsm_mpworld.proofs.Reasons.{hit, pass, no_more, unsent, sent, used_as}
use Rattle.crsm_mpworld.proofs.world.MpWorld.check_again.Goals as goal

pub returns-then-count-number : goal.returns-then-count-number
unfolding causes_of_single cause_of
returns-then-count-number c v t h = hit _ _ _ (unsent v c.args.number c.count.result (c.count.ensures v.packets v.bytes h.network) c.if-count-number.true)

pub returns-then-not-is_used : goal.returns-then-not-is_used
unfolding causes_of_single cause_of
returns-then-not-is_used c v t h = pass _ _ _ (sent v c.args.number c.count.result (c.count.ensures v.packets v.bytes h.network) c.if-count-number.false) ∙ hit _ _ _ (ap not (used_as v c.args.number c.is_used.result false (c.is_used.ensures v.packets v.bytes h.network) c.if-not-is_used.true))

pub returns-then-is_receiver_down : goal.returns-then-is_receiver_down
unfolding causes_of_single cause_of
returns-then-is_receiver_down c v t h = pass _ _ _ (sent v c.args.number c.count.result (c.count.ensures v.packets v.bytes h.network) c.if-count-number.false) ∙ pass _ _ _ (ap not (used_as v c.args.number c.is_used.result true (c.is_used.ensures v.packets v.bytes h.network) c.if-not-is_used.false)) ∙ hit _ _ _ (sym (c.is_receiver_down.ensures v h) ∙ c.if-is_receiver_down.true)

pub returns : goal.returns
unfolding causes_of_single cause_of
returns c v t h = pass _ _ _ (sent v c.args.number c.count.result (c.count.ensures v.packets v.bytes h.network) c.if-count-number.false) ∙ pass _ _ _ (ap not (used_as v c.args.number c.is_used.result true (c.is_used.ensures v.packets v.bytes h.network) c.if-not-is_used.false)) ∙ pass _ _ _ (sym (c.is_receiver_down.ensures v h) ∙ c.if-is_receiver_down.false) ∙ no_more
