use Rattle.std.proofs.Common.{◌∙◌, true, false}
use Rattle.crsm_mpspec.specs.Possible.{causes_of}
use Rattle.crsm_mpworld.specs.Doing.{cause_of}
use Rattle.crsm_mpworld.proofs.Reasons.{hit, pass, no_more, unsent, sent, used_as}
use Rattle.crsm_mpworld.proofs.world.MpWorld.check_fresh.Goals as goal

pub returns-then-count-number : goal.returns-then-count-number
unfolding causes_of cause_of
returns-then-count-number c v h = hit _ _ _ (unsent v c.args.number c.count.result (c.count.ensures v.packets v.bytes h.network) c.if-count-number.true)

pub returns-then-is_used : goal.returns-then-is_used
unfolding causes_of cause_of
returns-then-is_used c v h = pass _ _ _ (sent v c.args.number c.count.result (c.count.ensures v.packets v.bytes h.network) c.if-count-number.false) ∙ hit _ _ _ (used_as v c.args.number c.is_used.result true (c.is_used.ensures v.packets v.bytes h.network) c.if-is_used.true)

pub returns : goal.returns
unfolding causes_of cause_of
returns c v h = pass _ _ _ (sent v c.args.number c.count.result (c.count.ensures v.packets v.bytes h.network) c.if-count-number.false) ∙ pass _ _ _ (used_as v c.args.number c.is_used.result false (c.is_used.ensures v.packets v.bytes h.network) c.if-is_used.false) ∙ no_more
