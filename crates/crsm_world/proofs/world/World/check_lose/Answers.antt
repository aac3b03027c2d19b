use Rattle.std.proofs.Common.{◌∙◌, true, false}
use Rattle.crsm_spec.specs.Possible.{causes_of}
use Rattle.crsm_world.specs.Doing.{bad_of}
use Rattle.crsm_world.proofs.Reasons.{hit, pass, no_more, unsent, sent, used_as}
use Rattle.crsm_world.proofs.world.World.check_lose.Goals as goal

pub returns-then-count-number : goal.returns-then-count-number
unfolding causes_of bad_of
returns-then-count-number c v h ne = hit _ _ _ (unsent v c.args.number c.count.result (c.count.ensures v.packets v.bytes h.network) c.if-count-number.true)

pub returns-then-is_used : goal.returns-then-is_used
unfolding causes_of bad_of
returns-then-is_used c v h ne = pass _ _ _ (sent v c.args.number c.count.result (c.count.ensures v.packets v.bytes h.network) c.if-count-number.false) ∙ hit _ _ _ (used_as v c.args.number c.is_used.result true (c.is_used.ensures v.packets v.bytes h.network) c.if-is_used.true)

pub returns : goal.returns
unfolding causes_of bad_of
returns c v h = pass _ _ _ (sent v c.args.number c.count.result (c.count.ensures v.packets v.bytes h.network) c.if-count-number.false) ∙ pass _ _ _ (used_as v c.args.number c.is_used.result false (c.is_used.ensures v.packets v.bytes h.network) c.if-is_used.false) ∙ no_more
