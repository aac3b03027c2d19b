use Rattle.std.proofs.Common.{◌∙◌, true, false}
use Rattle.crsm_mpspec.specs.Possible.{causes_of}
use Rattle.crsm_mpworld.specs.Doing.{cause_of}
use Rattle.crsm_mpworld.proofs.Reasons.{hit, pass, no_more, none, there, up_as}
use Rattle.crsm_mpworld.proofs.world.MpWorld.check_start.Goals as goal

pub returns-then-count-k : goal.returns-then-count-k
unfolding causes_of cause_of
returns-then-count-k c v h = hit _ _ _ (none v c.args.k c.count.result (c.count.ensures v.n v.sites h.sites) c.if-count-k.true)

pub returns-then-is_up : goal.returns-then-is_up
unfolding causes_of cause_of
returns-then-is_up c v h =
    pass _ _ _ (there v c.args.k c.count.result (c.count.ensures v.n v.sites h.sites) c.if-count-k.false)
    ∙ hit _ _ _ (up_as v c.args.k c.is_up.result true (c.is_up.ensures.up v.n v.sites h.sites) c.if-is_up.true)

pub returns : goal.returns
unfolding causes_of cause_of
returns c v h =
    pass _ _ _ (there v c.args.k c.count.result (c.count.ensures v.n v.sites h.sites) c.if-count-k.false)
    ∙ pass _ _ _ (up_as v c.args.k c.is_up.result false (c.is_up.ensures.up v.n v.sites h.sites) c.if-is_up.false) ∙ no_more
