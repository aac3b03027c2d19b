use Rattle.std.proofs.Common.{◌∙◌}
use Rattle.crsm_mpworld.proofs.Reasons.{any_none}
use Rattle.crsm_mpworld.proofs.world.MpWorld.lacks_one.Goals as goal

pub returns : goal.returns
returns c v h = c.one_is_past.ensures ∙ any_none v c.count.result c.args.members.now (c.count.ensures v.n v.sites h.sites)
