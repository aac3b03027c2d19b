use Rattle.std.proofs.Common.{◌∙◌}
use Rattle.crsm_world.proofs.Reasons.{any_none}
use Rattle.crsm_world.proofs.world.World.lacks_one.Goals as goal

pub returns : goal.returns
returns c v h = c.one_is_past.ensures ∙ any_none v c.count-count.result c.args.members.now (c.count-count.ensures v.n v.sites h.sites)
