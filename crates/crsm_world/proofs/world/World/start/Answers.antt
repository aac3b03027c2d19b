use Rattle.crsm_world.proofs.Booting.{can_boot, started, not_started}
use Rattle.crsm_world.proofs.world.World.start.Goals as goal

pub returns-in_default : goal.returns-in_default
returns-in_default c v h can = absurd (not_started v c.args.replica can _ c.in_ok-boot.field-0 c.in_default.is (c.in_ok-boot.ensures v.n v.sites h.sites can.below can.log (can_boot v c.args.replica can)))

pub returns : goal.returns
returns c v h can = started v c.args.replica can _ c.in-Some.boot c.in_ok-boot.field-0 c.in-Some.is (c.in_ok-boot.ensures v.n v.sites h.sites can.below can.log (can_boot v c.args.replica can)) (c.in_ok-keep.ensures v.packets v.bytes h.network)
