use Rattle.std.proofs.Common.{ap}
use Rattle.crsm_spec.specs.Moments.{lose_batch}
use Rattle.crsm_world.specs.Turning.{ending_of}
use Rattle.crsm_world.proofs.Reasons.{empty_is}
use Rattle.crsm_world.proofs.Leading.{leads_as, leads_on, leads_begun, leads_still}
use Rattle.crsm_world.proofs.world.World.lose_together.Goals as goal

pub returns-in_default : goal.returns-in_default
unfolding lose_batch
returns-in_default c v h =
    leads_as _ _ _ _ (ap (λ is. lose_batch c.args.reading is v) (empty_is c.args.numbers.now c.in_default.ensures.cases)) (leads_still v _ _ h.sites h.network c.new.ensures)

pub returns : goal.returns
unfolding lose_batch ending_of
returns c v h =
    leads_as _ _ _ _ (ap (λ is. lose_batch c.args.reading is v) c.in-Some.ensures.cases.0) (leads_begun v _ _ _ (leads_on _ _ _ _ c.new-lines.ensures (c.in_ok-go.ensures _ (c.use_up_all.ensures v h))))
